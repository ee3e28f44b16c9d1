-- UNITS WRITTEN BEHIND START CODES, AND READ BACK UNIT FOR UNIT (demand 3).
use Rattle.std.specs.Prelude.{ℕ, ◌-◌, ◌≤◌, ◌≡◌, List, [], ◌∷◌, ◌++◌, map, ◌⊎◌, Result, Ok, length, take, drop}
use Rattle.desk.specs.Numbers.{most}
use Rattle.desk.specs.Push.{Pushes, shifted}
use Rattle.desk.specs.Search.{trail}
use Rattle.desk.specs.declared.push.Pushed.{Pushed}
use Rattle.rbsp.specs.Answer.{number_of, Decodes, shown_of}
use Rattle.rbsp.specs.Promise.{ReadTrace, WriteTrace}
use Rattle.rbsp.specs.declared.nal.Decoded.{Decoded}
use Rattle.rbsp.specs.declared.nal.Undecoded.{Undecoded}
use Rattle.rbsp.specs.declared.reader.ParseState.{ParseState}
use Rattle.rbsp.specs.declared.writer.ByteWriter.{ByteWriter}
use Rattle.annexb.specs.Answer.{entering, FrameReset}
use Rattle.annexb.specs.Rule.{joined}
use Rattle.annexb.specs.Seen.{new}
use Rattle.annexb.specs.Step.{stepping}
use Rattle.annexb.specs.declared.AnnexBReader.{AnnexBReader}

-- a unit to be written: its header byte, which is not zero, and its RBSP, which does not end in 00
pub record Plain : Type 0 where
  pub header : ℕ
  pub rbsp : List ℕ
  pub header_some : header ≡ 0 → ⊥
  pub no_last_zero : trail rbsp ≡ 0

-- a unit that was written: its RBSP is escaped by any pushes that took all of it
pub record EscapedUnit : Type 0 where
  pub plain : Plain
  pub escaped : List ℕ
  pub state : ByteWriter
  pub marks : List ℕ
  pub pushes : WriteTrace plain.rbsp (length plain.rbsp) state escaped marks

-- header and escaped bytes
abbrev pub nal : EscapedUnit → List ℕ
nal u = u.plain.header ∷ u.escaped

abbrev pub nals : List EscapedUnit → List (List ℕ)
nals us = map nal us

-- each behind 00 00 01
abbrev pub stream : List EscapedUnit → List ℕ
stream [] = []
stream (u ∷ us) = 0 ∷ 0 ∷ 1 ∷ (nal u ++ stream us)

-- the stream read through any cuts until every byte is taken, and then closed by one reset: the joined bytes and ends that were handed out in all
pub record Read (s : List ℕ) (bytes ends : List ℕ) : Type 0 where
  pub state : AnnexBReader
  pub given : List ℕ
  pub marked : List ℕ
  pub pushes : Pushes stepping entering new s (length s) state given marked
  pub room : List ℕ
  pub room' : List ℕ
  pub marks : List ℕ
  pub marks' : List ℕ
  pub after : AnnexBReader
  pub closed : Pushed
  pub reset : FrameReset state room marks after room' marks' (Ok closed)
  pub bytes_are : bytes ≡ given ++ take closed.written room'
  pub ends_are : ends ≡ marked ++ shifted (length given) (take closed.marked marks')

-- the joined bytes, cut at the ends, from the place k on
abbrev pub cut_at : ℕ → List ℕ → List ℕ → List (List ℕ)
cut_at k [] bytes = []
cut_at k (e ∷ es) bytes = take (e - k) bytes ∷ cut_at e es (drop (e - k) bytes)

-- a unit, unescaped with the header skipped by any pushes that take all of it, gives its RBSP
abbrev pub GivesRbsp : EscapedUnit → Type 0
GivesRbsp u = (s : ParseState) (given ends : List ℕ) → ReadTrace 1 (nal u) (length (nal u)) s given ends → given ≡ u.plain.rbsp

-- so does `decode_nal` with `shown`: its number is 0, within the limit and where the room holds the RBSP or nothing was removed
abbrev pub Shows : EscapedUnit → Type 0
Shows u =
    (room room' : List ℕ) (r : Result Decoded Undecoded) → Decodes (nal u) room room' r → length (nal u) ≤ most → length room ≤ most
    → (length u.plain.rbsp ≤ length room) ⊎ (u.plain.rbsp ≡ u.escaped)
    → (number_of r ≡ 0) × (shown_of (nal u) room' r ≡ u.plain.rbsp)

abbrev pub AllBack : List EscapedUnit → Type 0
AllBack [] = Unit
AllBack (u ∷ us) = GivesRbsp u × Shows u × AllBack us

-- UNIT FOR UNIT: in order, none more and none less, no byte is left over, and each gives its RBSP
pub record UnitForUnit (us : List EscapedUnit) (bytes ends : List ℕ) : Type 0 where
  pub units : cut_at 0 ends bytes ≡ nals us
  pub count : length ends ≡ length us
  pub all_bytes : bytes ≡ joined (nals us)
  pub rbsps : AllBack us

-- THERE IS A WAY to write any units and to read them
pub record UnitsWay (ps : List Plain) : Type 0 where
  pub units : List EscapedUnit
  pub plain_are : map (λ (u : EscapedUnit). u.plain) units ≡ ps
  pub bytes : List ℕ
  pub ends : List ℕ
  pub read : Read (stream units) bytes ends
