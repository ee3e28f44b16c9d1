-- WHAT IS PROMISED OF READING AND WRITING, over any trace of pushes that each meet their contract.
use Rattle.std.specs.Prelude.{ℕ, ◌+◌, ◌≤◌, ◌≡◌, List, [], ◌⊎◌, length, take, drop, Result}
use Rattle.std.proofs.Math.Option.{some}
use Rattle.desk.specs.Numbers.{most}
use Rattle.desk.specs.Push.{Pushes, came_to, Way}
use Rattle.desk.specs.Search.{trail}
use Rattle.desk.specs.declared.refusal.Refusal.{Refusal}
use Rattle.desk.specs.declared.push.Pushed.{Pushed}
use Rattle.rbsp.specs.Rule.{escape, unescape, Legal, first_break}
use Rattle.rbsp.specs.Step.{read_step, skipping, read_entry, reader_after, write_step, write_entry, zeros}
use Rattle.rbsp.specs.Answer.{ReadGave, ReadPush, WriteGave, WritePush, new_byte_writer, Decodes}
use Rattle.rbsp.specs.declared.nal.Decoded.{Decoded}
use Rattle.rbsp.specs.declared.nal.Undecoded.{Undecoded}
use Rattle.rbsp.specs.declared.reader.ParseState.{ParseState}
use Rattle.rbsp.specs.declared.reader.Stopped.{Stopped}
use Rattle.rbsp.specs.declared.writer.ByteWriter.{ByteWriter}

-- any pushes of a stream, from a new reader that drops the first `skip` bytes: n bytes taken, the state, the bytes delivered
abbrev pub ReadTrace : ℕ → List ℕ → ℕ → ParseState → List ℕ → List ℕ → Type 0
ReadTrace skip stream n s given ends = Pushes read_step read_entry (skipping skip) stream n s given ends

-- any pushes of an RBSP, from a new writer: n bytes taken, the state, the bytes written
abbrev pub WriteTrace : List ℕ → ℕ → ByteWriter → List ℕ → List ℕ → Type 0
WriteTrace stream n s given ends = Pushes write_step write_entry new_byte_writer stream n s given ends

-- ---- what pushes come to

-- ONE PUSH from a new reader, lent those n bytes and room for what was delivered, within the limit: it takes them all, and leaves the same state and
-- bytes
abbrev pub ReadsAtOnce : ℕ → List ℕ → ℕ → ParseState → List ℕ → Type 0
ReadsAtOnce skip stream n s given =
    (s' : ParseState) (out out' : List ℕ) (r : Result Pushed Stopped) → ReadPush (skipping skip) s' (take n stream) out out' r
    → n ≤ most → length out ≤ most → length given ≤ length out → ReadGave (came_to n s given []) out out' s' r

-- what was delivered is the unescape of what was taken past the skipped bytes, the state is fixed by the bytes taken, what was taken is legal, and
-- one push comes to the same
pub record Reading (skip : ℕ) (stream : List ℕ) (n : ℕ) (s : ParseState) (given : List ℕ) : Type 0 where
  pub within : n ≤ length stream
  pub bytes : given ≡ unescape (drop skip (take n stream))
  pub state : s ≡ reader_after skip (take n stream)
  pub legal : Legal (drop skip (take n stream))
  pub at_once : ReadsAtOnce skip stream n s given

-- a 7 behind n bytes taken, with `taken` more taken by its push: byte n + taken of the stream is the last of the first window past the skipped bytes
-- that breaks a prohibition
pub record Seventh (skip : ℕ) (stream : List ℕ) (n taken : ℕ) : Type 0 where
  pub place : ℕ
  pub place_is : n + taken ≡ skip + place
  pub breaks : first_break (drop skip stream) ≡ some place

-- ONE PUSH from a new writer, as on reading
abbrev pub WritesAtOnce : List ℕ → ℕ → ByteWriter → List ℕ → Type 0
WritesAtOnce stream n s given =
    (s' : ByteWriter) (out out' : List ℕ) (r : Result Pushed Refusal) → WritePush new_byte_writer s' (take n stream) out out' r
    → n ≤ most → length out ≤ most → length given ≤ length out → WriteGave (came_to n s given []) out out' s' r

-- what was written is the escape of what was taken; it is legal, so it never holds 00 00 followed by 00, 01 or 02; it unescapes to what was taken;
-- and one push comes to the same
pub record Writing (stream : List ℕ) (n : ℕ) (s : ByteWriter) (given : List ℕ) : Type 0 where
  pub within : n ≤ length stream
  pub bytes : given ≡ escape (take n stream)
  pub state : s ≡ zeros (trail given)
  pub legal : Legal given
  pub back : unescape given ≡ take n stream
  pub at_once : WritesAtOnce stream n s given

-- ---- that there are pushes

-- pushes that take all of a stream, each lent one byte; of an RBSP, each lent two
abbrev pub ReadWay : ℕ → List ℕ → Type 0
ReadWay skip stream = Way read_step read_entry (skipping skip) stream (length stream) 1 0

abbrev pub WriteWay : List ℕ → Type 0
WriteWay stream = Way write_step write_entry new_byte_writer stream (length stream) 2 0

-- ---- a whole NAL

-- the room holds the RBSP, or none is needed: nothing was removed
abbrev pub RoomFor : List ℕ → List ℕ → Type 0
RoomFor nal room = (length (unescape (drop 1 nal)) ≤ length room) ⊎ (unescape (drop 1 nal) ≡ drop 1 nal)

-- an outcome of `decode_nal`
pub record DecodeWay (nal room : List ℕ) : Type 0 where
  pub room' : List ℕ
  pub answer : Result Decoded Undecoded
  pub decodes : Decodes nal room room' answer
