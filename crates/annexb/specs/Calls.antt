-- ANY CALLS OF ONE READER, AND WHAT THEY COME TO.
use Rattle.std.specs.Prelude.{ℕ, ◌≡◌, List, [], ◌∷◌, ◌++◌, map, Result, Ok, Err, length, take}
use Rattle.desk.specs.Push.{Answer, seen, shifted}
use Rattle.desk.specs.Steps.{pushed_of}
use Rattle.desk.specs.declared.push.Pushed.{Pushed}
use Rattle.desk.specs.declared.refusal.Refusal.{Refusal}
use Rattle.annexb.specs.declared.AnnexBReader.{AnnexBReader}
use Rattle.annexb.specs.Rule.{Frame, given_of, ends_of, units_of, joined, ends_from, units_at_reset}
use Rattle.annexb.specs.Seen.{new, rule}
use Rattle.annexb.specs.Answer.{FramePush, FrameReset}

-- what was handed out between two resets: the bytes taken, the joined bytes given, and the ends as places in them
pub record Span : Type 0 where
  pub taken : List ℕ
  pub bytes : List ℕ
  pub ends : List ℕ

abbrev pub span : List ℕ → List ℕ → List ℕ → Span
span h g e = record { taken = h; bytes = g; ends = e }

-- After any calls from a new reader: the spans that a reset closed, the latest first, and of the span since: the bytes taken, the state, the joined
-- bytes and the ends.
-- Each call goes on from the state that the last one left, and is known by its contract alone. A push may be lent any chunk, and every call any
-- rooms.
pub data Calls : List Span → List ℕ → AnnexBReader → List ℕ → List ℕ → Type 0 where
  none_yet : Calls [] [] new [] []
  pushed : {spans : List Span} {h : List ℕ} {s : AnnexBReader} {g e : List ℕ} → Calls spans h s g e
      → (chunk room marks : List ℕ) (s' : AnnexBReader) (room' marks' : List ℕ) (r : Result Pushed Refusal)
      → FramePush s chunk room marks s' room' marks' r
      → Calls spans (h ++ take (pushed_of r).taken chunk) s' (g ++ take (pushed_of r).written room')
      (e ++ shifted (length g) (take (pushed_of r).marked marks'))
  reset_done : {spans : List Span} {h : List ℕ} {s : AnnexBReader} {g e : List ℕ} → Calls spans h s g e
      → (room marks : List ℕ) (s' : AnnexBReader) (room' marks' : List ℕ) (p : Pushed) → FrameReset s room marks s' room' marks' (Ok p)
      → Calls (span h (g ++ take p.written room') (e ++ shifted (length g) (take p.marked marks')) ∷ spans) [] s' [] []
  reset_refused : {spans : List Span} {h : List ℕ} {s : AnnexBReader} {g e : List ℕ} → Calls spans h s g e
      → (room marks : List ℕ) (s' : AnnexBReader) (room' marks' : List ℕ) (why : Refusal) → FrameReset s room marks s' room' marks' (Err why)
      → Calls spans h s' g e

-- a reset of what is framed as f completes it: with what it hands out, all units are given, the open one with its held zeros, and a new state is left
pub record Completes (f : Frame) (a : Answer AnnexBReader) : Type 0 where
  pub bytes_all : given_of f ++ a.bytes ≡ joined (units_of f)
  pub ends_all : ends_of f ++ shifted (length (given_of f)) a.marks ≡ ends_from 0 (units_of f)
  pub state_new : a.after ≡ new

-- a span's units are those that the rule gives for the bytes taken in it
pub record Whole (p : Span) : Type 0 where
  pub bytes_are : p.bytes ≡ joined (units_at_reset p.taken)
  pub ends_are : p.ends ≡ ends_from 0 (units_at_reset p.taken)

abbrev pub AllWhole : List Span → Type 0
AllWhole [] = Unit
AllWhole (p ∷ ps) = Whole p × AllWhole ps

-- span by span the rule's units, and since the last reset what the rule gives from a new state
pub record ByTheRule (spans : List Span) (h : List ℕ) (s : AnnexBReader) (g e : List ℕ) : Type 0 where
  pub closed_spans : AllWhole spans
  pub open_span : rule new h ≡ seen s g e

-- there are such calls: spans that were taken whole, byte for byte, the latest first, each closed by a reset
pub record CallsWay (streams : List (List ℕ)) : Type 0 where
  pub spans : List Span
  pub calls : Calls spans [] new [] []
  pub taken_are : map (λ (p : Span). p.taken) spans ≡ streams
