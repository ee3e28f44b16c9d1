-- WHAT IS PROMISED OF FRAMING, over any trace of pushes that each meet their contract.
use Rattle.std.specs.Prelude.{ℕ, ◌≤◌, ◌≡◌, List, [], ◌∷◌, Result, Ok, length, take}
use Rattle.desk.specs.Numbers.{most}
use Rattle.desk.specs.Push.{came_to, Way}
use Rattle.desk.specs.Steps.{Gave}
use Rattle.desk.specs.declared.push.Pushed.{Pushed}
use Rattle.desk.specs.declared.refusal.Refusal.{Refusal}
use Rattle.annexb.specs.declared.AnnexBReader.{AnnexBReader}
use Rattle.annexb.specs.Rule.{given, ends}
use Rattle.annexb.specs.Seen.{new, state_of}
use Rattle.annexb.specs.Step.{stepping}
use Rattle.annexb.specs.Answer.{entering, FramePush, FrameReset}

-- ONE PUSH from the state s₀, lent those n bytes and rooms for what was given, within the limit: it takes them all, and leaves the same state, bytes
-- and ends
abbrev pub FramesAtOnce : AnnexBReader → List ℕ → ℕ → AnnexBReader → List ℕ → List ℕ → Type 0
FramesAtOnce s₀ stream n s g e =
    (room marks : List ℕ) (s' : AnnexBReader) (room' marks' : List ℕ) (r : Result Pushed Refusal)
    → FramePush s₀ (take n stream) room marks s' room' marks' r
    → n ≤ most → length room ≤ most → length marks ≤ most → length g ≤ length room → length e ≤ length marks
    → Gave (came_to n s g e) room marks s' room' marks' r

-- after some pushes of a stream from a new reader, n bytes taken: joined bytes and ends are those that the rule gives for these bytes, the state is
-- fixed by them, and one push comes to the same
pub record Framing (stream : List ℕ) (n : ℕ) (s : AnnexBReader) (g e : List ℕ) : Type 0 where
  pub within : n ≤ length stream
  pub bytes_are : g ≡ given (take n stream)
  pub ends_are : e ≡ ends (take n stream)
  pub state_is : s ≡ state_of (take n stream)
  pub at_once : FramesAtOnce new stream n s g e

-- pushes that take all of a stream from the state s₀, each lent three bytes and one mark
abbrev pub FrameWay : AnnexBReader → List ℕ → Type 0
FrameWay s₀ stream = Way stepping entering s₀ stream (length stream) 3 1

-- a reset that is done, in room for two zeros and a mark
pub record ResetWay (s : AnnexBReader) : Type 0 where
  pub after : AnnexBReader
  pub room' : List ℕ
  pub marks' : List ℕ
  pub closed : Pushed
  pub reset : FrameReset s (0 ∷ 0 ∷ []) (0 ∷ []) after room' marks' (Ok closed)
