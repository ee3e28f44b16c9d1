-- WHAT A CALLER IS TO SEE, BY THE RULE: the state, the joined bytes and the ends, once some bytes are taken.
use Rattle.std.specs.Prelude.{ℕ, Bool, false, List, ◌++◌, replicate}
use Rattle.desk.specs.Search.{trail}
use Rattle.desk.specs.Push.{Seen, seen}
use Rattle.annexb.specs.declared.AnnexBReader.{AnnexBReader}
use Rattle.annexb.specs.Rule.{Frame, frame_from, frame, given_of, ends_of}

-- inside or outside a unit, with z zeros held
abbrev pub at : Bool → ℕ → AnnexBReader
at o z = record { in_unit = o; zeros = z }

-- a reader that has taken nothing
abbrev pub new : AnnexBReader
new = at false 0

-- the state keeps of a frame whether a unit is open, and the zeros at its end, two at most
abbrev pub state_in : Frame → AnnexBReader
state_in f = at f.in_unit (trail f.rest)

abbrev pub seen_in : Frame → Seen AnnexBReader
seen_in f = seen (state_in f) (given_of f) (ends_of f)

-- after the bytes t, from any state: its held zeros stand before them
abbrev pub rule : AnnexBReader → List ℕ → Seen AnnexBReader
rule s t = seen_in (frame_from s.in_unit (replicate s.zeros 0 ++ t))

abbrev pub state_of : List ℕ → AnnexBReader
state_of s = state_in (frame s)
