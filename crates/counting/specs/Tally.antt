-- What a tally does with the marks of one call.
use Rattle.std.specs.Prelude.{◌≡◌, ℕ, ◌+◌, ◌-◌, ◌%◌, List, [], ◌∷◌, length, take}
use Rattle.desk.specs.Room.{with_front}
use Rattle.counting.specs.declared.Tally.{Tally}

-- 2^64: a u64 counts modulo it
abbrev pub wrap : ℕ
wrap = 18446744073709551616

-- how far a is behind b, modulo 2^64
abbrev pub gap : ℕ → ℕ → ℕ
gap a b = (a + (wrap - b % wrap)) % wrap

-- how far each mark is behind the one before it, the first behind s
abbrev pub lengths : ℕ → List ℕ → List ℕ
lengths s [] = []
lengths s (m ∷ ms) = gap m s ∷ lengths m ms

abbrev pub last_of : ℕ → List ℕ → ℕ
last_of s [] = s
last_of s (m ∷ ms) = last_of m ms

-- no unit yet
abbrev pub nothing : Tally
nothing = record { units = 0; bytes = 0 }

-- THE CONTRACT: of a call that gave `wrote` bytes and the first `marked` of the marks
pub record Tallied (t : Tally) (marks : List ℕ) (marked wrote : ℕ) (marks' : List ℕ) (r : Tally) : Type 0 where
  pub lengths_are : marks' ≡ with_front marks (lengths (gap 0 t.bytes) (take marked marks))
  pub units_is : r.units ≡ (t.units + length (take marked marks)) % wrap
  pub bytes_is : r.bytes ≡ gap wrote (last_of (gap 0 t.bytes) (take marked marks))
