-- What one byte does, and the state after any bytes.
use Rattle.std.specs.Prelude.{ℕ, zero, suc, Bool, false, cond, ◌&&◌, List, [], ◌∷◌, drop, ltb}
use Rattle.std.proofs.Math.Option.{Option, none, some}
use Rattle.desk.specs.Numbers.{entry_of}
use Rattle.desk.specs.Push.{Out, Next, Seen, seen}
use Rattle.desk.specs.Search.{is3, up_to2, up_to3, trail}
use Rattle.desk.specs.Zeros.{two, zeros_after}
use Rattle.rbsp.specs.Rule.{escape, unescape, ends_three}
use Rattle.rbsp.specs.declared.reader.ParseState.{ParseState}
use Rattle.rbsp.specs.declared.reader.ParseState.TheVariants.{Start, Skip, PostThree}
use Rattle.rbsp.specs.declared.writer.ByteWriter.{ByteWriter}

-- ---- reading

abbrev pub takes : ParseState → List ℕ → Out ParseState
takes s l = record { after = s; bytes = l; mark = false }

-- behind z zeros: after two of them 03 is removed, and 00, 01 and 02 are forbidden
abbrev pub scan : ℕ → ℕ → Option (Out ParseState)
scan z b =
    cond (two z) (cond (is3 b) (some (takes PostThree [])) (cond (up_to2 b) none (some (takes (Start 0) (b ∷ [])))))
    (some (takes (Start (zeros_after z b)) (b ∷ [])))

-- the state with so many bytes yet to drop: none left is a start
abbrev pub skipping : ℕ → ParseState
skipping zero = Start 0
skipping (suc k) = Skip (suc k)

-- what a byte does in each state; behind a removed 03 only 00 to 03 may follow, and a 00 is the first zero of a new pair
abbrev pub read_step : Next ParseState
read_step (Start z) b = scan z b
read_step (Skip zero) b = scan 0 b
read_step (Skip (suc k)) b = some (takes (skipping k) [])
read_step PostThree b = cond (up_to3 b) (some (takes (Start (zeros_after 0 b)) (b ∷ []))) none

-- a stored run of zeros over 2
abbrev pub bad_reader : ParseState → Bool
bad_reader (Start z) = ltb 2 z
bad_reader (Skip k) = false
bad_reader PostThree = false

abbrev pub read_entry : ParseState → ℕ → ℕ → ℕ → ℕ
read_entry s chunk w m = entry_of (chunk ∷ w ∷ m ∷ []) (bad_reader s)

-- the state after the bytes h, of which the first k are dropped: it is fixed by the bytes
abbrev pub reader_after : ℕ → List ℕ → ParseState
reader_after zero h = cond (ends_three h) PostThree (Start (trail h))
reader_after (suc k) [] = Skip (suc k)
reader_after (suc k) (b ∷ h) = reader_after k h

-- what is to be seen after the bytes h, of which the first k are dropped
abbrev pub reads : ℕ → List ℕ → Seen ParseState
reads k h = seen (reader_after k h) (unescape (drop k h)) []

-- ---- writing

abbrev pub zeros : ℕ → ByteWriter
zeros z = record { zero_count = z }

-- a 03 goes before the byte b, behind z zeros
abbrev pub stuffs : ℕ → ℕ → Bool
stuffs z b = two z && up_to3 b

-- the byte goes out behind a 03; or alone, behind z zeros
abbrev pub behind_three : ℕ → Out ByteWriter
behind_three b = record { after = zeros (zeros_after 0 b); bytes = 3 ∷ b ∷ []; mark = false }

abbrev pub goes_alone : ℕ → ℕ → Out ByteWriter
goes_alone z b = record { after = zeros (zeros_after z b); bytes = b ∷ []; mark = false }

abbrev pub write_step : Next ByteWriter
write_step s b = cond (stuffs s.zero_count b) (some (behind_three b)) (some (goes_alone s.zero_count b))

abbrev pub write_entry : ByteWriter → ℕ → ℕ → ℕ → ℕ
write_entry s chunk w m = entry_of (chunk ∷ w ∷ m ∷ []) (ltb 2 s.zero_count)

-- what is to be seen after the bytes h: the state is the count of zeros at the end of what was written
abbrev pub writes : List ℕ → Seen ByteWriter
writes h = seen (zeros (trail (escape h))) (escape h) []
