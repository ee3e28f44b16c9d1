-- READING, FOR THE CRATES ABOVE: the answers' names, passed on shut, and what the laws of proofs/Reading.antt say of them. No crate above opens a
-- definition of this one.
use Rattle.std.specs.Prelude.{ℕ, suc, ◌+◌, ◌-◌, ◌≤◌, ◌<◌, ◌≡◌, List, [], ◌∷◌, Bool, length, take, drop}
use Rattle.desk.specs.Numbers.{most, too_long, bad_state, bad_width, bits_run_out, exp_golomb_too_large}
use Rattle.bits.specs.Rule.{value_at}
pub use Rattle.bits.specs.Rule.{size, bits, bits_of, URange, ue_code, UeRange, se_code, SeRange, Stands}
pub use Rattle.bits.specs.Answer.{Ans, got, no, number, Told, told, denied, told_number, and_then, unless, bit_number}
pub use Rattle.bits.specs.Answer.{reader_at, new_reader, past_end, read_bits, read_bit, read_ue, read_se, skipped}
pub use Rattle.bits.specs.Answer.{has_more, finish_rbsp, finish_sei, whole_bytes, mapped}
pub use Rattle.bits.specs.Answer.{answer, told_by, told_of, reader_back, Reads, aligned_answer, aligned_back}

-- what the entry checks 1 and 2 let through
pub record Entered (s : List ℕ) (p : ℕ) : Type 0 where
  pub small : length s ≤ most
  pub within : p ≤ size s

-- and why they answer a number
pub data WhyEntry (s : List ℕ) (p : ℕ) : ℕ → Type 0 where
  long : most < length s → WhyEntry s p too_long
  past : length s ≤ most → size s < p → WhyEntry s p bad_state

-- ---- what was read is a code that stands there

abbrev pub bit_code : Bool → List ℕ
bit_code b = bit_number b ∷ []

abbrev pub AnyBit : Bool → Type 0
AnyBit b = Unit

-- a was read from p up to q: its code stands there
pub record Took {A : Type 0} (code : A → List ℕ) (Ok : A → Type 0) (s : List ℕ) (p : ℕ) (a : A) (q : ℕ) : Type 0 where
  pub entered : Entered s p
  pub ok : Ok a
  pub stands : Stands s p (code a)
  pub stops : q ≡ p + length (code a)

-- a reader reads exactly the codes of what is Ok: what it reads has its code there, and where a code stands it reads that
pub record ReadsCodes {A : Type 0} (code : A → List ℕ) (Ok : A → Type 0) (read : List ℕ → ℕ → Ans A) : Type 0 where
  pub took : (s : List ℕ) (p : ℕ) (a : A) (q : ℕ) → read s p ≡ got a q → Took code Ok s p a q
  pub gives : (s : List ℕ) (p : ℕ) (a : A) → Entered s p → Ok a → Stands s p (code a) → read s p ≡ got a (p + length (code a))

-- n bits were skipped
pub record Skipped (s : List ℕ) (p n q : ℕ) : Type 0 where
  pub entered : Entered s p
  pub stops : q ≡ p + n
  pub within : q ≤ size s

-- ---- why a read was refused

pub data WhyBits (s : List ℕ) (p n : ℕ) : ℕ → Type 0 where
  bits_entry : {k : ℕ} → WhyEntry s p k → WhyBits s p n k
  bits_wide : Entered s p → 32 < n → WhyBits s p n bad_width
  bits_short : Entered s p → n ≤ 32 → size s < p + n → WhyBits s p n bits_run_out

-- z zeros from p on, and a one
pub record OneAfter (s : List ℕ) (p z : ℕ) : Type 0 where
  pub within : p + z < size s
  pub one : value_at s p (suc z) ≡ 1

pub data WhyUe (s : List ℕ) (p : ℕ) : ℕ → Type 0 where
  ue_entry : {k : ℕ} → WhyEntry s p k → WhyUe s p k
  ue_none : Entered s p → value_at s p (size s - p) ≡ 0 → WhyUe s p bits_run_out
  ue_many : (z : ℕ) → Entered s p → OneAfter s p z → 31 < z → WhyUe s p exp_golomb_too_large
  ue_short : (z : ℕ) → Entered s p → OneAfter s p z → z ≤ 31 → size s < p + (z + 1 + z) → WhyUe s p bits_run_out

pub data WhySkip (s : List ℕ) (p n : ℕ) : ℕ → Type 0 where
  skip_entry : {k : ℕ} → WhyEntry s p k → WhySkip s p n k
  skip_short : Entered s p → size s < p + n → WhySkip s p n bits_run_out

-- ---- a read depends on the bits read alone

-- the n bits from p of s stand in t from p' on
pub record SameBits (s : List ℕ) (p : ℕ) (t : List ℕ) (p' n : ℕ) : Type 0 where
  pub small : length t ≤ most
  pub within : p' + n ≤ size t
  pub same : take n (drop p (bits s)) ≡ take n (drop p' (bits t))

-- a reader that only moves on, stays within the bytes, and reads the same where the bits that it read stand again
pub record Local {A : Type 0} (read : List ℕ → ℕ → Ans A) : Type 0 where
  pub grows : (s : List ℕ) (p : ℕ) (a : A) (q : ℕ) → read s p ≡ got a q → p ≤ q
  pub within : (s : List ℕ) (p : ℕ) (a : A) (q : ℕ) → read s p ≡ got a q → p ≤ size s → q ≤ size s
  pub again : (s : List ℕ) (p : ℕ) (a : A) (q : ℕ) (t : List ℕ) (p' : ℕ) → read s p ≡ got a q → SameBits s p t p' (q - p)
      → read t p' ≡ got a (p' + (q - p))
