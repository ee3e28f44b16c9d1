-- Each number of a reader is given where its reason holds (proofs/Reading.antt: and only there); and which number is left to a caller of
-- `read` that has made the entry checks itself.
use mathlib.Core.Path.{◌≡◌, refl, ap, ◌∙◌}
use mathlib.Core.List.{List}
use mathlib.Core.Bool.{false, true}
use mathlib.Core.Option.{some}
use Prim.Native.Nat.{ℕ, suc, ◌+◌, ◌-◌, ◌≤◌, ◌<◌}
use native.Mathlib.Omega.{arith}
use borrow.Author.Tests.{lt-ltb, le-ltb, ltb-false}
use Rattle.bits.specs.Rule.{size, first_one}
use Rattle.bits.specs.Answer.{Ans, no, unless, entry_at, past_end, read_bits, read_bit, read_ue, read_se, skipped}
use Rattle.bits.specs.Reading.{Entered, WhyEntry, long, past, WhyBits, bits_entry, bits_wide, bits_short, OneAfter, WhyUe, ue_entry}
use Rattle.bits.specs.Reading.{ue_none, ue_many, ue_short, WhySkip, skip_entry, skip_short}
use Rattle.bits.proofs.Entry.{enters, why_entry}
use Rattle.bits.proofs.Ones.{first_one_none, first_one_is}
use Rattle.bits.proofs.Reading.{bits_refused}

-- ---- the entry checks, for a caller that makes them itself

pub not_past : (s : List ℕ) (p : ℕ) → past_end s p ≡ false → p ≤ size s
unfolding past_end
not_past s p e = ltb-false (size s) p e

pub is_past : (s : List ℕ) (p : ℕ) → size s < p → past_end s p ≡ true
unfolding past_end
is_past s p h = lt-ltb (size s) p h

-- ---- the reasons suffice

entry_no : {A : Type 0} {s : List ℕ} {p k : ℕ} (x : Ans A) → WhyEntry s p k → unless no (entry_at s p) x ≡ no k
entry_no x (long h) = rw (why_entry (long h))
entry_no x (past h l) = rw (why_entry (past h l))

pub bits_refuse : {s : List ℕ} {p n k : ℕ} → WhyBits s p n k → read_bits s p n ≡ no k
unfolding read_bits
bits_refuse (bits_entry w) = entry_no _ w
bits_refuse {s} {p} {n} (bits_wide g h) = simp (enters s p g, lt-ltb 32 n h)
bits_refuse {s} {p} {n} (bits_short g w h) = simp (enters s p g, le-ltb 32 n w, lt-ltb (size s) (p + n) h)

-- one bit is refused as u(1) is
pub bit_refuse : {s : List ℕ} {p k : ℕ} → WhyBits s p 1 k → read_bit s p ≡ no k
unfolding read_bit
bit_refuse w = rw (bits_refuse w)

first_at : (s : List ℕ) (p z : ℕ) → OneAfter s p z → first_one s p (size s - p) ≡ some (p + z)
first_at s p z o = let w = o.within in ap (first_one s p) (omega arith) ∙ first_one_is s p z (size s - p - suc z) o.one

pub ue_refuse : {s : List ℕ} {p k : ℕ} → WhyUe s p k → read_ue s p ≡ no k
unfolding read_ue
ue_refuse (ue_entry w) = entry_no _ w
ue_refuse {s} {p} (ue_none g h) = simp (enters s p g, first_one_none s p (size s - p) h)
ue_refuse {s} {p} (ue_many z g o h) =
    let e : p + z - p ≡ z = omega arith in
    simp (enters s p g, first_at s p z o, e, lt-ltb 31 z h)
ue_refuse {s} {p} (ue_short z g o h l) =
    let e : p + z - p ≡ z = omega arith in
    simp (enters s p g, first_at s p z o, e, le-ltb 31 z h, lt-ltb (size s) (p + z + 1 + z) (omega arith))

-- se(v) is refused as ue(v) is
pub se_refuse : {s : List ℕ} {p k : ℕ} → WhyUe s p k → read_se s p ≡ no k
unfolding read_se
se_refuse w = rw (ue_refuse w)

pub skip_refuse : {s : List ℕ} {p n k : ℕ} → WhySkip s p n k → skipped s p n ≡ no k
unfolding skipped
skip_refuse (skip_entry w) = entry_no _ w
skip_refuse {s} {p} {n} (skip_short g h) = simp (enters s p g, lt-ltb (size s) (p + n) h)

-- ---- behind the entry checks

not_entry : {s : List ℕ} {p k : ℕ} → Entered s p → WhyEntry s p k → ⊥
not_entry g (long h) = omega arith
not_entry g (past h l) = omega arith

module _ (s : List ℕ) (p : ℕ) (g : Entered s p) (k : ℕ) where
  pub bits_number : (n : ℕ) → n ≤ 32 → read_bits s p n ≡ no k → k ≡ 4
  bits_number n h e = go (bits_refused s p n k e)
    where
      go : {k : ℕ} → WhyBits s p n k → k ≡ 4
      go (bits_entry w) = absurd (not_entry g w)
      go (bits_wide g' w) = absurd (let z : ⊥ = omega arith in z)
      go (bits_short g' w l) = refl
