-- What reading says, for the crates above: each reader reads exactly the codes of its values, and each refusal has its reason.
use mathlib.Core.Path.{◌≡◌, refl, sym, ap, ap₂, ◌∙◌, subst}
use mathlib.Core.List.{List}
use mathlib.Core.Bool.{Bool, true, false}
use mathlib.Core.Option.{Option, none, some}
use Prim.Native.Nat.{ℕ, suc, ◌+◌, ◌-◌, ◌*◌, ◌^◌, ◌≤◌, ◌<◌}
use native.Mathlib.Nat.{pow-suc}
use native.Mathlib.Omega.{arith}
use borrow.Author.Tests.{ltb-false, ltb-true, le-ltb}
use lib.ListN.{length}
use lib.Dec.{ltb, eqb}
use lib.IntN.{ℤ}
use mathlib.Core.Logic.{dite}
use native.Mathlib.Decide.{dec_lt}
use Rattle.bits.proofs.Signs.{unsigned_signed, signed_unsigned, in_range, has_code}
use lib.Pow.{pow_pos, pow_mono}
use Rattle.desk.proofs.Choice.{cond_by}
use Rattle.bits.specs.Rule.{size, value_at, first_one, bits_of, prefix_of, ue_code, Stands, URange, UeRange, signed_of, unsigned_of, se_code, SeRange}
use Rattle.bits.specs.Answer.{Ans, got, no, entry_at, ue_width, read_bits, read_ue, ue_from, as_signed, read_se, as_bool, read_bit, skipped}
use Rattle.bits.specs.Reading.{Entered, bit_code, AnyBit, Took, ReadsCodes, WhyBits, bits_entry, bits_wide, bits_short, OneAfter, WhyUe}
use Rattle.bits.specs.Reading.{ue_entry, ue_none, ue_many, ue_short, Skipped, WhySkip, skip_entry, skip_short}
use Rattle.bits.proofs.Entry.{entered, enters, entry_why, unless_by}
use Rattle.bits.proofs.Value.{value_lt, value_split}
use Rattle.bits.proofs.Ones.{first_one_is, top_one}
use Rattle.bits.proofs.Found.{none_first, first_some}
use Rattle.bits.proofs.Top.{top_is, prefix}
use Rattle.bits.proofs.Codes.{length_bits_of, value_stands, stands_value, ue_bits, length_ue, ue_below_lem}

-- ---- u(n)

abbrev BitsMean : List ℕ → ℕ → ℕ → Ans ℕ → Type 0
BitsMean s p n (got v q) = (n ≤ 32) × Took (bits_of n) (URange n) s p v q
BitsMean s p n (no k) = WhyBits s p n k

bits_mean : (s : List ℕ) (p n : ℕ) → BitsMean s p n (read_bits s p n)
unfolding read_bits
bits_mean s p n =
    unless_by (BitsMean s p n) no (entry_at s p) _ (λ k e. bits_entry (entry_why s p k e))
    (λ e. let g = entered s p e in
    cond_by (BitsMean s p n) (ltb 32 n) _ _ (λ w. bits_wide g (ltb-true 32 n w))
    (λ w. cond_by (BitsMean s p n) (ltb (size s) (p + n)) _ _ (λ f. bits_short g (ltb-false 32 n w) (ltb-true (size s) (p + n) f))
    (λ f. let long = length_bits_of n (value_at s p n) in (
      ltb-false 32 n w,
      record {
        entered = g;
        ok = value_lt s p n;
        stands = value_stands s p n (ltb-false (size s) (p + n) f);
        stops = omega arith;
      },
    ))))

-- a width that is read is at most 32
pub bits_width : (s : List ℕ) (p n v q : ℕ) → read_bits s p n ≡ got v q → n ≤ 32
bits_width s p n v q e = (subst (BitsMean s p n) e (bits_mean s p n)).0

-- why u(n) is refused
pub bits_refused : (s : List ℕ) (p n k : ℕ) → read_bits s p n ≡ no k → WhyBits s p n k
bits_refused s p n k e = subst (BitsMean s p n) e (bits_mean s p n)

bits_give : (n : ℕ) → n ≤ 32 → (s : List ℕ) (p v : ℕ) → Entered s p → v < 2 ^ n → Stands s p (bits_of n v)
    → read_bits s p n ≡ got v (p + length (bits_of n v))
unfolding read_bits
bits_give n h s p v g l c =
    let long = length_bits_of n v in
    let w = c.within in
    simp (enters s p g, le-ltb 32 n h, le-ltb (size s) (p + n) (omega arith), stands_value s p n v l c, long)

pub bits_codes : (n : ℕ) → n ≤ 32 → ReadsCodes (bits_of n) (URange n) (λ s p. read_bits s p n)
bits_codes n h = record { took = λ s p v q e. (subst (BitsMean s p n) e (bits_mean s p n)).1; gives = bits_give n h }

-- ---- ue(v)

-- z zeros, a one and z bits are the code of their value
ue_at : (s : List ℕ) (p z : ℕ) → Entered s p → z ≤ 31 → value_at s p (suc z) ≡ 1 → p + z + 1 + z ≤ size s
    → Took ue_code UeRange s p (2 ^ z - 1 + value_at s (p + z + 1) z) (p + z + 1 + z)
ue_at s p z g l one w =
    let r = value_at s (p + z + 1) z in
    let v = 2 ^ z - 1 + r in
    let r_lt = value_lt s (p + z + 1) z in
    let above = pow_pos z in
    let m : prefix_of v ≡ z = top_is 31 (v + 1) z l (omega arith) (omega (arith, pow-suc 2 z)) in
    let small : v < 4294967295 = omega (arith, pow_mono {i = z} {j = 31} l) in
    let n : ue_width v ≡ suc z + z = omega arith in
    let place : p + suc z ≡ p + z + 1 = omega arith in
    let all : value_at s p (ue_width v) ≡ v + 1 =
    ap (value_at s p) n ∙ value_split s p (suc z) z
    ∙ ap₂ (λ (x k : ℕ). x * 2 ^ z + value_at s k z) one place ∙ omega arith in
    let long = length_ue v in
    record {
      entered = g;
      ok = small;
      stands = subst (Stands s p) (ap (bits_of (ue_width v)) all ∙ ue_bits v small) (value_stands s p (ue_width v) (omega arith));
      stops = omega arith;
    }

abbrev UeMean : List ℕ → ℕ → Ans ℕ → Type 0
UeMean s p (got v q) = Took ue_code UeRange s p v q
UeMean s p (no k) = WhyUe s p k

ue_from_lem : (s : List ℕ) (p : ℕ) → Entered s p → (o : Option ℕ) → first_one s p (size s - p) ≡ o → UeMean s p (ue_from s p o)
ue_from_lem s p g none e = ue_none g (none_first s p (size s - p) e)
ue_from_lem s p g (some q) e =
    let f = first_some s p (size s - p) q e in
    let z = f.0 in
    let zq : q - p ≡ z = omega (arith, f.1) in
    let w = g.within in
    let after : OneAfter s p z = record { within = omega (arith, f.2); one = f.3 } in
    cond_by (UeMean s p) (ltb 31 (q - p)) _ _ (λ h. ue_many z g after (omega (arith, ltb-true 31 (q - p) h)))
    (λ h. cond_by (UeMean s p) (ltb (size s) (q + 1 + (q - p))) _ _
    (λ b. ue_short z g after (omega (arith, ltb-false 31 (q - p) h)) (omega (arith, f.1, ltb-true (size s) (q + 1 + (q - p)) b)))
    (λ b. subst (λ (k : ℕ). UeMean s p (got (2 ^ (k - p) - 1 + value_at s (k + 1) (k - p)) (k + 1 + (k - p)))) (sym f.1)
    (subst (λ (k : ℕ). UeMean s p (got (2 ^ k - 1 + value_at s (p + z + 1) k) (p + z + 1 + k))) (sym zq ∙ ap (λ (x : ℕ). x - p) f.1)
    (ue_at s p z g (omega (arith, ltb-false 31 (q - p) h)) f.3 (omega (arith, f.1, ltb-false (size s) (q + 1 + (q - p)) b))))))

ue_mean : (s : List ℕ) (p : ℕ) → UeMean s p (read_ue s p)
unfolding read_ue
ue_mean s p =
    unless_by (UeMean s p) no (entry_at s p) _ (λ k e. ue_entry (entry_why s p k e))
    (λ e. ue_from_lem s p (entered s p e) (first_one s p (size s - p)) refl)

-- why ue(v) is refused
pub ue_refused : (s : List ℕ) (p k : ℕ) → read_ue s p ≡ no k → WhyUe s p k
ue_refused s p k e = subst (UeMean s p) e (ue_mean s p)

ue_give : (s : List ℕ) (p v : ℕ) → Entered s p → v < 4294967295 → Stands s p (ue_code v) → read_ue s p ≡ got v (p + length (ue_code v))
unfolding read_ue
ue_give s p v g h c =
    let a = v + 1 in
    let m = prefix_of v in
    let t = prefix v h in
    let long = length_ue v in
    let w = c.within in
    let n : ue_width v ≡ suc m + m = omega arith in
    let all : value_at s p (suc m + m) ≡ a =
    ap (value_at s p) (sym n) ∙ stands_value s p (ue_width v) a (ue_below_lem v h) (subst (Stands s p) (sym (ue_bits v h)) c) in
    let one : value_at s p (suc m) ≡ 1 = top_one s p m m (rw all t.low) (rw all t.high) in
    let first : first_one s p (size s - p) ≡ some (p + m) = ap (first_one s p) (omega arith) ∙ first_one_is s p m (size s - p - suc m) one in
    let next : p + m + 1 ≡ p + suc m = omega arith in
    let rest : value_at s (p + m + 1) m ≡ a - 2 ^ m =
    ap (λ (q : ℕ). value_at s q m) next ∙ omega (arith, value_split s p (suc m) m, all, ap (λ (q : ℕ). q * 2 ^ m) one) in
    let z : p + m - p ≡ m = omega arith in
    let lo = t.low in
    simp (enters s p g, first, z, le-ltb 31 m t.short, le-ltb (size s) (p + m + 1 + m) (omega arith), rest)
    (ap₂ (λ (x y : ℕ). got x y) (omega (arith, pow_pos m)) (omega arith))

pub ue_codes : ReadsCodes ue_code UeRange read_ue
ue_codes = record { took = λ s p v q e. subst (UeMean s p) e (ue_mean s p); gives = ue_give }

-- ---- se(v)

se_took : (s : List ℕ) (p : ℕ) (z : ℤ) (q : ℕ) → read_se s p ≡ got z q → Took se_code SeRange s p z q
unfolding read_se
se_took s p z q e = go (read_ue s p) refl e
  where
    go : (a : Ans ℕ) → read_ue s p ≡ a → as_signed a ≡ got z q → Took se_code SeRange s p z q
    go (got k r) f h =
        let t = ue_codes.took s p k r f in
        let zk : z ≡ signed_of k = cc in
        let qr : q ≡ r = cc in
        let u : unsigned_of z ≡ k = ap unsigned_of zk ∙ unsigned_signed k in
        let small = t.ok in
        record {
          entered = t.entered;
          ok = in_range z (omega arith);
          stands = subst (λ (i : ℕ). Stands s p (ue_code i)) (sym u) t.stands;
          stops = qr ∙ t.stops ∙ ap (λ (i : ℕ). p + length (ue_code i)) (sym u);
        }
    go (no n) f h = cc

se_give : (s : List ℕ) (p : ℕ) (z : ℤ) → Entered s p → SeRange z → Stands s p (se_code z) → read_se s p ≡ got z (p + length (se_code z))
unfolding read_se
se_give s p z g h c = simp (ue_codes.gives s p (unsigned_of z) g (has_code z h) c, signed_unsigned z)

pub se_codes : ReadsCodes se_code SeRange read_se
se_codes = record { took = se_took; gives = se_give }

-- se(v) is refused as ue(v) is
pub se_refused : (s : List ℕ) (p k : ℕ) → read_se s p ≡ no k → WhyUe s p k
unfolding read_se
se_refused s p k e = go (read_ue s p) refl e
  where
    go : (a : Ans ℕ) → read_ue s p ≡ a → as_signed a ≡ no k → WhyUe s p k
    go (got v r) f h = cc
    go (no n) f h = let nk : n ≡ k = cc in subst (WhyUe s p) nk (ue_refused s p n f)

-- ---- one bit

pub bits_of_bit : (v : ℕ) → v < 2 → bits_of 1 v ≡ bit_code (eqb v 1)
unfolding bits_of
bits_of_bit v h = dite (dec_lt 0 v) (λ l. let e : v ≡ 1 = omega arith in rw e) (λ l. let e : v ≡ 0 = omega arith in rw e)

bit_took : (s : List ℕ) (p : ℕ) (b : Bool) (q : ℕ) → read_bit s p ≡ got b q → Took bit_code AnyBit s p b q
unfolding read_bit
bit_took s p b q e = go (read_bits s p 1) refl e
  where
    go : (a : Ans ℕ) → read_bits s p 1 ≡ a → as_bool a ≡ got b q → Took bit_code AnyBit s p b q
    go (got v r) f h =
        let t = (bits_codes 1 (omega arith)).took s p v r f in
        let bv : eqb v 1 ≡ b = cc in
        let qr : r ≡ q = cc in
        let code : bits_of 1 v ≡ bit_code b = bits_of_bit v t.ok ∙ ap bit_code bv in
        record {
          entered = t.entered;
          ok = tt;
          stands = subst (Stands s p) code t.stands;
          stops = sym qr ∙ t.stops ∙ ap (λ (c : List ℕ). p + length c) code;
        }
    go (no n) f h = cc

bit_give : (s : List ℕ) (p : ℕ) (b : Bool) → Entered s p → AnyBit b → Stands s p (bit_code b) → read_bit s p ≡ got b (p + length (bit_code b))
unfolding read_bit
bit_give s p true g u c =
    simp ((bits_codes 1 (omega arith)).gives s p 1 g (omega arith) (subst (Stands s p) (sym (bits_of_bit 1 (omega arith))) c), length_bits_of 1 1)
bit_give s p false g u c =
    simp ((bits_codes 1 (omega arith)).gives s p 0 g (omega arith) (subst (Stands s p) (sym (bits_of_bit 0 (omega arith))) c), length_bits_of 1 0)

pub bit_codes : ReadsCodes bit_code AnyBit read_bit
bit_codes = record { took = bit_took; gives = bit_give }

pub bit_refused : (s : List ℕ) (p k : ℕ) → read_bit s p ≡ no k → WhyBits s p 1 k
unfolding read_bit
bit_refused s p k e = go (read_bits s p 1) refl e
  where
    go : (a : Ans ℕ) → read_bits s p 1 ≡ a → as_bool a ≡ no k → WhyBits s p 1 k
    go (got v r) f h = cc
    go (no n) f h = let nk : n ≡ k = cc in subst (WhyBits s p 1) nk (bits_refused s p 1 n f)

-- ---- a skip

abbrev SkipMeans : List ℕ → ℕ → ℕ → Ans Unit → Type 0
SkipMeans s p n (got v q) = Skipped s p n q
SkipMeans s p n (no k) = WhySkip s p n k

skip_means : (s : List ℕ) (p n : ℕ) → SkipMeans s p n (skipped s p n)
unfolding skipped
skip_means s p n =
    unless_by (SkipMeans s p n) no (entry_at s p) _ (λ k e. skip_entry (entry_why s p k e))
    (λ e. let g = entered s p e in
    cond_by (SkipMeans s p n) (ltb (size s) (p + n)) _ _ (λ t. skip_short g (ltb-true (size s) (p + n) t))
    (λ f. record { entered = g; stops = refl; within = ltb-false (size s) (p + n) f }))

pub skip_took : (s : List ℕ) (p n : ℕ) (v : Unit) (q : ℕ) → skipped s p n ≡ got v q → Skipped s p n q
skip_took s p n v q e = subst (SkipMeans s p n) e (skip_means s p n)

pub skip_refused : (s : List ℕ) (p n k : ℕ) → skipped s p n ≡ no k → WhySkip s p n k
skip_refused s p n k e = subst (SkipMeans s p n) e (skip_means s p n)

pub skip_give : (s : List ℕ) (p n : ℕ) (v : Unit) → Entered s p → p + n ≤ size s → skipped s p n ≡ got v (p + n)
unfolding skipped
skip_give s p n v g h = simp (enters s p g, le-ltb (size s) (p + n) h)
