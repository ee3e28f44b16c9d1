-- What a write leaves: the content grown by the code, and the rest of the room as it was; or the reason of its number.
use mathlib.Core.Path.{◌≡◌, refl, sym, ap, ap₂, ◌∙◌, subst}
use mathlib.Core.List.{List, [], ◌∷◌, ◌++◌, append_assoc}
use mathlib.Core.Bool.{Bool, true, false}
use mathlib.Core.Logic.{◌⊎◌, inl, inr}
use Prim.Native.Nat.{ℕ, zero, suc, ◌+◌, ◌-◌, ◌*◌, ◌/◌, ◌%◌, ◌^◌, ◌≤◌, ◌<◌}
use native.Mathlib.Nat.{add-zero}
use native.Mathlib.Omega.{arith}
use borrow.Author.Tests.{ltb-false, ltb-true, leb-false, leb-true}
use lib.ListN.{length, take, length-append}
use lib.Seq.{length-take-le}
use lib.Pow.{high, low, pow-lt}
use lib.Dec.{ltb, leb}
use lib.IntN.{ℤ, nat_abs}
use Rattle.desk.specs.Numbers.{most}
use Rattle.desk.proofs.Choice.{cond_by}
use Rattle.bits.specs.Rule.{bits, bits_of, ue_code, UeRange, se_code, SeRange, unsigned_of, trailing_bits}
use Rattle.bits.specs.Step.{whole_with, Good, Wrote, wrote, kept, stored, filled, bytes_of}
use Rattle.bits.specs.Answer.{entry_on, bad_writer, roomed, ue_width, write_bits, write_bit, write_ue, write_se, write_trailing}
use Rattle.bits.specs.Reading.{bit_code}
use Rattle.bits.specs.Writing.{content, Appends, WhyNot, room_too_long, state_bad, code_missing, room_too_short, WriteMeans, Field, u, flag}
use Rattle.bits.specs.Writing.{ue, se, code_of, HasCode, without, write_field}
use Rattle.bits.specs.declared.BitWriter.{BitWriter}
use Rattle.bits.proofs.Entry.{entry_numbers, good, good_state, unless_by}
use Rattle.bits.proofs.Codes.{length_bits_of, bits_split, bits_mod, bits_append, bits_none, bits_one, length_bits, ue_bits, ue_below_lem, top_bits}
use Rattle.bits.proofs.Reading.{bits_of_bit}
use Rattle.bits.proofs.Storing.{take_filled, drop_filled, stored_good}
use Rattle.bits.proofs.Signs.{has_code}

-- ---- what is stored, as bits

bits_bytes : (k x : ℕ) → bits (bytes_of k x) ≡ bits_of (8 * k) x
unfolding bytes_of
bits_bytes zero x = bits_none x
bits_bytes (suc k) x =
    let e : 8 * k + 8 ≡ 8 * suc k = omega arith in
    bits_append (bytes_of k (x / 256)) (x % 256 ∷ [])
    ∙ ap₂ (λ (l r : List ℕ). l ++ r) (bits_bytes k (x / 256)) (bits_one (x % 256) ∙ bits_mod 8 x)
    ∙ sym (bits_split (8 * k) 8 x) ∙ ap (λ (n : ℕ). bits_of n x) e

abbrev Holds : List ℕ → Wrote → Type 0
Holds l (wrote st o) = content o st ≡ l
Holds l (kept k o) = Unit

abbrev AppendsTo : List ℕ → BitWriter → List ℕ → Wrote → Type 0
AppendsTo o st code (wrote st' o') = Appends o st code o' st'
AppendsTo o st code (kept k o') = Unit

-- the bits of what is stored are those there were, then the n bits of v
stored_content : (o : List ℕ) (st : BitWriter) (n v : ℕ) → v < 2 ^ n → whole_with st n ≤ length o
    → Holds (content o st ++ bits_of n v) (stored o st n v)
unfolding stored
stored_content o st n v h l =
    let w = st.written.0 in
    let p = st.pending in
    let c = st.count in
    let k = (c + n) / 8 in
    let r = (c + n) % 8 in
    let x = p * 2 ^ n + v in
    let y = x / 2 ^ r in
    let t = bits (take w o) in
    let sum : 8 * k + r ≡ c + n = omega arith in
    let front : bits (take (w + k) (filled o w k y)) ≡ t ++ bits_of (8 * k) y =
    ap bits (take_filled o w k y l) ∙ bits_append (take w o) (bytes_of k y) ∙ ap (λ (m : List ℕ). t ++ m) (bits_bytes k y) in
    let new : bits_of (8 * k) y ++ bits_of r x ≡ bits_of c p ++ bits_of n v =
    sym (bits_split (8 * k) r x) ∙ ap (λ (m : ℕ). bits_of m x) sum ∙ bits_split c n x
    ∙ ap₂ (λ (a b : List ℕ). a ++ b) (ap (bits_of c) (high p n h)) (sym (bits_mod n x) ∙ ap (bits_of n) (low p n h)) in
    ap₂ (λ (a b : List ℕ). a ++ b) front (bits_mod r x)
    ∙ append_assoc t (bits_of (8 * k) y) (bits_of r x)
    ∙ ap (λ (m : List ℕ). t ++ m) new
    ∙ sym (append_assoc t (bits_of c p) (bits_of n v))

pub length_content : (o : List ℕ) (st : BitWriter) → st.written.0 ≤ length o → length (content o st) ≡ 8 * st.written.0 + st.count
length_content o st h =
    let w = st.written.0 in
    let p = st.pending in
    let c = st.count in
    length-append (bits (take w o)) (bits_of c p) ∙ omega (arith, length_bits (take w o), length-take-le w o h, length_bits_of c p)

stored_appends : (o : List ℕ) (st : BitWriter) (n v : ℕ) → Good (length o) st → v < 2 ^ n → whole_with st n ≤ length o
    → AppendsTo o st (bits_of n v) (stored o st n v)
unfolding stored
stored_appends o st n v g h l =
    let k = (st.count + n) / 8 in
    let y = (st.pending * 2 ^ n + v) / 2 ^ ((st.count + n) % 8) in
    let after = stored_good o st n v g.small l in
    record {
      good = after.1;
      grown = stored_content o st n v h l;
      rest = simp add-zero at (drop_filled o st.written.0 k y 0 l);
      long = after.0;
    }

-- ---- what an answer means

module _ (o : List ℕ) (st : BitWriter) (code : List ℕ) (Has : Type 0) (without : ℕ) where
  abbrev Means : Wrote → Type 0
  Means = WriteMeans o st code Has without

  entry_means : (k : ℕ) → entry_on (length o) st ≡ suc k → Means (kept (suc k) o)
  entry_means k e = (refl, go (entry_numbers (length o) (bad_writer (length o) st) k e))
    where
      go : ((suc k ≡ 1) × (most < length o)) ⊎ ((suc k ≡ 2) × (length o ≤ most) × (bad_writer (length o) st ≡ true))
          → WhyNot o st code Has without (suc k)
      go (inl h) = subst (WhyNot o st code Has without) (sym h.0) (room_too_long h.1)
      go (inr h) = subst (WhyNot o st code Has without) (sym h.0) (state_bad h.1 h.2)

  -- the n bits of v, which are the code
  roomed_means : (n v : ℕ) → Good (length o) st → Has → v < 2 ^ n → bits_of n v ≡ code → Means (roomed o st n v)
  unfolding stored
  roomed_means n v g h l e =
      let long = length_content o st g.within in
      let width : length code ≡ n = ap length (sym e) ∙ length_bits_of n v in
      cond_by Means (ltb (length o) (whole_with st n)) _ _
      (λ t. (refl, room_too_short g h (omega (arith, ltb-true (length o) (whole_with st n) t))))
      (λ f. (
        g,
        h,
        subst (λ (b : List ℕ). AppendsTo o st b (stored o st n v)) e
            (stored_appends o st n v g l (ltb-false (length o) (whole_with st n) f)),
      ))

-- ---- the reasons suffice: no two of them hold, and where one does nothing is written

not_bad : {len : ℕ} {st : BitWriter} → Good len st → bad_writer len st ≡ true → ⊥
not_bad {len} {st} g e =
    let f = good_state len st g in
    let z : ◌≡◌ {A = ℕ} 0 1 = cc in
    omega arith

module _ (o : List ℕ) (st : BitWriter) (code : List ℕ) (Has : Type 0) (without : ℕ) where
  abbrev Why : ℕ → Type 0
  Why = WhyNot o st code Has without

  same_why : {j k : ℕ} → Why j → Why k → j ≡ k
  same_why (room_too_long h) (room_too_long h') = refl
  same_why (room_too_long h) (state_bad l b) = absurd (let z : ⊥ = omega arith in z)
  same_why (room_too_long h) (code_missing g n) = absurd (let l = g.small in let z : ⊥ = omega arith in z)
  same_why (room_too_long h) (room_too_short g y r) = absurd (let l = g.small in let z : ⊥ = omega arith in z)
  same_why (state_bad l b) (room_too_long h) = absurd (let z : ⊥ = omega arith in z)
  same_why (state_bad l b) (state_bad l' b') = refl
  same_why (state_bad l b) (code_missing g n) = absurd (not_bad g b)
  same_why (state_bad l b) (room_too_short g y r) = absurd (not_bad g b)
  same_why (code_missing g n) (room_too_long h) = absurd (let l = g.small in let z : ⊥ = omega arith in z)
  same_why (code_missing g n) (state_bad l b) = absurd (not_bad g b)
  same_why (code_missing g n) (code_missing g' n') = refl
  same_why (code_missing g n) (room_too_short g' y r) = absurd (n y)
  same_why (room_too_short g y r) (room_too_long h) = absurd (let l = g.small in let z : ⊥ = omega arith in z)
  same_why (room_too_short g y r) (state_bad l b) = absurd (not_bad g b)
  same_why (room_too_short g y r) (code_missing g' n) = absurd (n y)
  same_why (room_too_short g y r) (room_too_short g' y' r') = refl

  not_written : {k : ℕ} (st' : BitWriter) (o' : List ℕ) → Why k → WriteMeans o st code Has without (wrote st' o') → ⊥
  not_written st' o' (room_too_long h) m = let l = m.0.small in omega arith
  not_written st' o' (state_bad l b) m = not_bad m.0 b
  not_written st' o' (code_missing g n) m = n m.1
  not_written st' o' (room_too_short g y r) m =
      let a = m.2 in
      let long = a.long in
      let within = a.good.within in
      let few = a.good.few in
      omega (arith, ap length a.grown, length_content o' st' (omega arith), length-append (content o st) code)

  refuse : {k : ℕ} (a : Wrote) → WriteMeans o st code Has without a → Why k → a ≡ kept k o
  refuse (wrote st' o') m y = absurd (not_written st' o' y m)
  refuse (kept j o') m y = ap₂ (λ (i : ℕ) (l : List ℕ). kept i l) (same_why m.1 y) m.0

-- ---- each field

module _ (o : List ℕ) (st : BitWriter) where
  abbrev FieldMeans : Field → Wrote → Type 0
  FieldMeans f = WriteMeans o st (code_of f) (HasCode f) (without f)

  u_means : (n v : ℕ) → FieldMeans (u n v) (write_bits o st n v)
  unfolding write_bits
  u_means n v =
      unless_by (FieldMeans (u n v)) (λ k. kept k o) (entry_on (length o) st) _ (entry_means o st (bits_of n v) (HasCode (u n v)) 3)
      (λ e. let g = good (length o) st e in
      cond_by (FieldMeans (u n v)) (ltb 32 n) _ _ (λ t. (refl, code_missing g (λ h. omega (arith, ltb-true 32 n t, h.0))))
      (λ f. cond_by (FieldMeans (u n v)) (leb (2 ^ n) v) _ _ (λ t. (refl, code_missing g (λ h. omega (arith, leb-true (2 ^ n) v t, h.1))))
      (λ b. let l = leb-false (2 ^ n) v b in
      roomed_means o st (bits_of n v) (HasCode (u n v)) 3 n v g (ltb-false 32 n f, l) l refl)))

  flag_means : (b : Bool) → FieldMeans (flag b) (write_bit o st b)
  unfolding write_bit write_bits
  flag_means true =
      unless_by (FieldMeans (flag true)) (λ k. kept k o) (entry_on (length o) st) _ (entry_means o st (bit_code true) Unit 3)
      (λ e. roomed_means o st (bit_code true) Unit 3 1 1 (good (length o) st e) tt (omega arith) (bits_of_bit 1 (omega arith)))
  flag_means false =
      unless_by (FieldMeans (flag false)) (λ k. kept k o) (entry_on (length o) st) _ (entry_means o st (bit_code false) Unit 3)
      (λ e. roomed_means o st (bit_code false) Unit 3 1 0 (good (length o) st e) tt (omega arith) (bits_of_bit 0 (omega arith)))

  ue_means : (v : ℕ) → FieldMeans (ue v) (write_ue o st v)
  unfolding write_ue
  ue_means v =
      unless_by (FieldMeans (ue v)) (λ k. kept k o) (entry_on (length o) st) _ (entry_means o st (ue_code v) (UeRange v) 9)
      (λ e. let g = good (length o) st e in
      cond_by (FieldMeans (ue v)) (leb 4294967295 v) _ _ (λ t. (refl, code_missing g (λ h. omega (arith, leb-true 4294967295 v t))))
      (λ b. let l = leb-false 4294967295 v b in
      roomed_means o st (ue_code v) (UeRange v) 9 (ue_width v) (v + 1) g l (ue_below_lem v l) (ue_bits v l)))

  se_means : (z : ℤ) → FieldMeans (se z) (write_se o st z)
  unfolding write_se
  se_means z =
      unless_by (FieldMeans (se z)) (λ k. kept k o) (entry_on (length o) st) _ (entry_means o st (se_code z) (SeRange z) 9)
      (λ e. let g = good (length o) st e in
      cond_by (FieldMeans (se z)) (leb 2147483648 (nat_abs z)) _ _
      (λ t. (refl, code_missing g (λ h. omega (arith, leb-true 2147483648 (nat_abs z) t))))
      (λ b. let l = leb-false 2147483648 (nat_abs z) b in
      let r : SeRange z = omega arith in
      let s = has_code z r in
      roomed_means o st (se_code z) (SeRange z) 9 (ue_width (unsigned_of z)) (unsigned_of z + 1) g r (ue_below_lem (unsigned_of z) s)
      (ue_bits (unsigned_of z) s)))

  pub field_means : (f : Field) → FieldMeans f (write_field o st f)
  field_means (u n v) = u_means n v
  field_means (flag b) = flag_means b
  field_means (ue v) = ue_means v
  field_means (se z) = se_means z

  -- ---- trailing bits

  pub trailing_means : WriteMeans o st (trailing_bits st.count) Unit 0 (write_trailing o st)
  unfolding write_trailing
  trailing_means =
      unless_by (WriteMeans o st (trailing_bits st.count) Unit 0) (λ k. kept k o) (entry_on (length o) st) _
      (entry_means o st (trailing_bits st.count) Unit 0)
      (λ e. let g = good (length o) st e in
      let few = g.few in
      let c = st.count in
      let n : 8 - c ≡ 7 - c + 1 = omega arith in
      roomed_means o st (trailing_bits st.count) Unit 0 (8 - c) (2 ^ (7 - c)) g tt (pow-lt {i = 7 - c} {j = 8 - c} (omega arith))
      (ap (λ (k : ℕ). bits_of k (2 ^ (7 - c))) n ∙ top_bits (7 - c)))

  pub field_refuse : (f : Field) {k : ℕ} → WhyNot o st (code_of f) (HasCode f) (without f) k → write_field o st f ≡ kept k o
  field_refuse f y = refuse o st (code_of f) (HasCode f) (without f) (write_field o st f) (field_means f) y

  pub trailing_refuse : {k : ℕ} → WhyNot o st (trailing_bits st.count) Unit 0 k → write_trailing o st ≡ kept k o
  trailing_refuse y = refuse o st (trailing_bits st.count) Unit 0 (write_trailing o st) trailing_means y
