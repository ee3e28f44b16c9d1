-- The first one and the last one, by values: what the searches of the code find.
use mathlib.Core.Path.{◌≡◌, refl, sym, ap, ap₂, ◌∙◌}
use mathlib.Core.List.{List}
use mathlib.Core.Option.{Option, none, some}
use mathlib.Core.Bool.{false}
use mathlib.Core.Logic.{dite}
use native.Mathlib.Decide.{dec_lt}
use Prim.Native.Nat.{ℕ, zero, suc, ◌+◌, ◌-◌, ◌*◌, ◌/◌, ◌%◌, ◌^◌, ◌≤◌, ◌<◌}
use Rattle.std.proofs.Common.{zero-le}
use native.Mathlib.Nat.{zero-add, lt_of_le_of_lt, div-eq_of_lt-le, pow-suc, div-one, add-zero, add-suc, add_assoc}
use native.Mathlib.Omega.{arith}
use borrow.Author.Tests.{eqb-false, eq-eqb, ne_eqb, le-ltb}
use Rattle.std.specs.Prelude.{EachIndex, Option as Optional, Some, None}
use Rattle.std.specs.Option.{option_eq}
use lib.ListN.{length, get_or, drop, length-drop}
use Rattle.std.proofs.lemmas.List.{get_or-drop}
use lib.Dec.{eqb}
use lib.Pow.{high}
use lib.Count.{count_leading_zeros, leading_top, count_trailing_zeros}
use Rattle.bits.specs.Rule.{bit_at, value_at, first_one, last_one, size}
use Rattle.bits.specs.Step.{place, FirstNonzero, LastNonzero}
use Rattle.bits.specs.declared.BitPos.{BitPos}
use Rattle.bits.specs.Answer.{lies_behind, finish_from}
use Rattle.bits.proofs.Value.{bit_lt, value_zero, value_lt, value_split, value_one, value_byte, value_in_byte, pow_lt_cancel, ue_fits}
use Rattle.bits.proofs.Entry.{entered}
use Rattle.bits.proofs.Found.{first_from, last_nowhere, last_where, last_there, last_absent}
use Rattle.bits.proofs.Trailing.{trailing_low, trailing_one, trailing_byte}

-- ---- the first one: z zeros and a one make the number 1

pub first_one_none : (s : List ℕ) (p n : ℕ) → value_at s p n ≡ 0 → first_one s p n ≡ none
unfolding value_at first_one
first_one_none s p zero h = refl
first_one_none s p (suc n) h = simp (first_one_none s p n (omega arith), ne_eqb (bit_at s (p + n)) 1 (omega arith))

first_here : (s : List ℕ) (p z : ℕ) → value_at s p (suc z) ≡ 1 → first_one s p (suc z) ≡ some (p + z)
unfolding value_at first_one
first_here s p z h =
    let b = bit_lt s (p + z) in
    simp (first_one_none s p z (omega arith), eq-eqb (bit_at s (p + z)) 1 (omega arith))

pub first_one_is : (s : List ℕ) (p z r : ℕ) → value_at s p (suc z) ≡ 1 → first_one s p (suc z + r) ≡ some (p + z)
unfolding first_one
first_one_is s p z zero h = ap (first_one s p) (add-zero (suc z)) ∙ first_here s p z h
first_one_is s p z (suc r) h = ap (first_one s p) (add-suc (suc z) r) ∙ simp (first_one_is s p z r h)

-- ---- the last one: a one, and zeros after it

pub last_none : (s : List ℕ) (p n : ℕ) → value_at s p n ≡ 0 → last_one s p n ≡ none
unfolding value_at last_one
last_none s p zero h = refl
last_none s p (suc n) h = simp (ne_eqb (bit_at s (p + n)) 1 (omega arith), last_none s p n (omega arith))

pub last_is : (s : List ℕ) (p z r : ℕ) → bit_at s (p + z) ≡ 1 → value_at s (p + suc z) r ≡ 0 → last_one s p (suc z + r) ≡ some (p + z)
unfolding value_at last_one
last_is s p z zero e h = ap (last_one s p) (add-zero (suc z)) ∙ simp (eq-eqb (bit_at s (p + z)) 1 e)
last_is s p z (suc r) e h =
    ap (last_one s p) (add-suc (suc z) r)
    ∙ simp (ne_eqb (bit_at s (p + (suc z + r))) 1 (omega (arith, ap (bit_at s) (add_assoc p (suc z) r))), last_is s p z r e (omega arith))

-- a number of z + 1 + j bits whose highest one is bit j has z zeros and a one in front
pub top_one : (s : List ℕ) (p z j : ℕ) → 2 ^ j ≤ value_at s p (suc z + j) → value_at s p (suc z + j) < 2 ^ suc j → value_at s p (suc z) ≡ 1
top_one s p z j lo hi =
    let v = value_at s p (suc z) in
    let e : value_at s p (suc z + j) / 2 ^ j ≡ v =
    ap (λ (x : ℕ). x / 2 ^ j) (value_split s p (suc z) j) ∙ high v j (value_lt s (p + suc z) j) in
    sym e ∙ div-eq_of_lt-le (2 ^ j) (omega arith) (omega (arith, pow-suc 2 j))

-- the first one of the bits up to the end of byte i, by the count of leading zeros
pub first_top : (s : List ℕ) (p i q b : ℕ) → p < 8 * i + 8 → i < length s → b ≡ value_at s p (8 * i + 8 - p) → 0 < b → b < 256
    → q ≡ 8 * i + count_leading_zeros 8 b → some q ≡ first_one s p (size s - p)
first_top s p i q b l hi e pos small h =
    let m = 8 * i + 8 - p in
    let top = leading_top 8 b pos small in
    let j = top.0 in
    let jm : j < m = pow_lt_cancel (lt_of_le_of_lt top.2 (rw e (value_lt s p m))) in
    let z = m - suc j in
    let sum : m ≡ suc z + j = omega arith in
    let lz = top.1 in
    let all : b ≡ value_at s p (suc z + j) = e ∙ ap (value_at s p) sum in
    let one : value_at s p (suc z) ≡ 1 = top_one s p z j (rw (← all) top.2) (rw (← all) top.3) in
    let place : p + z ≡ q = omega arith in
    let size_is : size s - p ≡ suc z + (size s - 8 * i - 8 + j) = omega arith in
    sym (ap (first_one s p) size_is ∙ first_one_is s p z (size s - 8 * i - 8 + j) one ∙ ap {B = Option ℕ} some place)

-- ---- bytes of zeros

zero_bytes : (s : List ℕ) (f n : ℕ) → ((k : ℕ) → k < n → get_or s (f + k) 0 ≡ 0) → value_at s (8 * f) (8 * n) ≡ 0
zero_bytes s f zero h = value_zero s (8 * f)
zero_bytes s f (suc n) h =
    let more : 8 * suc n ≡ 8 * n + 8 = omega arith in
    let place : 8 * f + 8 * n ≡ 8 * (f + n) = omega arith in
    let zero_here : get_or s (f + n) 0 ≡ 0 = h n (omega arith) in
    let byte : value_at s (8 * f + 8 * n) 8 ≡ 0 = ap (λ (q : ℕ). value_at s q 8) place ∙ value_byte s (f + n) (omega arith) ∙ zero_here in
    ap (value_at s (8 * f)) more ∙ value_split s (8 * f) (8 * n) 8 ∙ omega (arith, zero_bytes s f n (λ k a. h k (omega arith)))

-- zeros, and bytes of zeros behind them
zeros_on : (s : List ℕ) (p f n : ℕ) → p ≤ 8 * f → value_at s p (8 * f - p) ≡ 0 → ((k : ℕ) → k < n → get_or (drop f s) k 0 ≡ 0)
    → value_at s p (8 * (f + n) - p) ≡ 0
zeros_on s p f n l z h =
    let sum : 8 * (f + n) - p ≡ 8 * f - p + 8 * n = omega arith in
    let place : p + (8 * f - p) ≡ 8 * f = omega arith in
    let behind = zero_bytes s f n (λ k a. sym (get_or-drop f s k 0) ∙ h k a) in
    ap (value_at s p) sum ∙ value_split s p (8 * f - p) (8 * n)
    ∙ ap₂ (λ (x q : ℕ). x * 2 ^ (8 * n) + value_at s q (8 * n)) z place ∙ omega arith

-- a byte after zeros
pub after_zeros : (s : List ℕ) (p i : ℕ) → p ≤ 8 * i → value_at s p (8 * i - p) ≡ 0 → get_or s i 0 < 256 → value_at s p (8 * i + 8 - p) ≡ get_or s i 0
after_zeros s p i l h small =
    let place : p + (8 * i - p) ≡ 8 * i = omega arith in
    ap (value_at s p) (omega arith)
    ∙ value_split s p (8 * i - p) 8
    ∙ ap₂ (λ (x k : ℕ). x * 2 ^ 8 + value_at s k 8) h place
    ∙ omega (arith, value_byte s i small)

-- ---- the first one, from the bits before byte f and the first byte from there on that is not zero

pub first_behind : (s : List ℕ) (p f i q : ℕ) → p ≤ 8 * f → value_at s p (8 * f - p) ≡ 0 → FirstNonzero (drop f s) i → get_or s (f + i) 0 < 256
    → q ≡ 8 * (f + i) + count_leading_zeros 8 (get_or s (f + i) 0) → some q ≡ first_one s p (size s - p)
first_behind s p f i q l z n small h =
    let b = get_or s (f + i) 0 in
    let w = n.within in
    let long = length-drop f s in
    let some_there : 0 < b = rw (← get_or-drop f s i 0) n.nonzero in
    let byte : value_at s p (8 * (f + i) + 8 - p) ≡ b =
    after_zeros s p (f + i) (omega arith) (zeros_on s p f i l z n.zeros) small in
    first_top s p (f + i) q b (omega arith) (omega arith) (sym byte) some_there small h

pub no_first : (s : List ℕ) (p f : ℕ) → p ≤ 8 * f → f ≤ length s → value_at s p (8 * f - p) ≡ 0
    → EachIndex (drop f s) (λ k. get_or (drop f s) k 0 ≡ 0) → none ≡ first_one s p (size s - p)
no_first s p f l w z h =
    let all : 8 * (f + (length s - f)) - p ≡ size s - p = omega arith in
    let long = length-drop f s in
    sym (first_one_none s p (size s - p) (ap (value_at s p) (sym all) ∙ zeros_on s p f (length s - f) l z (λ k a. h k (omega arith))))

pub no_first_at_end : (s : List ℕ) (p : ℕ) → p ≡ size s → none ≡ first_one s p (size s - p)
no_first_at_end s p e =
    let n : size s - p ≡ 0 = omega arith in
    sym (first_one_none s p (size s - p) (ap (value_at s p) n ∙ value_zero s p))

-- ---- the last one of all, from the last byte that is not zero

pub last_in : (s : List ℕ) (i : ℕ) → LastNonzero s i → get_or s i 0 < 256
    → some (8 * i + 7 - count_trailing_zeros 8 (get_or s i 0)) ≡ last_one s 0 (size s)
last_in s i l small =
    let b = get_or s i 0 in
    let pos = l.nonzero in
    let w = l.within in
    let t = count_trailing_zeros 8 b in
    let t8 : t < 8 = trailing_byte b pos small in
    let q = 8 * i + (7 - t) in
    let n = length s - (i + 1) in
    let one : bit_at s (0 + q) ≡ 1 =
    ap (bit_at s) (zero-add q) ∙ sym (value_one s q) ∙ value_in_byte s i (7 - t) 1 t (omega arith)
    ∙ trailing_one 8 b pos small in
    let low : value_at s (8 * i + (8 - t)) t ≡ 0 =
    value_in_byte s i (8 - t) t 0 (omega arith) ∙ ap (λ (x : ℕ). x % 2 ^ t) (div-one b) ∙ trailing_low 8 b in
    let rest : value_at s (8 * (i + 1)) (8 * n) ≡ 0 = zero_bytes s (i + 1) n (λ k a. l.zeros (i + 1 + k) (omega arith) (omega arith)) in
    let at : 0 + suc q ≡ 8 * i + (8 - t) = omega arith in
    let behind : 8 * i + (8 - t) + t ≡ 8 * (i + 1) = omega arith in
    let zeros : value_at s (0 + suc q) (t + 8 * n) ≡ 0 =
    ap (λ (k : ℕ). value_at s k (t + 8 * n)) at ∙ value_split s (8 * i + (8 - t)) t (8 * n)
    ∙ ap₂ (λ (x y : ℕ). x * 2 ^ (8 * n) + y) low (ap (λ (k : ℕ). value_at s k (8 * n)) behind ∙ rest) ∙ omega arith in
    let place : 0 + q ≡ 8 * i + 7 - t = omega arith in
    sym (ap (last_one s 0) (omega arith) ∙ last_is s 0 q (t + 8 * n) one zeros ∙ ap {B = Option ℕ} some place)

pub no_last : (s : List ℕ) → EachIndex s (λ k. get_or s k 0 ≡ 0) → none ≡ last_one s 0 (size s)
no_last s h = sym (last_none s 0 (size s) (zero_bytes s 0 (length s) (λ k a. ap (λ (j : ℕ). get_or s j 0) (zero-add k) ∙ h k a)))

-- ---- the last one at or after a place, from the last one of all

module _ (s : List ℕ) (p : ℕ) (w : p ≤ size s) where
  none_after : none ≡ last_one s 0 (size s) → last_one s p (size s - p) ≡ none
  none_after e = last_absent s p (size s - p) (λ i a b. last_nowhere s 0 (size s) (sym e) i zero-le (omega arith))

  none_before : (l : ℕ) → some l ≡ last_one s 0 (size s) → l < p → last_one s p (size s - p) ≡ none
  none_before l e h =
      let f = last_where s 0 (size s) l (sym e) in
      last_absent s p (size s - p) (λ i a b. f.zeros i (omega arith) (omega arith))

  still : (l : ℕ) → some l ≡ last_one s 0 (size s) → p ≤ l → last_one s p (size s - p) ≡ some l
  still l e h =
      let f = last_where s 0 (size s) l (sym e) in
      let g = f.within in
      last_there s p (size s - p) l
      (record { from = h; within = omega arith; one = f.one; zeros = λ i a b. f.zeros i a (omega arith) })

  pub behind_is : (o : Option ℕ) → o ≡ last_one s 0 (size s) → lies_behind p (last_one s p (size s - p)) ≡ lies_behind p o
  behind_is none e = ap (lies_behind p) (none_after e)
  behind_is (some l) e =
      dite (dec_lt l p) (λ h. ap (lies_behind p) (none_before l e h) ∙ sym (le-ltb p l (omega arith)))
      (λ h. ap (lies_behind p) (still l e (omega arith)))

  -- what both finishes answer
  module _ (missing : ℕ) where
    pub finish_none : none ≡ last_one s 0 (size s) → finish_from missing p (last_one s p (size s - p)) ≡ missing
    finish_none e = ap (finish_from missing p) (none_after e)

    pub finish_before : (l : ℕ) → some l ≡ last_one s 0 (size s) → l < p → finish_from missing p (last_one s p (size s - p)) ≡ missing
    finish_before l e h = ap (finish_from missing p) (none_before l e h)

    pub finish_here : (l : ℕ) → some l ≡ last_one s 0 (size s) → l ≡ p → finish_from missing p (last_one s p (size s - p)) ≡ 0
    finish_here l e h = ap (finish_from missing p) (still l e (omega arith)) ∙ simp (eq-eqb l p h)

    pub finish_behind : (l : ℕ) → some l ≡ last_one s 0 (size s) → p < l → finish_from missing p (last_one s p (size s - p)) ≡ 6
    finish_behind l e h = ap (finish_from missing p) (still l e (omega arith)) ∙ simp (ne_eqb l p (omega arith))

  -- what is not the last one
  pub finish_not_here : (o : Optional BitPos) (q : BitPos) → q.0 ≡ p → place o ≡ last_one s 0 (size s)
      → false ≡ option_eq (λ (x y : BitPos). eqb x.0 y.0) o (Some q) → finish_from 6 p (last_one s p (size s - p)) ≡ 6
  finish_not_here None q h e k = finish_none 6 e
  finish_not_here (Some l) q h e k =
      let n = eqb-false l.0 q.0 (sym k) in
      dite (dec_lt l.0 p) (finish_before 6 l.0 e) (λ g. finish_behind 6 l.0 e (omega arith))

-- what the calls that search for a one cite
pub ruleset code_reading = (entered, first_from, ue_fits)

pub ruleset finishing = (entered, finish_none, finish_before, finish_here, finish_behind)
