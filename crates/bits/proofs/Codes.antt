-- Lists of bits: those of a number, those of bytes, and codes that stand among them.
use mathlib.Core.Path.{◌≡◌, refl, sym, ap, ap₂, ◌∙◌, subst}
use mathlib.Core.List.{List, [], ◌∷◌, ◌++◌, append_assoc, append-nil}
use mathlib.Core.Logic.{◌⊎◌, inl, inr, dite}
use Prim.Native.Nat.{ℕ, zero, suc, ◌+◌, ◌-◌, ◌*◌, ◌/◌, ◌%◌, ◌^◌, ◌≤◌, ◌<◌}
use native.Mathlib.Nat.{lt_of_lt_of_le, div-one, pow-suc, add-zero, add-suc, div-eq_of_lt, div-eq_of_lt-le, div-add-mod', le_of_suc-le-suc}
use native.Mathlib.Nat.{eq-or-lt_of_le}
use native.Mathlib.Numerals.{add-one, one-add}
use native.Mathlib.Decide.{dec_lt}
use native.Mathlib.Omega.{arith}
use lib.ListN.{length, get_or, take, drop, replicate, length-drop, length-replicate, replicate-append-replicate, length-append, get_or-append}
use lib.Seq.{get_or_at, get_or-append-add, get_or-take, get_or-drop, length-take-le, ext_get_or}
use lib.Pow.{mod-mod-pow, field, high, low, shr-shr, pow_mono, pow_pos}
use Rattle.bits.specs.Rule.{bit_at, value_at, size, bits_of, bits, top_of, prefix_of, ue_code, Stands}
use Rattle.bits.specs.Answer.{ue_width}
use Rattle.bits.proofs.Value.{value_one, value_field}
use Rattle.bits.proofs.Top.{prefix}

-- ---- the bits of a number

pub length_bits_of : (n v : ℕ) → length (bits_of n v) ≡ n
unfolding bits_of
length_bits_of zero v = refl
length_bits_of (suc n) v = length-append (bits_of n (v / 2)) (v % 2 ∷ []) ∙ omega (arith, length_bits_of n (v / 2))

-- m bits, then n bits
pub bits_split : (m n x : ℕ) → bits_of (m + n) x ≡ bits_of m (x / 2 ^ n) ++ bits_of n x
unfolding bits_of
bits_split m zero x = ap₂ bits_of (add-zero m) (sym (div-one x)) ∙ sym (append-nil (bits_of m (x / 1)))
bits_split m (suc n) x =
    ap (λ (k : ℕ). bits_of k x) (add-suc m n)
    ∙ ap (λ (l : List ℕ). l ++ (x % 2 ∷ []))
    (bits_split m n (x / 2) ∙ ap (λ (y : ℕ). bits_of m y ++ bits_of n (x / 2)) (shr-shr x 1 n ∙ ap (λ (k : ℕ). x / 2 ^ k) (one-add n)))
    ∙ append_assoc (bits_of m (x / 2 ^ suc n)) (bits_of n (x / 2)) (x % 2 ∷ [])

-- the n low bits are those of the rest by 2 ^ n
pub bits_mod : (n x : ℕ) → bits_of n (x % 2 ^ n) ≡ bits_of n x
unfolding bits_of
bits_mod zero x = refl
bits_mod (suc n) x =
    let e : 2 ^ suc n ≡ 2 ^ (n + 1) = ap (λ (k : ℕ). 2 ^ k) (sym (add-one n)) in
    ap₂ (λ (y b : ℕ). bits_of n y ++ (b ∷ []))
    (ap (λ (k : ℕ). x % k / 2) e ∙ field x n 1)
    (ap (λ (k : ℕ). x % k % 2) e ∙ mod-mod-pow x n 1)
    ∙ ap (λ (l : List ℕ). l ++ (x % 2 ∷ [])) (bits_mod n (x / 2))

pub bit_of : (n v i : ℕ) → i < n → get_or (bits_of n v) i 0 ≡ v / 2 ^ (n - 1 - i) % 2
unfolding bits_of
bit_of zero v i h = absurd (omega arith)
bit_of (suc n) v i h = go (bit_of n (v / 2) i) (eq-or-lt_of_le (le_of_suc-le-suc h))
  where
    go : (i < n → get_or (bits_of n (v / 2)) i 0 ≡ v / 2 / 2 ^ (n - 1 - i) % 2) → (i ≡ n) ⊎ (i < n)
        → get_or (bits_of n (v / 2) ++ (v % 2 ∷ [])) i 0 ≡ v / 2 ^ (suc n - 1 - i) % 2
    go ih (inl e) =
        let none : 0 ≡ suc n - 1 - i = omega arith in
        get_or_at (bits_of n (v / 2)) (v % 2) [] 0 i (length_bits_of n (v / 2) ∙ sym e)
        ∙ ap (λ (y : ℕ). y % 2) (sym (div-one v)) ∙ ap (λ (k : ℕ). v / 2 ^ k % 2) none
    go ih (inr l) =
        let more : 1 + (n - 1 - i) ≡ suc n - 1 - i = omega arith in
        get_or-append (bits_of n (v / 2)) (v % 2 ∷ []) 0 i (omega (arith, length_bits_of n (v / 2)))
        ∙ ih l ∙ ap (λ (y : ℕ). y % 2) (shr-shr v 1 (n - 1 - i) ∙ ap (λ (k : ℕ). v / 2 ^ k) more)

-- the bit of a byte list at place p stands at p in its list of bits
pub bits_at : (s : List ℕ) (q : ℕ) → q < size s → get_or (bits s) q 0 ≡ bit_at s q
unfolding bits bit_at
bits_at [] q h = absurd (omega arith)
bits_at (b ∷ s) q h = dite (dec_lt q 8) (here) (go (bits_at s (q - 8)))
  where
    here : q < 8 → get_or (bits_of 8 b ++ bits s) q 0 ≡ get_or (b ∷ s) (q / 8) 0 / 2 ^ (7 - q % 8) % 2
    here l =
        let first : 0 ≡ q / 8 = omega arith in
        let within : 8 - 1 - q ≡ 7 - q % 8 = omega arith in
        get_or-append (bits_of 8 b) (bits s) 0 q (omega (arith, length_bits_of 8 b)) ∙ bit_of 8 b q l
        ∙ ap₂ (λ (i k : ℕ). get_or (b ∷ s) i 0 / 2 ^ k % 2) first within

    go : (q - 8 < size s → get_or (bits s) (q - 8) 0 ≡ get_or s ((q - 8) / 8) 0 / 2 ^ (7 - (q - 8) % 8) % 2)
        → (q < 8 → ⊥) → get_or (bits_of 8 b ++ bits s) q 0 ≡ get_or (b ∷ s) (q / 8) 0 / 2 ^ (7 - q % 8) % 2
    go ih n =
        let place : q ≡ length (bits_of 8 b) + (q - 8) = omega (arith, length_bits_of 8 b) in
        let byte : suc ((q - 8) / 8) ≡ q / 8 = omega arith in
        let within : 7 - (q - 8) % 8 ≡ 7 - q % 8 = omega arith in
        ap (λ (i : ℕ). get_or (bits_of 8 b ++ bits s) i 0) place
        ∙ get_or-append-add (bits_of 8 b) (bits s) (q - 8) 0 ∙ ih (omega arith)
        ∙ ap₂ (λ (i k : ℕ). get_or (b ∷ s) i 0 / 2 ^ k % 2) byte within

-- ---- the bits of bytes

pub bits_append : (s t : List ℕ) → bits (s ++ t) ≡ bits s ++ bits t
unfolding bits
bits_append [] t = refl
bits_append (b ∷ s) t = ap (λ (l : List ℕ). bits_of 8 b ++ l) (bits_append s t) ∙ sym (append_assoc (bits_of 8 b) (bits s) (bits t))

pub bits_none : (x : ℕ) → bits [] ≡ bits_of 0 x
unfolding bits bits_of
bits_none x = refl

pub bits_one : (b : ℕ) → bits (b ∷ []) ≡ bits_of 8 b
unfolding bits
bits_one b = append-nil (bits_of 8 b)

pub no_bits : (x : ℕ) → bits_of 0 x ≡ []
unfolding bits_of
no_bits x = refl

pub length_bits : (s : List ℕ) → length (bits s) ≡ 8 * length s
unfolding bits
length_bits [] = refl
length_bits (b ∷ s) = length-append (bits_of 8 b) (bits s) ∙ omega (arith, length_bits_of 8 b, length_bits s)

-- n bits that are those of v make v
pub value_of : (s : List ℕ) (p n v : ℕ) → v < 2 ^ n → ((i : ℕ) → i < n → bit_at s (p + i) ≡ v / 2 ^ (n - 1 - i) % 2) → value_at s p n ≡ v
unfolding value_at
value_of s p zero v h f = omega arith
value_of s p (suc n) v h f =
    let e : suc n - 1 - n ≡ 0 = omega arith in
    let last : bit_at s (p + n) ≡ v % 2 = f n (omega arith) ∙ ap (λ (k : ℕ). v / 2 ^ k % 2) e ∙ ap (λ (y : ℕ). y % 2) (div-one v) in
    omega (
      arith,
      last,
      value_of s p n (v / 2) (omega arith) (λ i l.
          let more : suc n - 1 - i ≡ 1 + (n - 1 - i) = omega arith in
          f i (omega arith) ∙ ap (λ (k : ℕ). v / 2 ^ k % 2) more ∙ ap (λ (y : ℕ). y % 2) (sym (shr-shr v 1 (n - 1 - i)))),
    )

pub bits_from : (s : List ℕ) (p n : ℕ) → p + n ≤ size s → take n (drop p (bits s)) ≡ bits_of n (value_at s p n)
bits_from s p n h =
    let v = value_at s p n in
    let long : length (take n (drop p (bits s))) ≡ n = length-take-le n (drop p (bits s)) (omega (arith, length-drop p (bits s), length_bits s)) in
    ext_get_or 0 (take n (drop p (bits s))) (bits_of n v) (long ∙ sym (length_bits_of n v)) (λ i l.
    let i_lt : i < n = omega (arith, long) in
    let k : i + 1 + (n - 1 - i) ≡ n = omega arith in
    get_or-take n (drop p (bits s)) i 0 i_lt ∙ get_or-drop p (bits s) i 0 ∙ bits_at s (p + i) (omega arith)
    ∙ sym (value_one s (p + i)) ∙ sym (value_field s p i 1 (n - 1 - i))
    ∙ ap (λ (j : ℕ). value_at s p j / 2 ^ (n - 1 - i) % 2) k ∙ sym (bit_of n v i i_lt))

-- ---- codes that stand in bytes

pub value_stands : (s : List ℕ) (p n : ℕ) → p + n ≤ size s → Stands s p (bits_of n (value_at s p n))
value_stands s p n h =
    let long = length_bits_of n (value_at s p n) in
    record { within = omega arith; there = ap (λ (k : ℕ). take k (drop p (bits s))) long ∙ bits_from s p n h }

pub stands_value : (s : List ℕ) (p n v : ℕ) → v < 2 ^ n → Stands s p (bits_of n v) → value_at s p n ≡ v
stands_value s p n v h c =
    let long = length_bits_of n v in
    let w = c.within in
    value_of s p n v h (λ i l.
    sym (bits_at s (p + i) (omega arith))
    ∙ sym (get_or-drop p (bits s) i 0) ∙ sym (get_or-take (length (bits_of n v)) (drop p (bits s)) i 0 (omega arith))
    ∙ ap (λ (b : List ℕ). get_or b i 0) c.there ∙ bit_of n v i l)

-- ---- ue(v)

pub bits_zero : (n : ℕ) → bits_of n 0 ≡ replicate n 0
unfolding bits_of
bits_zero zero = refl
bits_zero (suc n) =
    ap (λ (l : List ℕ). l ++ (0 ∷ [])) (bits_zero n) ∙ replicate-append-replicate n 1 0 ∙ ap (λ (i : ℕ). replicate i 0) (add-one n)

pub bits_of_one : bits_of 1 1 ≡ 1 ∷ []
unfolding bits_of
bits_of_one = refl

-- M zeros, a one and M bits are the 2 M + 1 bits of v + 1
pub ue_bits : (v : ℕ) → v < 4294967295 → bits_of (ue_width v) (v + 1) ≡ ue_code v
unfolding ue_code
ue_bits v h =
    let a = v + 1 in
    let m = top_of 31 a in
    let t = prefix v h in
    let none : a / 2 ^ (m + 1) ≡ 0 = div-eq_of_lt (subst (λ (i : ℕ). a < 2 ^ i) (sym (add-one m)) t.high) in
    let one : a / 2 ^ m ≡ 1 = div-eq_of_lt-le (2 ^ m) (omega (arith, t.low)) (omega (arith, t.high, pow-suc 2 m)) in
    let rest : a % 2 ^ m ≡ a - 2 ^ m = omega (arith, div-add-mod' a (2 ^ m), ap (λ (q : ℕ). q * 2 ^ m) one) in
    bits_split m (m + 1) a
    ∙ ap₂ (λ (x y : List ℕ). x ++ y) (ap (bits_of m) none ∙ bits_zero m)
    (ap (λ (i : ℕ). bits_of i a) (omega arith) ∙ bits_split 1 m a
    ∙ ap₂ (λ (x y : List ℕ). x ++ y) (ap (bits_of 1) one ∙ bits_of_one) (sym (bits_mod m a) ∙ ap (bits_of m) rest))

pub length_ue : (v : ℕ) → length (ue_code v) ≡ ue_width v
unfolding ue_code
length_ue v =
    let m = prefix_of v in
    length-append (replicate m 0) (1 ∷ bits_of m (v + 1 - 2 ^ m)) ∙ omega (arith, length-replicate {A = ℕ} m 0, length_bits_of m (v + 1 - 2 ^ m))

-- v + 1 has fewer bits than the code
pub ue_below_lem : (v : ℕ) → v < 4294967295 → v + 1 < 2 ^ ue_width v
ue_below_lem v h =
    let t = prefix v h in
    lt_of_lt_of_le t.high (pow_mono {i = suc (prefix_of v)} {j = ue_width v} (omega arith))

-- ---- trailing bits

-- a one and k zeros
pub top_bits : (k : ℕ) → bits_of (k + 1) (2 ^ k) ≡ 1 ∷ replicate k 0
top_bits k =
    let x : 2 ^ k ≡ 1 * 2 ^ k + 0 = omega arith in
    ap (λ (n : ℕ). bits_of n (2 ^ k)) (add-one k ∙ sym (one-add k)) ∙ bits_split 1 k (2 ^ k)
    ∙ ap₂ (λ (a b : List ℕ). a ++ b)
    (ap (λ (y : ℕ). bits_of 1 (y / 2 ^ k)) x ∙ ap (bits_of 1) (high 1 k (pow_pos k)) ∙ bits_of_one)
    (sym (bits_mod k (2 ^ k)) ∙ ap (λ (y : ℕ). bits_of k (y % 2 ^ k)) x ∙ ap (bits_of k) (low 1 k (pow_pos k)) ∙ bits_zero k)
