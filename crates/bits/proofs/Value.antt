-- The value of n bits, over n: how it splits, and how it is cut out of whole bytes.
use mathlib.Core.Path.{◌≡◌, refl, sym, ap, ap₂, ◌∙◌}
use mathlib.Core.List.{List}
use Prim.Native.Nat.{ℕ, zero, suc, ◌+◌, ◌-◌, ◌*◌, ◌/◌, ◌%◌, ◌^◌, ◌≤◌, ◌<◌}
use native.Mathlib.Nat.{le_refl, lt_of_not-le, not-le_of_lt, one-mul, mod-lt, mod-eq_of_lt, div-one, pow-suc, add-zero, add-suc, add_assoc, mul_assoc}
use native.Mathlib.Numerals.{add-one}
use native.Mathlib.Omega.{arith}
use lib.ListN.{get_or, take, drop}
use Rattle.std.proofs.lemmas.List.{get_or-take, get_or-drop}
use lib.Pow.{mod-pow-add, high, low, shr-shr, shl_exact, pow_mono}
use lib.Bits.{bit_and, and_mask}
use lib.Dec.{lit<}
use Rattle.bits.specs.Rule.{bit_at, value_at}

pub bit_lt : (s : List ℕ) (p : ℕ) → bit_at s p < 2
unfolding bit_at
bit_lt s p = omega arith

pub value_suc : (s : List ℕ) (p n : ℕ) → value_at s p (suc n) ≡ value_at s p n * 2 + bit_at s (p + n)
unfolding value_at
value_suc s p n = refl

pub value_zero : (s : List ℕ) (p : ℕ) → value_at s p 0 ≡ 0
unfolding value_at
value_zero s p = refl

pub value_lt : (s : List ℕ) (p n : ℕ) → value_at s p n < 2 ^ n
unfolding value_at
value_lt s p zero = lit< tt
value_lt s p (suc n) = omega (arith, value_lt s p n, bit_lt s (p + n))

pub value_small : (s : List ℕ) (p n : ℕ) → n ≤ 32 → value_at s p n < 4294967296
value_small s p n h = omega (arith, value_lt s p n, pow_mono {i = n} {j = 32} h)

pub value_byte_lt : (s : List ℕ) (p n : ℕ) → n ≤ 8 → value_at s p n < 256
value_byte_lt s p n h = omega (arith, value_lt s p n, pow_mono {i = n} {j = 8} h)

-- omega does not open a power that is a factor: hand it this
pub times_pow_suc : (a n : ℕ) → a * 2 ^ suc n ≡ a * 2 ^ n * 2
times_pow_suc a n = ap (λ (x : ℕ). a * x) (pow-suc 2 n) ∙ sym (mul_assoc a (2 ^ n) 2)

-- m bits, then n bits
pub value_split : (s : List ℕ) (p m n : ℕ) → value_at s p (m + n) ≡ value_at s p m * 2 ^ n + value_at s (p + m) n
unfolding value_at
value_split s p m zero = ap (value_at s p) (add-zero m) ∙ omega arith
value_split s p m (suc n) =
    ap (value_at s p) (add-suc m n)
    ∙ omega (arith, value_split s p m n, ap (bit_at s) (add_assoc p m n), times_pow_suc (value_at s p m) n)

-- the m bits from bit `off` of byte i, with r bits of the byte after them
pub value_in_byte : (s : List ℕ) (i off m r : ℕ) → off + m + r ≡ 8
    → value_at s (8 * i + off) m ≡ get_or s i 0 / 2 ^ r % 2 ^ m
unfolding value_at bit_at
value_in_byte s i off zero r h = omega (arith, mod-lt (get_or s i 0 / 2 ^ r) (lit< {m = 0} {n = 2 ^ 0} tt))
value_in_byte s i off (suc m) r h =
    let b = get_or s i 0 in
    let place : (8 * i + off + m) / 8 ≡ i = omega arith in
    let within : 7 - (8 * i + off + m) % 8 ≡ r = omega arith in
    let bit : bit_at s (8 * i + off + m) ≡ b / 2 ^ r % 2 = ap₂ (λ (j k : ℕ). get_or s j 0 / 2 ^ k % 2) place within in
    let halves : b / 2 ^ r % 2 ^ suc m ≡ b / 2 ^ suc r % 2 ^ m * 2 + b / 2 ^ r % 2 =
    ap (λ (k : ℕ). b / 2 ^ r % 2 ^ k) (sym (add-one m)) ∙ mod-pow-add (b / 2 ^ r) m 1
    ∙ ap (λ (x : ℕ). x % 2 ^ m * 2 + b / 2 ^ r % 2) (shr-shr b r 1 ∙ ap (λ (k : ℕ). b / 2 ^ k) (add-one r)) in
    omega (arith, bit, halves, value_in_byte s i off m (suc r) (omega arith))

-- a whole byte
pub value_byte : (s : List ℕ) (i : ℕ) → get_or s i 0 < 256 → value_at s (8 * i) 8 ≡ get_or s i 0
value_byte s i h =
    ap (λ (k : ℕ). value_at s k 8) (sym (add-zero (8 * i)))
    ∙ value_in_byte s i 0 8 0 (omega arith)
    ∙ ap (λ (x : ℕ). x % 2 ^ 8) (div-one (get_or s i 0)) ∙ mod-eq_of_lt h

-- one more whole byte
pub value_more : (s : List ℕ) (i : ℕ) → get_or s i 0 < 256 → value_at s 0 (8 * (i + 1)) ≡ value_at s 0 (8 * i) * 256 + get_or s i 0
value_more s i h =
    let more : 8 * (i + 1) ≡ 8 * i + 8 = omega arith in
    let place : 0 + 8 * i ≡ 8 * i = omega arith in
    ap (value_at s 0) more ∙ value_split s 0 (8 * i) 8
    ∙ ap (λ (x : ℕ). value_at s 0 (8 * i) * 256 + x) (ap (λ (k : ℕ). value_at s k 8) place ∙ value_byte s i h)

-- the first m bits of n bytes from byte f on
pub value_part : (s : List ℕ) (f n m : ℕ) → m ≤ 8 * n → value_at (take n (drop f s)) 0 m ≡ value_at s (8 * f) m
unfolding value_at bit_at
value_part s f n zero h = refl
value_part s f n (suc m) h =
    let byte : f + (0 + m) / 8 ≡ (8 * f + m) / 8 = omega arith in
    let bit : (0 + m) % 8 ≡ (8 * f + m) % 8 = omega arith in
    ap₂ (λ (x y : ℕ). x * 2 + y) (value_part s f n m (omega arith))
    (ap₂ (λ (x k : ℕ). x / 2 ^ (7 - k) % 2)
    (get_or-take n (drop f s) ((0 + m) / 8) 0 (omega arith) ∙ get_or-drop f s ((0 + m) / 8) 0 ∙ ap (λ (k : ℕ). get_or s k 0) byte) bit)

-- a field within a longer one: a bits, the field of n bits, r bits
pub value_field : (s : List ℕ) (p a n r : ℕ) → value_at s p (a + n + r) / 2 ^ r % 2 ^ n ≡ value_at s (p + a) n
value_field s p a n r =
    ap (λ (x : ℕ). x / 2 ^ r % 2 ^ n) (value_split s p (a + n) r)
    ∙ ap (λ (x : ℕ). x % 2 ^ n) (high (value_at s p (a + n)) r (value_lt s (p + (a + n)) r) ∙ value_split s p a n)
    ∙ low (value_at s p a) n (value_lt s (p + a) n)

-- `1 << n` at w bits
pub one_shl : (w n : ℕ) → n < w → (1 * 2 ^ n) % 2 ^ w ≡ 2 ^ n
one_shl w n h = shl_exact {a = 1} 1 n w (lit< tt) (omega arith) ∙ one-mul (2 ^ n)

-- and a value of n bits beside it, at 32 bits
pub ue_fits : (s : List ℕ) (p n : ℕ) → n ≤ 31 → (1 * 2 ^ n) % 4294967296 + value_at s p n < 4294967296
ue_fits s p n h = omega (arith, one_shl 32 n (omega arith), pow_mono {i = n} {j = 31} h, value_lt s p n)

-- the mask `(1 << n) - 1` at w bits
pub masked : (w x n : ℕ) → n < w → bit_and x ((1 * 2 ^ n) % 2 ^ w - 1) ≡ x % 2 ^ n
masked w x n h = ap (λ (m : ℕ). bit_and x (m - 1)) (one_shl w n h) ∙ and_mask x n

-- the n bits from p, out of the whole bytes f to t that hold them
pub value_cut : (s : List ℕ) (p n f t r : ℕ) → 8 * f ≤ p → p + n + r ≡ 8 * t
    → value_at s (8 * f) (8 * (t - f)) / 2 ^ r % 2 ^ n ≡ value_at s p n
value_cut s p n f t r l e =
    ap (λ (k : ℕ). value_at s (8 * f) k / 2 ^ r % 2 ^ n) (omega arith)
    ∙ value_field s (8 * f) (p - 8 * f) n r
    ∙ ap (λ (k : ℕ). value_at s k n) (omega arith)

-- and of those bytes alone
pub value_cut_part : (s : List ℕ) (p n f t r : ℕ) → 8 * f ≤ p → p + n + r ≡ 8 * t
    → value_at (take (t - f) (drop f s)) 0 (8 * (t - f)) / 2 ^ r % 2 ^ n ≡ value_at s p n
value_cut_part s p n f t r l e =
    ap (λ (x : ℕ). x / 2 ^ r % 2 ^ n) (value_part s f (t - f) (8 * (t - f)) (le_refl _)) ∙ value_cut s p n f t r l e

-- of two powers, the smaller has the smaller exponent
pub pow_lt_cancel : {a b : ℕ} → 2 ^ a < 2 ^ b → a < b
pow_lt_cancel h = lt_of_not-le (λ g. not-le_of_lt h (pow_mono g))

pub value_one : (s : List ℕ) (p : ℕ) → value_at s p 1 ≡ bit_at s p
unfolding value_at
value_one s p = ap (λ (k : ℕ). 0 * 2 + bit_at s k) (add-zero p) ∙ omega arith
