-- Trailing zeros of a number: the bits below them are zero, and the one above is one.
use mathlib.Core.Path.{◌≡◌, refl, sym, ap, ◌∙◌}
use Prim.Native.Nat.{ℕ, zero, suc, ◌/◌, ◌%◌, ◌^◌, ◌≤◌, ◌<◌}
use native.Mathlib.Nat.{mod-one, le_of_eq, lt_of_lt_of_le, lt_of_not-le, not-le_of_lt, mod-eq_of_lt, div-one}
use native.Mathlib.Numerals.{add-one, one-add}
use native.Mathlib.Omega.{arith}
use lib.Pow.{mod-pow-add, shr-shr}
use lib.Count.{count_trailing_zeros, under}
use Rattle.bits.proofs.Value.{pow_lt_cancel}

pub trailing_low : (k n : ℕ) → n % 2 ^ count_trailing_zeros k n ≡ 0
unfolding count_trailing_zeros
trailing_low zero n = mod-one n
trailing_low (suc k) n = go (n % 2) refl (trailing_low k (n / 2))
  where
    go : (d : ℕ) → n % 2 ≡ d → n / 2 % 2 ^ count_trailing_zeros k (n / 2) ≡ 0 → n % 2 ^ under d (count_trailing_zeros k (n / 2)) ≡ 0
    go zero e ih =
        ap (λ (x : ℕ). n % 2 ^ x) (sym (add-one (count_trailing_zeros k (n / 2)))) ∙ mod-pow-add n (count_trailing_zeros k (n / 2)) 1
        ∙ omega (arith, ih, e)
    go (suc d) e ih = mod-one n

pub trailing_one : (k n : ℕ) → 0 < n → n < 2 ^ k → n / 2 ^ count_trailing_zeros k n % 2 ≡ 1
unfolding count_trailing_zeros
trailing_one zero n pos h = absurd (omega arith)
trailing_one (suc k) n pos h = go (n % 2) refl (trailing_one k (n / 2))
  where
    go : (d : ℕ) → n % 2 ≡ d → (0 < n / 2 → n / 2 < 2 ^ k → n / 2 / 2 ^ count_trailing_zeros k (n / 2) % 2 ≡ 1)
        → n / 2 ^ under d (count_trailing_zeros k (n / 2)) % 2 ≡ 1
    go zero e ih =
        ap (λ (x : ℕ). n / 2 ^ x % 2) (sym (one-add (count_trailing_zeros k (n / 2))))
        ∙ ap (λ (x : ℕ). x % 2) (sym (shr-shr n 1 (count_trailing_zeros k (n / 2))))
        ∙ ih (omega arith) (omega arith)
    go (suc d) e ih = ap (λ (x : ℕ). x % 2) (div-one n) ∙ omega arith

pub trailing_byte : (b : ℕ) → 0 < b → b < 256 → count_trailing_zeros 8 b < 8
trailing_byte b pos small =
    let t = count_trailing_zeros 8 b in
    pow_lt_cancel {a = t} {b = 8}
    (lt_of_not-le (λ (g : 256 ≤ 2 ^ t). not-le_of_lt pos (le_of_eq (sym (mod-eq_of_lt (lt_of_lt_of_le small g)) ∙ trailing_low 8 b))))
