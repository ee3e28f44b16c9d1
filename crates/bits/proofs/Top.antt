-- The place of a number's highest one, by powers of two and by the count of leading zeros.
use mathlib.Core.Path.{◌≡◌, sym, subst}
use mathlib.Core.Bool.{cond}
use mathlib.Core.Logic.{◌⊎◌, inl, inr}
use Prim.Native.Nat.{ℕ, zero, suc, ◌+◌, ◌-◌, ◌^◌, ◌≤◌, ◌<◌}
use native.Mathlib.Nat.{lt_of_lt_of_le, eq-or-lt_of_le}
use native.Mathlib.Omega.{arith}
use borrow.Author.Tests.{le-leb, lt-leb}
use lib.Count.{count_leading_zeros, leading_top}
use lib.Dec.{leb}
use lib.Pow.{pow_mono}
use Rattle.bits.specs.Rule.{top_of, prefix_of}
use Rattle.bits.specs.Step.{Prefix}

pub top_is : (k a j : ℕ) → j ≤ k → 2 ^ j ≤ a → a < 2 ^ suc j → top_of k a ≡ j
unfolding top_of
top_is zero a j l lo hi = omega arith
top_is (suc k) a j l lo hi = go (top_is k a j) (eq-or-lt_of_le l)
  where
    go : (j ≤ k → 2 ^ j ≤ a → a < 2 ^ suc j → top_of k a ≡ j) → (j ≡ suc k) ⊎ (j < suc k) → cond (leb (2 ^ suc k) a) (suc k) (top_of k a) ≡ j
    go ih (inl e) = simp (le-leb (2 ^ suc k) a (subst (λ (i : ℕ). 2 ^ i ≤ a) e lo)) (sym e)
    go ih (inr g) = simp (lt-leb (2 ^ suc k) a (lt_of_lt_of_le hi (pow_mono g))) (ih (omega arith) lo hi)

pub top_bounds : (a : ℕ) → 0 < a → a < 2 ^ 32
    → (count_leading_zeros 32 a ≤ 31) × (31 - count_leading_zeros 32 a ≡ top_of 31 a) × (2 ^ top_of 31 a ≤ a) × (a < 2 ^ suc (top_of 31 a))
top_bounds a above h =
    let t = leading_top 32 a above h in
    let j = t.0 in
    let e = t.1 in
    let is : top_of 31 a ≡ j = top_is 31 a j (omega arith) t.2 t.3 in
    (omega arith, omega arith, subst (λ (i : ℕ). 2 ^ i ≤ a) (sym is) t.2, subst (λ (i : ℕ). a < 2 ^ suc i) (sym is) t.3)

-- the prefix of a value's code, by leading zeros and by powers of two
pub leading_prefix : (v : ℕ) → v < 4294967295 → (count_leading_zeros 32 (v + 1) ≤ 31) × Prefix v (31 - count_leading_zeros 32 (v + 1))
leading_prefix v h =
    let t = top_bounds (v + 1) (omega arith) (omega arith) in
    let m = 31 - count_leading_zeros 32 (v + 1) in
    let is : m ≡ prefix_of v = t.1 in (
      t.0,
      record {
        is = is;
        short = omega arith;
        low = subst (λ (i : ℕ). 2 ^ i ≤ v + 1) (sym is) t.2;
        high = subst (λ (i : ℕ). v + 1 < 2 ^ suc i) (sym is) t.3;
      },
    )

pub prefix : (v : ℕ) → v < 4294967295 → Prefix v (prefix_of v)
prefix v h = let t = (leading_prefix v h).1 in subst (Prefix v) t.is t
