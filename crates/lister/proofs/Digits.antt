-- A number in decimal: `places` is the fewest digits that hold it, and the kit's contract leaves no other number of them.
use Rattle.std.proofs.Common.{◌≡◌, ℕ, zero, suc, ◌-◌, ◌*◌, ◌/◌, ◌^◌, ◌<◌, ◌≤◌, Bool, true, false, ltb, leb, refl, ap, arith}
use Rattle.std.proofs.Common.{ltb-false, ltb-true, leb-false, leb-true}
use native.Mathlib.Nat.{pow-le-pow_right, pow-succ'}
use Rattle.desk.proofs.Choice.{cond_by}
use Rattle.io.specs.Digits.{last_digits, IsDigitCount}
use Rattle.lister.specs.Text.{places_in, places, decimal}

one_less : (k : ℕ) → 10 ^ (suc k - 1) ≡ 10 ^ k
one_less k = let e : suc k - 1 ≡ k = omega arith in ap (λ (j : ℕ). 10 ^ j) e

-- one digit more
fewest_more : (n k : ℕ) → 10 ≤ n → IsDigitCount 10 1 (n / 10) k → IsDigitCount 10 1 n (suc k)
fewest_more n k h f =
    let p : 10 ^ suc k ≡ 10 * 10 ^ k = pow-succ' 10 k in
    (omega arith, omega (arith, f.1, p), λ _. go k f)
  where
    go : (k : ℕ) → IsDigitCount 10 1 (n / 10) k → 10 ^ (suc k - 1) ≤ n
    go zero f = absurd (let z : ⊥ = omega (arith, f.0) in z)
    go (suc zero) f = h
    go (suc (suc k)) f =
        let p : 10 ^ suc (suc k) ≡ 10 * 10 ^ suc k = pow-succ' 10 (suc k) in
        omega (arith, p, one_less (suc (suc k)), one_less (suc k), f.2 (omega arith))

fewest_in : (most n : ℕ) → n ≤ most → IsDigitCount 10 1 n (places_in most n)
fewest_in zero n h = (omega arith, omega arith, λ (k : 1 < 1). absurd (let z : ⊥ = omega arith in z))
fewest_in (suc most) n h =
    cond_by (IsDigitCount 10 1 n) (ltb n 10) 1 (suc (places_in most (n / 10)))
    (λ e. let lt : n < 10 = ltb-true n 10 e in (omega arith, omega arith, λ (k : 1 < 1). absurd (let z : ⊥ = omega arith in z)))
    (λ e. let ge : 10 ≤ n = ltb-false n 10 e in fewest_more n (places_in most (n / 10)) ge (fewest_in most (n / 10) (omega arith)))

-- THE FEWEST DIGITS THAT HOLD IT
pub places_fewest : (n : ℕ) → IsDigitCount 10 1 n (places n)
places_fewest n = fewest_in n n (omega arith)

fewest_le : (n k j : ℕ) → IsDigitCount 10 1 n k → IsDigitCount 10 1 n j → k ≤ j
fewest_le n k j f g = go (leb k j) refl
  where
    go : (c : Bool) → leb k j ≡ c → k ≤ j
    go true e = leb-true k j e
    go false e =
        let over : j < k = leb-false k j e in
        let more : 10 ^ j ≤ 10 ^ (k - 1) = pow-le-pow_right (omega arith) (omega arith) in
        let z : ⊥ = omega (arith, more, g.1, g.0, f.2 (omega (arith, g.0))) in
        absurd z

-- what the kit's `decimal` writes
pub decimal_is : (n k : ℕ) → IsDigitCount 10 1 n k → last_digits 10 k n ≡ decimal n
unfolding decimal
decimal_is n k f =
    let e : k ≡ places n = omega (arith, fewest_le n k (places n) f (places_fewest n), fewest_le n (places n) k (places_fewest n) f) in
    ap (λ (j : ℕ). last_digits 10 j n) e
