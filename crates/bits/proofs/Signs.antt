-- Signed numbers of 32 bits.
use mathlib.Core.Path.{◌≡◌, refl}
use mathlib.Core.Bool.{true, false}
use borrow.Author.Tests.{eq-eqb, ne_eqb, le-leb, lt-leb}
use Rattle.bits.proofs.Entry.{good}
use Rattle.bits.specs.Rule.{signed_of, unsigned_of, SeRange}
use Prim.Native.Nat.{ℕ, zero, suc, ◌+◌, ◌*◌, ◌/◌, ◌%◌, ◌<◌}
use native.Mathlib.Decide.{dec_lt}
use mathlib.Core.Logic.{dite}
use native.Mathlib.Omega.{arith}
use lib.Dec.{leb}
use lib.IntN.{ℤ, pos, negsuc, nat_abs}
use mir.Syntax.{w32}
use mir.Val.{SFits, of_z}

-- ---- se(v)'s number of ue(v)

pub is_least : (z : ℤ) → SFits w32 z → of_z w32 z ≡ 2147483648 → leb 2147483648 (nat_abs z) ≡ true
is_least (pos n) f e = absurd (let l = f.sfits in omega arith)
is_least (negsuc n) f e = let l = f.sfits in le-leb 2147483648 (suc n) (omega arith)

pub not_least : (z : ℤ) → SFits w32 z → (of_z w32 z ≡ 2147483648 → ⊥) → leb 2147483648 (nat_abs z) ≡ false
not_least (pos n) f h = let l = f.sfits in lt-leb 2147483648 n (omega arith)
not_least (negsuc n) f h =
    let l = f.sfits in
    let ne : n ≡ 2147483647 → ⊥ = λ e. h (omega arith) in
    lt-leb 2147483648 (suc n) (omega arith)

-- ---- se(v)'s mapping is one to one

pub unsigned_signed : (k : ℕ) → unsigned_of (signed_of k) ≡ k
unsigned_signed k = dite (dec_lt 0 (k % 2)) (λ h. odd (omega arith)) (λ h. even (k / 2) refl (omega arith))
  where
    odd : k % 2 ≡ 1 → unsigned_of (signed_of k) ≡ k
    odd h =
        let half : (k + 1) / 2 ≡ suc (k / 2) = omega arith in
        simp (eq-eqb (k % 2) 1 h, half) (omega arith)

    even : (j : ℕ) → k / 2 ≡ j → (k % 2 ≡ 1 → ⊥) → unsigned_of (signed_of k) ≡ k
    even zero e n = simp (ne_eqb (k % 2) 1 n, e) (omega arith)
    even (suc j) e n = simp (ne_eqb (k % 2) 1 n, e) (omega arith)

pub signed_unsigned : (z : ℤ) → signed_of (unsigned_of z) ≡ z
signed_unsigned (pos zero) = refl
signed_unsigned (pos (suc n)) =
    let half : (2 * n + 1 + 1) / 2 ≡ suc n = omega arith in
    simp (eq-eqb ((2 * n + 1) % 2) 1 (omega arith), half)
signed_unsigned (negsuc n) =
    let half : (2 * n + 2) / 2 ≡ suc n = omega arith in
    simp (ne_eqb ((2 * n + 2) % 2) 1 (omega arith), half)

-- and takes the ue values that have a code onto -(2 ^ 31 - 1) to 2 ^ 31 - 1
pub in_range : (z : ℤ) → unsigned_of z < 4294967295 → SeRange z
in_range (pos zero) h = omega arith
in_range (pos (suc n)) h = omega arith
in_range (negsuc n) h = omega arith

pub has_code : (z : ℤ) → SeRange z → unsigned_of z < 4294967295
has_code (pos zero) h = omega arith
has_code (pos (suc n)) h = omega arith
has_code (negsuc n) h = omega arith

-- what a write of a signed value cites
pub ruleset code_writing = (good, is_least, not_least, has_code)
