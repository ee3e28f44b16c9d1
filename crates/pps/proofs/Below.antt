-- Single fields.
use mathlib.Core.Path.{◌≡◌, refl, ◌∙◌}
use mathlib.Core.Bool.{Bool, true, false, cond}
use mathlib.Core.List.{List}
use Prim.Native.Nat.{ℕ, ◌+◌, ◌*◌, ◌≤◌, ◌<◌}
use native.Mathlib.Nat.{mul-le-mul_left}
use native.Mathlib.Omega.{arith}
use borrow.Author.Tests.{ltb-true}
use lib.Dec.{ltb}
use Rattle.bits.specs.Reading.{Ans, got, no, and_then, read_ue, Entered}
use Rattle.bits.proofs.Reading.{ue_codes}
use Rattle.pps.specs.Rule.{ue_below, id_bits, most_units}
use Rattle.pps.proofs.Ids.{id_bits_least}

-- where ue(v) stops is within the bytes
pub ue_enters : (s : List ℕ) (p v q : ℕ) → read_ue s p ≡ got v q → Entered s q
ue_enters s p v q e =
    let t = ue_codes.took s p v q e in
    let w = t.stands.within in
    record { small = t.entered.small; within = omega (arith, t.stops) }

-- a field below its limit is ue(v), and below it
pub below_is : (limit k : ℕ) (s : List ℕ) (p v q : ℕ) → ue_below limit k s p ≡ got v q → (read_ue s p ≡ got v q) × (v < limit)
unfolding ue_below
below_is limit k s p v q e = go (read_ue s p) refl e
  where
    by : (u r : ℕ) → read_ue s p ≡ got u r → (b : Bool) → ltb u limit ≡ b → cond b (got u r) (no k) ≡ got v q → (read_ue s p ≡ got v q) × (v < limit)
    by u r f true l h = let uv : u ≡ v = cc in (f ∙ h, omega (arith, ltb-true u limit l))
    by u r f false l h = absurd (let z : ◌≡◌ {A = ℕ} 0 1 = cc in omega arith)

    go : (x : Ans ℕ) → read_ue s p ≡ x → and_then x (λ u r. cond (ltb u limit) (got u r) (no k)) ≡ got v q → (read_ue s p ≡ got v q) × (v < limit)
    go (got u r) f h = by u r f (ltb u limit) refl h
    go (no j) f h = absurd (let z : ◌≡◌ {A = ℕ} 0 1 = cc in omega arith)

-- ids of up to 8 groups have up to 3 bits
pub id_bits_few : (n : ℕ) → n ≤ 7 → id_bits n ≤ 3
id_bits_few n h = (id_bits_least n).least 3 (omega arith)

-- what a good picture says of its ids
pub record IdsKnown (s : List ℕ) (m q b n : ℕ) : Type 0 where
  pub entered : Entered s q
  pub width : id_bits n ≤ 3
  pub narrow : b ≤ 3
  pub count : m < most_units
  pub bits : (m + 1) * b ≤ 3 * most_units

pub ids_known : (s : List ℕ) (p n units k m q b : ℕ) → n ≤ 7 → units ≤ most_units → ue_below units k s p ≡ got m q → b ≡ id_bits n
    → IdsKnown s m q b n
ids_known s p n units k m q b few limit e eb =
    let f = below_is units k s p m q e in
    let w = id_bits_few n few in
    let less = f.1 in
    let nb : b ≤ 3 = omega arith in
    record {
      entered = ue_enters s p m q f.0;
      width = w;
      narrow = nb;
      count = omega arith;
      bits = omega (arith, mul-le-mul_left (m + 1) nb);
    }
