-- The width of a group id, and rows of ids.
use mathlib.Core.Path.{◌≡◌, refl, ap, subst}
use mathlib.Core.List.{List, ◌∷◌}
use mathlib.Core.Bool.{Bool, true, false, cond}
use Prim.Native.Nat.{ℕ, zero, suc, ◌+◌, ◌*◌, ◌^◌, ◌≤◌, ◌<◌}
use native.Mathlib.Omega.{arith}
use native.Mathlib.Nat.{pow-suc}
use borrow.Author.Tests.{leb-true, leb-false}
use lib.Dec.{leb}
use native.Mathlib.Nat.{suc-mul}
use Rattle.bits.specs.Reading.{Ans, got, no, and_then, read_bits, size, Entered, long, past, WhyBits, bits_entry, bits_wide, bits_short}
use Rattle.bits.proofs.Value.{pow_lt_cancel}
use Rattle.bits.proofs.Reading.{bits_codes, bits_refused}
use Rattle.bits.proofs.Refusing.{bits_number}
use Rattle.bits.proofs.Codes.{length_bits_of}
use Rattle.pps.specs.Rule.{least_from, id_bits, row}
use Rattle.pps.specs.Codes.{LeastPower}

least_from_lem : (count b m : ℕ) → m ≤ 2 ^ (b + count) → ((k : ℕ) → m ≤ 2 ^ k → b ≤ k) → LeastPower m (least_from count b m)
unfolding least_from
least_from_lem zero b m h l = record { reaches = let e : b + 0 ≡ b = omega arith in rw e at h; least = l }
least_from_lem (suc count) b m h l = go (leb m (2 ^ b)) refl (least_from_lem count (suc b) m)
  where
    go : (c : Bool) → leb m (2 ^ b) ≡ c
        → (m ≤ 2 ^ (suc b + count) → ((k : ℕ) → m ≤ 2 ^ k → suc b ≤ k) → LeastPower m (least_from count (suc b) m))
        → LeastPower m (cond c b (least_from count (suc b) m))
    go true e ih = record { reaches = leb-true m (2 ^ b) e; least = l }
    go false e ih =
        let n : b + suc count ≡ suc b + count = omega arith in
        ih (subst (λ (k : ℕ). m ≤ 2 ^ k) n h) (λ k r. pow_lt_cancel (omega (arith, leb-false m (2 ^ b) e)))

at_most_power : (n : ℕ) → n + 1 ≤ 2 ^ n
at_most_power zero = omega arith
at_most_power (suc n) = omega (arith, at_most_power n, pow-suc 2 n)

-- the id width is the least b with 2 ^ b at least n + 1, for every n
pub id_bits_least : (n : ℕ) → LeastPower (n + 1) (id_bits n)
unfolding id_bits
id_bits_least n =
    let e : 0 + n ≡ n = omega arith in
    least_from_lem n 0 (n + 1) (rw e (at_most_power n)) (λ k r. omega arith)

-- so it is b + 1 between 2 ^ b and 2 ^ (b + 1)
pub id_bits_is : (n b : ℕ) → 2 ^ b ≤ n → n < 2 ^ suc b → id_bits n ≡ suc b
id_bits_is n b l h =
    let w = id_bits_least n in
    let r = w.reaches in
    omega (arith, w.least (suc b) (omega arith), pow_lt_cancel {a = b} {b = id_bits n} (omega arith))

-- for each count of groups that a picture may have
pub id_bits_1 : (n : ℕ) → n ≡ 1 → id_bits n ≡ 1
id_bits_1 n e = id_bits_is n 0 (omega arith) (omega arith)

pub id_bits_2 : (n : ℕ) → 2 ≤ n → n ≤ 3 → id_bits n ≡ 2
id_bits_2 n l h = id_bits_is n 1 (omega arith) (omega arith)

pub id_bits_3 : (n : ℕ) → 4 ≤ n → n ≤ 7 → id_bits n ≡ 3
id_bits_3 n l h = id_bits_is n 2 (omega arith) (omega arith)

-- ---- count fields of b bits

module _ (b : ℕ) (narrow : b ≤ 32) where
  -- where one ends
  bits_end : (s : List ℕ) (p v q : ℕ) → read_bits s p b ≡ got v q → q ≡ p + b
  bits_end s p v q e = omega (arith, ((bits_codes b narrow).took s p v q e).stops, length_bits_of b v)

  -- where the bits of all are there, none is refused
  pub ids_there : (count : ℕ) (s : List ℕ) (p k : ℕ) → Entered s p → p + count * b ≤ size s → row (λ s p. read_bits s p b) count s p ≡ no k → ⊥
  unfolding row
  ids_there zero s p k g h e = let z : ◌≡◌ {A = ℕ} 0 1 = cc in omega arith
  ids_there (suc count) s p k g h e = go (read_bits s p b) refl e (ids_there count s)
    where
      go : (x : Ans ℕ) → read_bits s p b ≡ x → and_then x (λ a q. and_then (row (λ s p. read_bits s p b) count s q) (λ l r. got (a ∷ l) r)) ≡ no k
          → ((q j : ℕ) → Entered s q → q + count * b ≤ size s → row (λ s p. read_bits s p b) count s q ≡ no j → ⊥) → ⊥
      go (got v q) f r ih =
          let end = bits_end s p v q f in
          let m = suc-mul count b in
          ih q k (record { small = g.small; within = omega arith }) (omega arith) (drop_front (row (λ s p. read_bits s p b) count s q) r)
        where
          drop_front : (y : Ans (List ℕ)) → and_then y (λ rest r. got (v ∷ rest) r) ≡ no k → y ≡ no k
          drop_front (got vs r) z = absurd (let x : ◌≡◌ {A = ℕ} 0 1 = cc in omega arith)
          drop_front (no j) z = z
      go (no j) f r ih = short (bits_refused s p b j f)
        where
          short : {j : ℕ} → WhyBits s p b j → ⊥
          short (bits_entry (long w)) = omega arith
          short (bits_entry (past w l)) = omega arith
          short (bits_wide g' w) = omega arith
          short (bits_short g' w l) = let m = suc-mul count b in omega arith

  -- where they are not, the row is refused by 4
  pub ids_short : (count : ℕ) (s : List ℕ) (p : ℕ) → Entered s p → size s < p + count * b → row (λ s p. read_bits s p b) count s p ≡ no 4
  unfolding row
  ids_short zero s p g h = let w = g.within in absurd (let z : ⊥ = omega arith in z)
  ids_short (suc count) s p g h = go (read_bits s p b) refl (ids_short count s)
    where
      go : (x : Ans ℕ) → read_bits s p b ≡ x → ((q : ℕ) → Entered s q → size s < q + count * b → row (λ s p. read_bits s p b) count s q ≡ no 4)
          → and_then x (λ a q. and_then (row (λ s p. read_bits s p b) count s q) (λ rest r. got (a ∷ rest) r)) ≡ no 4
      go (got v q) f ih =
          let end = bits_end s p v q f in
          let m = suc-mul count b in
          let t = ((bits_codes b narrow).took s p v q f).stands.within in
          let l = length_bits_of b v in
          rw (ih q (record { small = g.small; within = omega arith }) (omega arith))
      go (no j) f ih = ap no (bits_number s p g j b narrow f)
