-- The first one and the last one are found exactly where they are.
use mathlib.Core.Path.{◌≡◌, refl, sym, ap, ◌∙◌}
use mathlib.Core.List.{List}
use mathlib.Core.Bool.{Bool, true, false, cond}
use mathlib.Core.Option.{Option, none, some}
use mathlib.Core.Logic.{dite}
use Prim.Native.Nat.{ℕ, zero, suc, ◌+◌, ◌-◌, ◌<◌, ◌≤◌}
use native.Mathlib.Decide.{dec_lt}
use native.Mathlib.Omega.{arith}
use borrow.Author.Tests.{eqb-true, eqb-false}
use lib.Dec.{eqb}
use Rattle.bits.specs.Rule.{or_else, bit_at, value_at, first_one, last_one, IsFirst, IsLast, NoOne}
use Rattle.bits.proofs.Value.{bit_lt, value_zero, value_suc}

module _ (s : List ℕ) (p : ℕ) where
  -- zeros, and one more bit that is no one
  no_more : (n : ℕ) → NoOne s p n → (bit_at s (p + n) ≡ 1 → ⊥) → NoOne s p (suc n)
  no_more n h ne i a b = dite (dec_lt i (p + n)) (h i a) (λ l.
      let e : i ≡ p + n = omega arith in
      ap (bit_at s) e ∙ omega (arith, bit_lt s (p + n)))

  -- ---- the first one

  pub first_nowhere : (n : ℕ) → first_one s p n ≡ none → NoOne s p n
  unfolding first_one
  first_nowhere zero h = λ i a b. absurd (let z : ⊥ = omega arith in z)
  first_nowhere (suc n) h = go (first_one s p n) (eqb (bit_at s (p + n)) 1) refl refl (first_nowhere n) h
    where
      go : (o : Option ℕ) (b : Bool) → first_one s p n ≡ o → eqb (bit_at s (p + n)) 1 ≡ b → (first_one s p n ≡ none → NoOne s p n)
          → or_else o (cond b (some (p + n)) none) ≡ none → NoOne s p (suc n)
      go none false f e ih k = no_more n (ih f) (eqb-false (bit_at s (p + n)) 1 e)
      go none true f e ih k = cc
      go (some x) b f e ih k = cc

  pub first_where : (n q : ℕ) → first_one s p n ≡ some q → IsFirst s p n q
  unfolding first_one
  first_where zero q h = cc
  first_where (suc n) q h = go (first_one s p n) (eqb (bit_at s (p + n)) 1) refl refl (first_where n q) h
    where
      go : (o : Option ℕ) (b : Bool) → first_one s p n ≡ o → eqb (bit_at s (p + n)) 1 ≡ b → (first_one s p n ≡ some q → IsFirst s p n q)
          → or_else o (cond b (some (p + n)) none) ≡ some q → IsFirst s p (suc n) q
      go none false f e ih k = cc
      go none true f e ih k =
          let at : p + n ≡ q = cc in
          record {
            from = omega arith;
            within = omega arith;
            one = ap (bit_at s) (sym at) ∙ eqb-true (bit_at s (p + n)) 1 e;
            zeros = λ i a b. first_nowhere n f i a (omega arith);
          }
      go (some x) b f e ih k =
          let xq : x ≡ q = cc in
          let r = ih (f ∙ ap {B = Option ℕ} some xq) in
          let w = r.within in
          record { from = r.from; within = omega arith; one = r.one; zeros = r.zeros }

  pub first_from : (n q : ℕ) → some q ≡ first_one s p n → p ≤ q
  first_from n q e = (first_where n q (sym e)).from

  -- what is the first one is found
  pub first_there : (n q : ℕ) → IsFirst s p n q → first_one s p n ≡ some q
  first_there n q h = go (first_one s p n) refl
    where
      go : (o : Option ℕ) → first_one s p n ≡ o → first_one s p n ≡ some q
      go none f = absurd (let z = first_nowhere n f q h.from h.within in let y = h.one in omega arith)
      go (some k) f =
          let r = first_where n k f in
          let one = h.one in
          let one' = r.one in
          let low : q < k → ⊥ = λ l. let z = r.zeros q h.from l in omega arith in
          let high : k < q → ⊥ = λ l. let z = h.zeros k r.from l in omega arith in
          let e : k ≡ q = omega arith in
          f ∙ ap {B = Option ℕ} some e

  pub first_absent : (n : ℕ) → NoOne s p n → first_one s p n ≡ none
  first_absent n h = go (first_one s p n) refl
    where
      go : (o : Option ℕ) → first_one s p n ≡ o → first_one s p n ≡ none
      go none f = f
      go (some k) f = let r = first_where n k f in absurd (let z = h k r.from r.within in let y = r.one in omega arith)

  -- ---- the last one

  pub last_nowhere : (n : ℕ) → last_one s p n ≡ none → NoOne s p n
  unfolding last_one
  last_nowhere zero h = λ i a b. absurd (let z : ⊥ = omega arith in z)
  last_nowhere (suc n) h = go (eqb (bit_at s (p + n)) 1) refl (last_nowhere n) h
    where
      go : (b : Bool) → eqb (bit_at s (p + n)) 1 ≡ b → (last_one s p n ≡ none → NoOne s p n) → cond b (some (p + n)) (last_one s p n) ≡ none
          → NoOne s p (suc n)
      go false e ih k = no_more n (ih k) (eqb-false (bit_at s (p + n)) 1 e)
      go true e ih k = cc

  pub last_where : (n q : ℕ) → last_one s p n ≡ some q → IsLast s p n q
  unfolding last_one
  last_where zero q h = cc
  last_where (suc n) q h = go (eqb (bit_at s (p + n)) 1) refl (last_where n q) h
    where
      go : (b : Bool) → eqb (bit_at s (p + n)) 1 ≡ b → (last_one s p n ≡ some q → IsLast s p n q) → cond b (some (p + n)) (last_one s p n) ≡ some q
          → IsLast s p (suc n) q
      go true e ih k =
          let at : p + n ≡ q = cc in
          record {
            from = omega arith;
            within = omega arith;
            one = ap (bit_at s) (sym at) ∙ eqb-true (bit_at s (p + n)) 1 e;
            zeros = λ i a b. absurd (let z : ⊥ = omega arith in z);
          }
      go false e ih k =
          let r = ih k in
          let w = r.within in
          let ne = eqb-false (bit_at s (p + n)) 1 e in
          record {
            from = r.from;
            within = omega arith;
            one = r.one;
            zeros = λ i a b. dite (dec_lt i (p + n)) (r.zeros i a) (λ l.
                let at : i ≡ p + n = omega arith in
                ap (bit_at s) at ∙ omega (arith, bit_lt s (p + n)));
          }

  -- what is the last one is found
  pub last_there : (n q : ℕ) → IsLast s p n q → last_one s p n ≡ some q
  last_there n q h = go (last_one s p n) refl
    where
      go : (o : Option ℕ) → last_one s p n ≡ o → last_one s p n ≡ some q
      go none f = absurd (let z = last_nowhere n f q h.from h.within in let y = h.one in omega arith)
      go (some k) f =
          let r = last_where n k f in
          let one = h.one in
          let one' = r.one in
          let low : q < k → ⊥ = λ l. let z = h.zeros k l r.within in omega arith in
          let high : k < q → ⊥ = λ l. let z = r.zeros q l h.within in omega arith in
          let e : k ≡ q = omega arith in
          f ∙ ap {B = Option ℕ} some e

  pub last_absent : (n : ℕ) → NoOne s p n → last_one s p n ≡ none
  last_absent n h = go (last_one s p n) refl
    where
      go : (o : Option ℕ) → last_one s p n ≡ o → last_one s p n ≡ none
      go none f = f
      go (some k) f = let r = last_where n k f in absurd (let z = h k r.from r.within in let y = r.one in omega arith)

  -- ---- the first one, by values: zeros make 0, and zeros and a one make 1

  zeros_value : (n : ℕ) → NoOne s p n → value_at s p n ≡ 0
  zeros_value zero h = value_zero s p
  zeros_value (suc n) h =
      value_suc s p n ∙ omega (arith, zeros_value n (λ i a b. h i a (omega arith)), h (p + n) (omega arith) (omega arith))

  pub none_first : (n : ℕ) → first_one s p n ≡ none → value_at s p n ≡ 0
  none_first n h = zeros_value n (first_nowhere n h)

  pub first_some : (n q : ℕ) → first_one s p n ≡ some q → (z : ℕ) × (q ≡ p + z) × (z < n) × (value_at s p (suc z) ≡ 1)
  first_some n q h =
      let f = first_where n q h in
      let z = q - p in
      let from = f.from in
      let within = f.within in
      let at : q ≡ p + z = omega arith in (
        z,
        at,
        omega arith,
        value_suc s p z ∙ omega (arith, zeros_value z (λ i a b. f.zeros i a (omega arith)), ap (bit_at s) (sym at) ∙ f.one),
      )
