-- A row of fields, read into a list from its front.
use Rattle.std.specs.Prelude.{Result, Ok, Err}
use mathlib.Core.Path.{◌≡◌, refl, sym, ap, subst, ◌∙◌}
use mathlib.Core.List.{List, [], ◌∷◌, ◌++◌, append_assoc, append-nil}
use Prim.Native.Nat.{ℕ, zero, suc, ◌+◌, ◌-◌, ◌≤◌, ◌<◌}
use native.Mathlib.Omega.{arith}
use native.Mathlib.Numerals.{add-one}
use lib.ListN.{length, take, set, length-set}
use lib.Seq.{take-suc-set}
use Rattle.std.proofs.lemmas.List.{take_all}
use Rattle.desk.specs.Refusing.{refusal_number}
use Rattle.desk.specs.declared.refusal.Refusal.{Refusal}
use Rattle.bits.specs.Reading.{Ans, got, no, and_then, answer}
use Rattle.pps.specs.declared.fields.FieldReader.{FieldReader}
use Rattle.pps.specs.Rule.{row}
use Rattle.pps.specs.Step.{ReadsField, before, RowSo}
use Rattle.pps.proofs.Back.{field_is}

before_more : {A : Type 0} (l : List A) (a : A) (x : Ans (List A)) → before l (and_then x (λ rest r. got (a ∷ rest) r)) ≡ before (l ++ (a ∷ [])) x
before_more l a (got vs q) = ap (λ (xs : List _). got xs q) (sym (append_assoc l (a ∷ []) vs))
before_more l a (no k) = refl

module _ {A : Type 0} (field : List ℕ → ℕ → Ans A) (from : FieldReader) (count : ℕ) where
  abbrev s : List ℕ
  s = from.s.now

  abbrev whole : Ans (List A)
  whole = row field count s from.at.at.0

  step : (i p : ℕ) → i < count
      → row field (count - i) s p ≡ and_then (field s p) (λ a q. and_then (row field (count - (i + 1)) s q) (λ rest r. got (a ∷ rest) r))
  unfolding row
  step i p h = let e : count - i ≡ suc (count - (i + 1)) = omega arith in rw e

  module _ (i : ℕ) (xs : List A) (at : FieldReader) (so : RowSo field from count i xs at) where
    -- what the next field answers
    next_is : {after : FieldReader} {r x : Result A Refusal} → ReadsField at after r (field at.s.now at.at.at.0) → r ≡ x
        → field s at.at.at.0 ≡ answer x after.at
    next_is {after} {r} {x} h e = subst (λ (t : List ℕ). field t at.at.at.0 ≡ answer x after.at) so.same (field_is h e)

    pub row_more : {after : FieldReader} {r : Result A Refusal} {a : A} → i < count → ReadsField at after r (field at.s.now at.at.at.0) → r ≡ Ok a
        → RowSo field from count (i + 1) (set xs i a) after
    row_more {after} {r} {a} h read is =
        let hr : i < length xs = omega (arith, so.long) in
        let q : ℕ = after.at.at.0 in
        let one : row field (count - i) s at.at.at.0 ≡ and_then (row field (count - (i + 1)) s q) (λ rest r. got (a ∷ rest) r) =
        rw (step i at.at.at.0 h) (simp (next_is read is)) in
        record {
          same = read.same ∙ so.same;
          within = omega arith;
          long = simp length-set so.long;
          left = so.left ∙ ap (before (take i xs)) one ∙ before_more (take i xs) a (row field (count - (i + 1)) s q)
              ∙ ap (λ (l : List A). before l (row field (count - (i + 1)) s q))
              (sym (ap (λ (n : ℕ). take n (set xs i a)) (add-one i) ∙ take-suc-set xs i a hr));
        }

    pub row_stops : {after : FieldReader} {r : Result A Refusal} {e : Refusal} → i < count → ReadsField at after r (field at.s.now at.at.at.0)
        → r ≡ Err e → whole ≡ no (refusal_number e)
    row_stops {after} {r} {e} h read is =
        let one : row field (count - i) s at.at.at.0 ≡ no (refusal_number e) = rw (step i at.at.at.0 h) (simp (next_is read is)) in
        so.left ∙ ap (before (take i xs)) one

    -- at the end
    pub row_read : count ≤ i → whole ≡ got xs at.at.at.0
    unfolding row
    row_read h =
        let e : count - i ≡ 0 = omega arith in
        so.left ∙ rw (e, append-nil) (ap (λ (l : List A). got l at.at.at.0) (take_all i xs (omega (arith, so.long))))

-- a row that is read has as many fields as it was to have
pub row_length : {A : Type 0} (field : List ℕ → ℕ → Ans A) (count : ℕ) (s : List ℕ) (p : ℕ) (vs : List A) (q : ℕ) → row field count s p ≡ got vs q
    → length vs ≡ count
unfolding row
row_length field zero s p vs q e = let f : vs ≡ [] = cc in rw f
row_length {A} field (suc count) s p vs q e = go (field s p) e (row_length field count s)
  where
    more : (a : A) (r : ℕ) (y : Ans (List A)) → row field count s r ≡ y → and_then y (λ rest q. got (a ∷ rest) q) ≡ got vs q
        → ((p : ℕ) (vs : List A) (q : ℕ) → row field count s p ≡ got vs q → length vs ≡ count) → length vs ≡ suc count
    more a r (got rest q') f h ih = let g : vs ≡ a ∷ rest = cc in rw g (ap suc (ih r rest q' f))
    more a r (no k) f h ih = absurd (let z : ◌≡◌ {A = ℕ} 0 1 = cc in omega arith)

    go : (x : Ans A) → and_then x (λ a r. and_then (row field count s r) (λ rest q. got (a ∷ rest) q)) ≡ got vs q
        → ((p : ℕ) (vs : List A) (q : ℕ) → row field count s p ≡ got vs q → length vs ≡ count) → length vs ≡ suc count
    go (got a r) h ih = more a r (row field count s r) refl h ih
    go (no k) h ih = absurd (let z : ◌≡◌ {A = ℕ} 0 1 = cc in omega arith)
