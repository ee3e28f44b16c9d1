-- The entry checks, by what they test.
use Rattle.std.specs.Prelude.{Result, Ok, Err}
use mathlib.Core.Path.{◌≡◌, refl, sym, ap, ◌∙◌}
use mathlib.Core.Bool.{Bool, true, false, cond, ◌||◌}
use mathlib.Core.List.{List, [], ◌∷◌}
use Prim.Native.Nat.{ℕ, zero, suc, ◌≤◌, ◌<◌}
use native.Mathlib.Omega.{arith}
use borrow.Author.Tests.{ltb-false, eqb-false}
use lib.Dec.{ltb, eqb, lit≤}
use lib.ListN.{length}
use Rattle.desk.specs.Numbers.{most, any_over, entry_of, bad_geometry, done}
use Rattle.desk.specs.Refusing.{refusal_number, answered}
use Rattle.desk.specs.declared.refusal.Refusal.{Refusal}
use Rattle.desk.proofs.Entering.{entry_passed, entry_done, entry_long, entry_bad}
use Rattle.desk.proofs.Refusing.{number_some}
use Rattle.bits.specs.Reading.{Ans, no, unless, past_end, Entered, size as bits_in}
use Rattle.bits.proofs.Refusing.{not_past, is_past}
use Rattle.bits.proofs.Entry.{enters, neither, refused}
use Rattle.pps.specs.Rule.{most_units, bad_picture, bad_group_count}
use Rattle.pps.specs.Answer.{first_of, entry_for}

first_nonzero : (a b : ℕ) → (a ≡ 0 → ⊥) → first_of a b ≡ a
first_nonzero zero b h = absurd (h refl)
first_nonzero (suc a) b h = refl

-- 11, by the first of two tests that answer it, or else by the second
by_first : (a b : Bool) (w : Refusal) → refusal_number w ≡ cond a bad_geometry done → cond (a || b) bad_geometry done ≡ refusal_number w
by_first true b w q = sym q
by_first false b w q = absurd (let n = number_some w in let z : ⊥ = omega arith in z)

by_second : (a b : Bool) (k : ℕ) → done ≡ cond a bad_geometry done → k ≡ cond b bad_geometry done → cond (a || b) bad_geometry done ≡ k
by_second true b k z q = absurd (let y : ⊥ = omega arith in y)
by_second false b k z q = sym q

-- what a call makes of them: its first checks answer r, then its picture is tested, and then its count of groups
module _ (s : List ℕ) (p room width size : ℕ) (bad_count : Bool) {past : Bool} (is : past ≡ past_end s p) {r : Result Unit Refusal}
    (e : answered r ≡ entry_of (length s ∷ room ∷ 0 ∷ []) past) where
  -- 1 and 2 come first
  pub entry_first : {w : Refusal} → r ≡ Err w → entry_for s p room width size bad_count ≡ refusal_number w
  unfolding entry_for
  entry_first {w} h =
      let k : refusal_number w ≡ entry_of (length s ∷ room ∷ 0 ∷ []) past = ap answered (sym h) ∙ e in
      let n = number_some w in
      rw (← is, ← k) (first_nonzero (refusal_number w) _ (λ z. omega arith))

  module _ {u : Unit} (h : r ≡ Ok u) where
    -- and then 11
    entry_then : entry_for s p room width size bad_count ≡ cond (bad_picture width size || bad_count) bad_geometry done
    unfolding entry_for
    entry_then = let k : done ≡ entry_of (length s ∷ room ∷ 0 ∷ []) past = ap answered (sym h) ∙ e in rw (← is, ← k)

    pub entry_picture : (w : Refusal) → refusal_number w ≡ cond (bad_picture width size) bad_geometry done
        → entry_for s p room width size bad_count ≡ refusal_number w
    entry_picture w q = entry_then ∙ by_first (bad_picture width size) bad_count w q

    pub entry_count : {k : ℕ} → done ≡ cond (bad_picture width size) bad_geometry done → k ≡ cond bad_count bad_geometry done
        → entry_for s p room width size bad_count ≡ k
    entry_count {k} z q = entry_then ∙ by_second (bad_picture width size) bad_count k z q

-- a refusal by them is the answer
pub refused_at : {A : Type 0} (w : Refusal) {k : ℕ} → k ≡ refusal_number w → (x : Ans A) → unless no k x ≡ no (refusal_number w)
refused_at w {k} e x = let n = number_some w in sym (refused no (refusal_number w) k (sym e) x (λ z. omega arith))

-- ---- what passes them

first_zero : (a b : ℕ) → first_of a b ≡ 0 → (a ≡ 0) × (b ≡ 0)
first_zero zero b e = (refl, e)
first_zero (suc a) b e = absurd (let z : ⊥ = omega arith in z)

not_bad : (b : Bool) → ◌≡◌ {A = ℕ} (cond b 11 0) 0 → b ≡ false
not_bad true e = absurd (let z : ⊥ = omega arith in z)
not_bad false e = refl

-- a call that passes has bytes and ids within the limit, a place within the bytes, and a picture
pub record PassedEntry (s : List ℕ) (p room width size : ℕ) (bad_count : Bool) : Type 0 where
  pub entered : Entered s p
  pub ids : room ≤ most
  pub picture : bad_picture width size ≡ false
  pub wide : 0 < width
  pub some : 0 < size
  pub limit : size ≤ most_units
  pub count : bad_count ≡ false

pub passed : (s : List ℕ) (p room width size : ℕ) (bad_count : Bool) → entry_for s p room width size bad_count ≡ 0
    → PassedEntry s p room width size bad_count
unfolding entry_for bad_picture
passed s p room width size bad_count e =
    let both = first_zero (entry_of (length s ∷ room ∷ 0 ∷ []) (past_end s p)) (cond (bad_picture width size || bad_count) bad_geometry done) e in
    let few = entry_passed (length s ∷ room ∷ 0 ∷ []) (past_end s p) both.0 in
    let good = neither (bad_picture width size) bad_count (not_bad (bad_picture width size || bad_count) both.1) in
    let w = neither (eqb width 0) _ good.0 in
    let z = neither (eqb size 0) _ w.1 in
    let m = neither (ltb most_units size) _ z.1 in
    let nw = eqb-false width 0 w.0 in
    let nz = eqb-false size 0 z.0 in
    record {
      entered = record { small = few.0.0; within = not_past s p few.1 };
      ids = few.0.1.0;
      picture = good.0;
      wide = omega arith;
      some = omega arith;
      limit = ltb-false most_units size m.0;
      count = good.1;
    }

-- 1 to 7 groups beside the first
pub groups_few : (n : ℕ) → bad_group_count n ≡ false → (1 ≤ n) × (n ≤ 7)
unfolding bad_group_count
groups_few n e = let b = neither (ltb n 1) (ltb 7 n) e in (ltb-false n 1 b.0, ltb-false 7 n b.1)

-- ---- each number, given exactly where document 01 says

module _ (s : List ℕ) (p room width size : ℕ) (bad_count : Bool) where
  pub entry_passes : Entered s p → room ≤ most → bad_picture width size ≡ false → bad_count ≡ false → entry_for s p room width size bad_count ≡ 0
  unfolding entry_for
  entry_passes g r b c =
      let here = entry_passed (length s ∷ 0 ∷ 0 ∷ []) (past_end s p) (enters s p g) in
      rw (entry_done (length s ∷ room ∷ 0 ∷ []) (past_end s p) (g.small, (r, (lit≤ tt, tt))) here.1, b, c)

  -- 1: the bytes, or the id buffer
  pub entry_1 : any_over (length s ∷ room ∷ 0 ∷ []) ≡ true → entry_for s p room width size bad_count ≡ 1
  unfolding entry_for
  entry_1 h = rw (entry_long (length s ∷ room ∷ 0 ∷ []) (past_end s p) h)

  -- 2
  pub entry_2 : length s ≤ most → room ≤ most → bits_in s < p → entry_for s p room width size bad_count ≡ 2
  unfolding entry_for
  entry_2 a b h = rw (entry_bad (length s ∷ room ∷ 0 ∷ []) (past_end s p) (a, (b, (lit≤ tt, tt))) (is_past s p h))

  -- 11: the picture, or the count of groups
  pub entry_11 : Entered s p → room ≤ most → (bad_picture width size || bad_count) ≡ true → entry_for s p room width size bad_count ≡ 11
  unfolding entry_for
  entry_11 g r b =
      let here = entry_passed (length s ∷ 0 ∷ 0 ∷ []) (past_end s p) (enters s p g) in
      rw (entry_done (length s ∷ room ∷ 0 ∷ []) (past_end s p) (g.small, (r, (lit≤ tt, tt))) here.1, b)
