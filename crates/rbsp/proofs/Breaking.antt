-- What shall not occur (Rec 7.4.1): the first break is the first, both directions; one byte more; and the reader forbids exactly the byte that
-- completes it.
use Prim.Native.Nat.{ℕ, zero, suc, ◌+◌, ◌<◌}
use native.Mathlib.Nat.{not-suc-le-zero, le_of_suc-le-suc}
use native.Mathlib.Omega.{arith}
use mathlib.Core.Path.{◌≡◌, refl, ap, sym, ◌∙◌}
use mathlib.Core.Bool.{Bool, true, false, cond, not, ◌&&◌}
use mathlib.Core.List.{List, [], ◌∷◌, ◌++◌}
use mathlib.Core.Logic.{◌⊎◌, inl, inr}
use mathlib.Core.Option.{Option, none, some, some-injective}
use lib.ListN.{length, drop}
use lib.Seq.{drop-nil}
use Rattle.desk.specs.Push.{Out}
use Rattle.desk.specs.Search.{up_to2, up_to3, stands, further, trail}
use Rattle.desk.specs.Zeros.{two}
use Rattle.rbsp.specs.Rule.{Legal, bad_four, first_break, ends_three}
use Rattle.rbsp.specs.Step.{read_step, reader_after}
use Rattle.rbsp.specs.declared.reader.ParseState.{ParseState}
use Rattle.rbsp.specs.declared.reader.ParseState.TheVariants.{Start, PostThree}

-- ---- the first break is the first

-- no window at the front of s breaks
record Unbroken (s : List ℕ) : Type 0 where
  three : stands up_to2 s ≡ false
  four : bad_four s ≡ false

broken : (a b : Bool) (r : Option ℕ) → cond a (some 2) (cond b (some 3) (further r)) ≡ none → (a ≡ false) × (b ≡ false) × (r ≡ none)
broken true b r e = cc
broken false true r e = cc
broken false false none e = (refl, refl, refl)
broken false false (some i) e = cc

break_tail : (x : ℕ) (s : List ℕ) → first_break (x ∷ s) ≡ none → Unbroken (x ∷ s) × (first_break s ≡ none)
break_tail x s e = let q = broken (stands up_to2 (x ∷ s)) (bad_four (x ∷ s)) (first_break s) e in (record { three = q.0; four = q.1 }, q.2)

pub none_legal : (s : List ℕ) → first_break s ≡ none → Legal s
none_legal s e = record { no_three = λ i. (at s i e).three; no_four = λ i. (at s i e).four }
  where
    at : (s : List ℕ) (i : ℕ) → first_break s ≡ none → Unbroken (drop i s)
    at [] zero e = record { three = refl; four = refl }
    at [] (suc i) e = record { three = refl; four = refl }
    at (x ∷ s) zero e = (break_tail x s e).0
    at (x ∷ s) (suc i) e = at s i (break_tail x s e).1

pub legal_none : (s : List ℕ) → Legal s → first_break s ≡ none
legal_none [] l = refl
legal_none (x ∷ s) l =
    let i = legal_none s (record { no_three = λ i. l.no_three (suc i); no_four = λ i. l.no_four (suc i) }) in
    rw (l.no_three 0, l.no_four 0, i)

-- the window at place i of s breaks, and k is the place of its last byte
pub record Breaks (s : List ℕ) (k : ℕ) : Type 0 where
  pub place : ℕ
  pub window : ((stands up_to2 (drop place s) ≡ true) × (k ≡ place + 2)) ⊎ ((bad_four (drop place s) ≡ true) × (k ≡ place + 3))
  pub no_three : (j : ℕ) → j < place → stands up_to2 (drop j s) ≡ false
  pub no_four : (j : ℕ) → j < place → bad_four (drop j s) ≡ false

-- THE INDEX IS THAT OF THE LAST BYTE OF THE FIRST WINDOW THAT BREAKS
pub first_break_is : (s : List ℕ) (k : ℕ) → first_break s ≡ some k → Breaks s k
first_break_is [] k e = cc
first_break_is (x ∷ s) k e = go (stands up_to2 (x ∷ s)) refl (bad_four (x ∷ s)) refl (first_break s) refl (λ j q. first_break_is s j q) e
  where
    go : (a : Bool) → stands up_to2 (x ∷ s) ≡ a → (b : Bool) → bad_four (x ∷ s) ≡ b → (r : Option ℕ) → first_break s ≡ r
        → ((j : ℕ) → first_break s ≡ some j → Breaks s j)
        → cond a (some 2) (cond b (some 3) (further r)) ≡ some k → Breaks (x ∷ s) k
    go true ea b eb r er ih e =
        record {
          place = 0;
          window = inl (ea, sym (some-injective 2 k e));
          no_three = λ j h. absurd (not-suc-le-zero h);
          no_four = λ j h. absurd (not-suc-le-zero h);
        }
    go false ea true eb r er ih e =
        record {
          place = 0;
          window = inr (eb, sym (some-injective 3 k e));
          no_three = λ j h. absurd (not-suc-le-zero h);
          no_four = λ j h. absurd (not-suc-le-zero h);
        }
    go false ea false eb none er ih e = cc
    go false ea false eb (some j) er ih e =
        let i = ih j er in
        let q : suc j ≡ k = some-injective (suc j) k e in
        record {
          place = suc i.place;
          window = moved j i.place q i.window;
          no_three =
              λ n. elim n as (λ n. n < suc i.place → stands up_to2 (drop n (x ∷ s)) ≡ false) [
                | zero ↦ λ _. ea
                | suc n ↦ λ h. i.no_three n
                    (le_of_suc-le-suc h)
              ];
          no_four =
              λ n. elim n as (λ n. n < suc i.place → bad_four (drop n (x ∷ s)) ≡ false) [
                | zero ↦ λ _. eb
                | suc n ↦ λ h. i.no_four n
                    (le_of_suc-le-suc h)
              ];
        }
      where
        moved : (j p : ℕ) → suc j ≡ k → ((stands up_to2 (drop p s) ≡ true) × (j ≡ p + 2)) ⊎ ((bad_four (drop p s) ≡ true) × (j ≡ p + 3))
            → ((stands up_to2 (drop p s) ≡ true) × (k ≡ suc p + 2)) ⊎ ((bad_four (drop p s) ≡ true) × (k ≡ suc p + 3))
        moved j p q (inl w) = let n = w.1 in inl (w.0, omega arith)
        moved j p q (inr w) = let n = w.1 in inr (w.0, omega arith)

-- ---- one byte more

-- a break stays when more follows
pub break_stays : (s t : List ℕ) (k : ℕ) → first_break s ≡ some k → first_break (s ++ t) ≡ some k
break_stays [] t k e = cc
break_stays (x ∷ []) t k e = cc
break_stays (x ∷ y ∷ []) t k e = cc
break_stays (x ∷ y ∷ z ∷ []) t k e = go (stands up_to2 (x ∷ y ∷ z ∷ [])) refl e
  where
    go : (a : Bool) → stands up_to2 (x ∷ y ∷ z ∷ []) ≡ a → cond a (some 2) none ≡ some k → first_break (x ∷ y ∷ z ∷ t) ≡ some k
    go true ea e = rw ea e
    go false ea e = cc
break_stays (x ∷ y ∷ z ∷ w ∷ s) t k e =
    go (stands up_to2 (x ∷ y ∷ z ∷ w ∷ s)) refl (bad_four (x ∷ y ∷ z ∷ w ∷ s)) refl (first_break (y ∷ z ∷ w ∷ s)) refl
    (λ j q. break_stays (y ∷ z ∷ w ∷ s) t j q) e
  where
    go : (a : Bool) → stands up_to2 (x ∷ y ∷ z ∷ w ∷ s) ≡ a → (b : Bool) → bad_four (x ∷ y ∷ z ∷ w ∷ s) ≡ b → (r : Option ℕ)
        → first_break (y ∷ z ∷ w ∷ s) ≡ r
        → ((j : ℕ) → first_break (y ∷ z ∷ w ∷ s) ≡ some j → first_break (y ∷ z ∷ w ∷ s ++ t) ≡ some j)
        → cond a (some 2) (cond b (some 3) (further r)) ≡ some k → first_break (x ∷ y ∷ z ∷ w ∷ s ++ t) ≡ some k
    go true ea b eb r er ih e = rw ea e
    go false ea true eb r er ih e = rw (ea, eb) e
    go false ea false eb none er ih e = cc
    go false ea false eb (some j) er ih e = rw (ea, eb, ih j er) e

-- the byte b is forbidden behind the bytes h, none of whose windows breaks
abbrev pub forbids : List ℕ → ℕ → Bool
forbids h b = cond (ends_three h) (not (up_to3 b)) (two (trail h) && up_to2 b)

abbrev broken_by : Bool → ℕ → Option ℕ
broken_by c n = cond c (some n) none

further_broken : (c : Bool) (n : ℕ) → further (broken_by c n) ≡ broken_by c (suc n)
further_broken true n = refl
further_broken false n = refl

-- behind 00 00 03, and behind three other bytes
break_three : (x y z b : ℕ) → stands up_to2 (x ∷ y ∷ z ∷ []) ≡ false → first_break (x ∷ y ∷ z ∷ b ∷ []) ≡ broken_by (forbids (x ∷ y ∷ z ∷ []) b) 3
break_three zero zero zero b e = cc
break_three zero zero (suc zero) b e = cc
break_three zero zero (suc (suc zero)) b e = cc
break_three zero zero (suc (suc (suc zero))) b e = refl
break_three zero zero (suc (suc (suc (suc z)))) b e = refl
break_three zero (suc y) zero b e = refl
break_three zero (suc y) (suc z) b e = refl
break_three (suc x) zero zero b e = further_broken (up_to2 b) 2
break_three (suc x) zero (suc z) b e = refl
break_three (suc x) (suc y) zero b e = refl
break_three (suc x) (suc y) (suc z) b e = refl

pub break_more : (h : List ℕ) (b : ℕ) → first_break h ≡ none → first_break (h ++ b ∷ []) ≡ broken_by (forbids h b) (length h)
break_more [] b e = refl
break_more (zero ∷ []) b e = refl
break_more (suc x ∷ []) b e = refl
break_more (zero ∷ zero ∷ []) b e = refl
break_more (zero ∷ suc y ∷ []) b e = refl
break_more (suc x ∷ zero ∷ []) b e = refl
break_more (suc x ∷ suc y ∷ []) b e = refl
break_more (x ∷ y ∷ z ∷ []) b e = break_three x y z b (break_tail x (y ∷ z ∷ []) e).0.three
break_more (x ∷ y ∷ z ∷ w ∷ s) b e =
    let q = break_tail x (y ∷ z ∷ w ∷ s) e in
    rw (q.0.three, q.0.four, break_more (y ∷ z ∷ w ∷ s) b q.1) (further_broken (forbids (y ∷ z ∷ w ∷ s) b) (length (y ∷ z ∷ w ∷ s)))

-- ---- the reader forbids exactly that

-- whether a byte is forbidden in a state
abbrev refused : Option (Out ParseState) → Bool
refused none = true
refused (some o) = false

refused_is : (e : Bool) (z b : ℕ) → refused (read_step (cond e PostThree (Start z)) b) ≡ cond e (not (up_to3 b)) (two z && up_to2 b)
refused_is true z zero = refl
refused_is true z (suc zero) = refl
refused_is true z (suc (suc zero)) = refl
refused_is true z (suc (suc (suc zero))) = refl
refused_is true z (suc (suc (suc (suc b)))) = refl
refused_is false zero b = refl
refused_is false (suc zero) b = refl
refused_is false (suc (suc z)) zero = refl
refused_is false (suc (suc z)) (suc zero) = refl
refused_is false (suc (suc z)) (suc (suc zero)) = refl
refused_is false (suc (suc z)) (suc (suc (suc zero))) = refl
refused_is false (suc (suc z)) (suc (suc (suc (suc b)))) = refl

pub next_forbids : (h : List ℕ) (b : ℕ) (r : Option (Out ParseState)) → read_step (reader_after 0 h) b ≡ r → forbids h b ≡ refused r
next_forbids h b r e = sym (refused_is (ends_three h) (trail h) b) ∙ ap refused e

-- a byte that is taken breaks nothing, with the first k bytes dropped unexamined
pub taken_unbroken : (k : ℕ) (h : List ℕ) (b : ℕ) (o : Out ParseState) → first_break (drop k h) ≡ none → read_step (reader_after k h) b ≡ some o
    → first_break (drop k (h ++ b ∷ [])) ≡ none
taken_unbroken zero h b o n e = break_more h b n ∙ ap (λ (c : Bool). broken_by c (length h)) (next_forbids h b (some o) e)
taken_unbroken (suc k) [] b o n e = ap first_break (drop-nil k)
taken_unbroken (suc k) (x ∷ h) b o n e = taken_unbroken k h b o n e

-- a forbidden byte completes the first break
pub record CompletesBreak (k : ℕ) (h : List ℕ) (b : ℕ) : Type 0 where
  pub place : ℕ
  pub place_is : length h ≡ k + place
  pub breaks : first_break (drop k (h ++ b ∷ [])) ≡ some place

pub forbidden_breaks : (k : ℕ) (h : List ℕ) (b : ℕ) → first_break (drop k h) ≡ none → read_step (reader_after k h) b ≡ none → CompletesBreak k h b
forbidden_breaks zero h b n e =
    record {
      place = length h;
      place_is = omega arith;
      breaks = break_more h b n ∙ ap (λ (c : Bool). broken_by c (length h)) (next_forbids h b none e);
    }
forbidden_breaks (suc k) [] b n e = cc
forbidden_breaks (suc k) (x ∷ h) b n e =
    let i = forbidden_breaks k h b n e in let q = i.place_is in record { place = i.place; place_is = omega arith; breaks = i.breaks }
