-- Reading: the rule by places is the syntax table of Rec 7.3.1; one byte more; and the reader's step gives the rule.
use Prim.Native.Nat.{ℕ, zero, suc, ◌≤◌}
use native.Mathlib.Nat.{not-suc-le-zero}
use native.Mathlib.Omega.{arith}
use mathlib.Core.Path.{◌≡◌, refl, ap, ap₂, sym, ◌∙◌}
use mathlib.Core.Bool.{Bool, true, false, cond, ◌&&◌}
use mathlib.Core.List.{List, [], ◌∷◌, ◌++◌, append-nil}
use mathlib.Core.Option.{Option, none, some, some-injective}
use lib.ListN.{length, take, drop}
use lib.Seq.{drop-nil}
use Rattle.desk.specs.Push.{Out, seen, seen_after, Follows}
use Rattle.desk.specs.Search.{is0, is3, stands, further, first, trail}
use Rattle.desk.specs.Zeros.{two, zeros_after}
use Rattle.desk.proofs.Choice.{ap_cond, and_right}
use Rattle.desk.proofs.Lists.{trail_past}
use Rattle.desk.proofs.Search.{trail_more, stays}
use Rattle.rbsp.specs.Rule.{Unescapes, unescape, unescape_at, unescape_by, ends_three}
use Rattle.rbsp.specs.Step.{takes, skipping, read_step, reader_after, reads}
use Rattle.rbsp.specs.declared.reader.ParseState.{ParseState}
use Rattle.rbsp.specs.declared.reader.ParseState.TheVariants.{Start, PostThree}

-- the syntax table: 00 00 03 gives 00 00, and any other byte itself
abbrev pub table : List ℕ → List ℕ
table [] = []
table (x ∷ []) = x ∷ []
table (x ∷ y ∷ []) = x ∷ y ∷ []
table (x ∷ y ∷ z ∷ s) = cond (stands is3 (x ∷ y ∷ z ∷ s)) (0 ∷ 0 ∷ table s) (x ∷ table (y ∷ z ∷ s))

at_next : (x : ℕ) (l : List ℕ) (go : List ℕ → List ℕ) (r : Option ℕ) → unescape_at (x ∷ l) go (further r) ≡ x ∷ unescape_at l go r
at_next x l go none = refl
at_next x l go (some i) = refl

by_table : (n : ℕ) (s : List ℕ) → length s ≤ n → unescape_by n s ≡ table s
by_table zero [] h = refl
by_table zero (x ∷ s) h = absurd (not-suc-le-zero h)
by_table (suc n) [] h = refl
by_table (suc n) (x ∷ []) h = refl
by_table (suc n) (x ∷ y ∷ []) h = refl
by_table (suc n) (x ∷ y ∷ z ∷ s) h = go (stands is3 (x ∷ y ∷ z ∷ s)) refl (by_table n s (omega arith)) (by_table (suc n) (y ∷ z ∷ s) (omega arith))
  where
    go : (c : Bool) → stands is3 (x ∷ y ∷ z ∷ s) ≡ c → unescape_by n s ≡ table s → unescape_by (suc n) (y ∷ z ∷ s) ≡ table (y ∷ z ∷ s)
        → unescape_by (suc n) (x ∷ y ∷ z ∷ s) ≡ table (x ∷ y ∷ z ∷ s)
    go true e i j = rw e (ap {B = List ℕ} (λ l. 0 ∷ 0 ∷ l) i)
    go false e i j = rw e (at_next x (y ∷ z ∷ s) (unescape_by n) (first is3 (y ∷ z ∷ s)) ∙ ap {B = List ℕ} (λ l. x ∷ l) j)

pub unescape_table : (s : List ℕ) → unescape s ≡ table s
unfolding unescape
unescape_table s = by_table (length s) s (omega arith)

-- THE RULE, AS ITS SENTENCES HAVE IT, with no bound on the searches
pub unescape_none : (s : List ℕ) → first is3 s ≡ none → unescape s ≡ s
unfolding unescape
unescape_none [] e = refl
unescape_none (x ∷ s) e = ap (unescape_at (x ∷ s) (unescape_by (length s))) e

pub unescape_some : (s : List ℕ) (i : ℕ) → first is3 s ≡ some i → unescape s ≡ take i s ++ 0 ∷ 0 ∷ unescape (drop 3 (drop i s))
unfolding unescape
unescape_some [] i e = cc
unescape_some (x ∷ s) i e =
    let q = stays is3 (x ∷ s) [] i e in
    let t = drop 3 (drop i (x ∷ s)) in
    ap (unescape_at (x ∷ s) (unescape_by (length s))) e
    ∙ ap (λ (l : List ℕ). take i (x ∷ s) ++ 0 ∷ 0 ∷ l) (by_table (length s) t (omega (arith, q.shorter)) ∙ sym (by_table (length t) t (omega arith)))

-- `unescape s` IS WHAT THE TWO SENTENCES SAY OF s, and nothing else is
pub unescapes_one : {s t : List ℕ} → Unescapes s t → t ≡ unescape s
unescapes_one {s} (Unescapes.nowhere e) = sym (unescape_none s e)
unescapes_one {s} (Unescapes.at_place {i = i} e d) = ap (λ (l : List ℕ). take i s ++ 0 ∷ 0 ∷ l) (unescapes_one d) ∙ sym (unescape_some s i e)

pub unescape_is : (s : List ℕ) → Unescapes s (unescape s)
unfolding unescape
unescape_is s = by_places (length s) s (omega arith)
  where
    by_places : (n : ℕ) (s : List ℕ) → length s ≤ n → Unescapes s (unescape_by n s)
    by_places zero [] h = Unescapes.nowhere refl
    by_places zero (x ∷ s) h = absurd (not-suc-le-zero h)
    by_places (suc n) s h = go (first is3 s) refl (λ l k. by_places n l k)
      where
        go : (r : Option ℕ) → first is3 s ≡ r → ((l : List ℕ) → length l ≤ n → Unescapes l (unescape_by n l))
            → Unescapes s (unescape_at s (unescape_by n) r)
        go none e ih = Unescapes.nowhere e
        go (some i) e ih = let q = stays is3 s [] i e in Unescapes.at_place e (ih (drop 3 (drop i s)) (omega (arith, q.shorter)))

-- what is removed, by the zeros before it
abbrev pub kept : ℕ → ℕ → List ℕ
kept z b = cond (two z && is3 b) [] (b ∷ [])

is3_not_0 : (z : ℕ) → is3 z ≡ true → is0 z ≡ false
is3_not_0 zero e = cc
is3_not_0 (suc z) e = refl

table_more : (h : List ℕ) (b : ℕ) → table (h ++ b ∷ []) ≡ table h ++ kept (trail h) b
table_more [] b = refl
table_more (zero ∷ []) b = refl
table_more (suc x ∷ []) b = refl
table_more (zero ∷ zero ∷ []) b = sym (ap_cond (λ (l : List ℕ). 0 ∷ 0 ∷ l) (is3 b) [] (b ∷ []))
table_more (zero ∷ suc y ∷ []) b = refl
table_more (suc x ∷ zero ∷ []) b = refl
table_more (suc x ∷ suc y ∷ []) b = refl
table_more (x ∷ y ∷ z ∷ s) b = go (stands is3 (x ∷ y ∷ z ∷ s)) refl (table_more s b) (table_more (y ∷ z ∷ s) b)
  where
    go : (c : Bool) → stands is3 (x ∷ y ∷ z ∷ s) ≡ c → table (s ++ b ∷ []) ≡ table s ++ kept (trail s) b
        → table (y ∷ z ∷ s ++ b ∷ []) ≡ table (y ∷ z ∷ s) ++ kept (trail (y ∷ z ∷ s)) b
        → table (x ∷ y ∷ z ∷ s ++ b ∷ []) ≡ table (x ∷ y ∷ z ∷ s) ++ kept (trail (y ∷ z ∷ s)) b
    go true e i j =
        let t : trail s ≡ trail (y ∷ z ∷ s) =
        sym (trail_past y z s (is3_not_0 z (and_right (is0 y) (is3 z) (and_right (is0 x) (is0 y && is3 z) e)))) in
        rw e (ap {B = List ℕ} (λ l. 0 ∷ 0 ∷ l) (i ∙ ap (λ (n : ℕ). table s ++ kept n b) t))
    go false e i j = rw e (ap {B = List ℕ} (λ l. x ∷ l) j)

-- ONE BYTE MORE
pub unescape_more : (h : List ℕ) (b : ℕ) → unescape (h ++ b ∷ []) ≡ unescape h ++ kept (trail h) b
unescape_more h b = unescape_table (h ++ b ∷ []) ∙ table_more h b ∙ ap (λ (l : List ℕ). l ++ kept (trail h) b) (sym (unescape_table h))

pub ends_three_more : (h : List ℕ) (b : ℕ) → ends_three (h ++ b ∷ []) ≡ (two (trail h) && is3 b)
ends_three_more [] b = refl
ends_three_more (zero ∷ []) b = refl
ends_three_more (suc x ∷ []) b = refl
ends_three_more (zero ∷ zero ∷ []) b = refl
ends_three_more (zero ∷ suc y ∷ []) b = refl
ends_three_more (suc x ∷ zero ∷ []) b = refl
ends_three_more (suc x ∷ suc y ∷ []) b = refl
ends_three_more (x ∷ y ∷ z ∷ []) b = ends_three_more (y ∷ z ∷ []) b
ends_three_more (x ∷ y ∷ z ∷ w ∷ s) b = ends_three_more (y ∷ z ∷ w ∷ s) b

-- a removed 03 is no zero
pub ends_three_trail : (h : List ℕ) → ends_three h ≡ true → trail h ≡ 0
ends_three_trail [] e = cc
ends_three_trail (x ∷ []) e = cc
ends_three_trail (x ∷ y ∷ []) e = cc
ends_three_trail (x ∷ y ∷ z ∷ []) e = trail_past y z [] (is3_not_0 z (and_right (is0 y) (is3 z) (and_right (is0 x) (is0 y && is3 z) e)))
ends_three_trail (x ∷ y ∷ z ∷ w ∷ s) e = ends_three_trail (y ∷ z ∷ w ∷ s) e

-- ---- the step gives the rule

-- what the step does with a byte that is not forbidden, whatever the state: e behind a removed 03, z zeros
abbrev steps_to : ℕ → ℕ → Out ParseState
steps_to z b = takes (cond (two z && is3 b) PostThree (Start (zeros_after z b))) (kept z b)

step_is : (e : Bool) (z b : ℕ) (o : Out ParseState) → (e ≡ true → z ≡ 0) → read_step (cond e PostThree (Start z)) b ≡ some o → steps_to z b ≡ o
step_is true (suc z) b o h q = let n : suc z ≡ 0 = h refl in absurd (omega arith)
step_is true zero zero o h q = some-injective _ o q
step_is true zero (suc zero) o h q = some-injective _ o q
step_is true zero (suc (suc zero)) o h q = some-injective _ o q
step_is true zero (suc (suc (suc zero))) o h q = some-injective _ o q
step_is true zero (suc (suc (suc (suc b)))) o h q = cc
step_is false zero b o h q = some-injective _ o q
step_is false (suc zero) b o h q = some-injective _ o q
step_is false (suc (suc z)) zero o h q = cc
step_is false (suc (suc z)) (suc zero) o h q = cc
step_is false (suc (suc z)) (suc (suc zero)) o h q = cc
step_is false (suc (suc z)) (suc (suc (suc zero))) o h q = some-injective _ o q
step_is false (suc (suc z)) (suc (suc (suc (suc b)))) o h q = some-injective _ o q

pub reader_new : (k : ℕ) → reader_after k [] ≡ skipping k
reader_new zero = refl
reader_new (suc k) = refl

pub unescape_nil : unescape [] ≡ []
unfolding unescape
unescape_nil = refl

reads_more : (k : ℕ) (h : List ℕ) (b : ℕ) (o : Out ParseState) → read_step (reader_after k h) b ≡ some o
    → reads k (h ++ b ∷ []) ≡ seen_after (reads k h) o
reads_more zero h b o q =
    let state : reader_after 0 (h ++ b ∷ []) ≡ cond (two (trail h) && is3 b) PostThree (Start (zeros_after (trail h) b)) =
    ap₂ (λ (c : Bool) (n : ℕ). cond c PostThree (Start n)) (ends_three_more h b) (trail_more h b) in
    (λ i. seen (state i) (unescape_more h b i) []) ∙ ap (seen_after (reads 0 h)) (step_is (ends_three h) (trail h) b o (ends_three_trail h) q)
reads_more (suc k) [] b o q =
    let e : takes (skipping k) [] ≡ o = some-injective _ o q in
    (λ i. seen (reader_new k i) ((ap unescape (drop-nil k) ∙ sym (append-nil (unescape []))) i) []) ∙ ap (seen_after (reads (suc k) [])) e
reads_more (suc k) (x ∷ h) b o q = reads_more k h b o q

-- THE READER'S STEP GIVES THE RULE, with the first k bytes dropped
pub read_follows : (k : ℕ) → Follows read_step (skipping k) (reads k)
read_follows k =
    record {
      new = λ i. seen (reader_new k i) ((ap unescape (drop-nil k) ∙ unescape_nil) i) [];
      more = reads_more k;
    }
