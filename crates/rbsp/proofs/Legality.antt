-- The reader accepts exactly what is legal, with the first k bytes dropped unexamined.
use Prim.Native.Nat.{ℕ, ◌+◌, ◌≤◌}
use native.Mathlib.Nat.{le_of_lt}
use native.Mathlib.Omega.{arith}
use mathlib.Core.Path.{◌≡◌, refl, ap, sym, ◌∙◌}
use mathlib.Core.Bool.{Bool, true, false}
use mathlib.Core.List.{List, [], ◌∷◌, ◌++◌, append-nil}
use mathlib.Core.Option.{Option, none, some}
use lib.ListN.{length, drop, length-append, drop_of_length-le}
use lib.Seq.{append_snoc, drop-append-le, drop-nil}
use lib.Dec.{leb}
use borrow.Author.Tests.{leb-true, leb-false}
use Rattle.desk.specs.Push.{Out, Seen, accepts_by, accepts}
use Rattle.desk.proofs.Search.{none≢some}
use Rattle.rbsp.specs.Rule.{first_break}
use Rattle.rbsp.specs.Step.{read_step, skipping, reader_after}
use Rattle.rbsp.specs.declared.reader.ParseState.{ParseState}
use Rattle.rbsp.proofs.Breaking.{break_stays, taken_unbroken, forbidden_breaks}
use Rattle.rbsp.proofs.Unescaping.{reader_new, read_follows}

-- where a list is unbroken, so is its front
pub front_unbroken : (k : ℕ) (h t : List ℕ) → first_break (drop k (h ++ t)) ≡ none → first_break (drop k h) ≡ none
front_unbroken k h t e = go (leb k (length h)) refl
  where
    at : (r : Option ℕ) → first_break (drop k h) ≡ r → k ≤ length h → first_break (drop k h) ≡ none
    at none q l = q
    at (some j) q l = absurd (none≢some (sym e ∙ ap first_break (drop-append-le k h t l) ∙ break_stays (drop k h) t j q))

    go : (c : Bool) → leb k (length h) ≡ c → first_break (drop k h) ≡ none
    go true q = at (first_break (drop k h)) refl (leb-true k (length h) q)
    go false q = let less : length h ≤ k = le_of_lt (leb-false k (length h) q) in ap first_break (drop_of_length-le h less)

state_more : (k : ℕ) (h : List ℕ) (b : ℕ) (o : Out ParseState) → read_step (reader_after k h) b ≡ some o → reader_after k (h ++ b ∷ []) ≡ o.after
state_more k h b o q = ap (λ (v : Seen ParseState). v.state) ((read_follows k).more h b o q)

-- a forbidden byte is the last of the first window that breaks, however the list goes on
pub record Broken (k : ℕ) (h : List ℕ) (s : List ℕ) : Type 0 where
  pub place : ℕ
  pub place_is : length h ≡ k + place
  pub breaks : first_break (drop k s) ≡ some place

pub forbidden_broken : (k : ℕ) (h : List ℕ) (b : ℕ) (t : List ℕ) → first_break (drop k h) ≡ none → read_step (reader_after k h) b ≡ none
    → Broken k h (h ++ b ∷ t)
forbidden_broken k h b t n q =
    let c = forbidden_breaks k h b n q in
    let p = c.place_is in
    let long : k ≤ length (h ++ b ∷ []) = simp length-append (omega arith) in
    record {
      place = c.place;
      place_is = p;
      breaks =
          ap (λ (l : List ℕ). first_break (drop k l)) (sym (append_snoc h b t)) ∙ ap first_break (drop-append-le k (h ++ b ∷ []) t long)
          ∙ break_stays (drop k (h ++ b ∷ [])) t c.place c.breaks;
    }

pub unbroken_accepts : (k : ℕ) (h t : List ℕ) → first_break (drop k (h ++ t)) ≡ none → accepts read_step (reader_after k h) t ≡ true
unbroken_accepts k h [] e = refl
unbroken_accepts k h (b ∷ t) e =
    go (read_step (reader_after k h) b) refl
    (unbroken_accepts k (h ++ b ∷ []) t (ap (λ (l : List ℕ). first_break (drop k l)) (append_snoc h b t) ∙ e))
  where
    go : (r : Option (Out ParseState)) → read_step (reader_after k h) b ≡ r → accepts read_step (reader_after k (h ++ b ∷ [])) t ≡ true
        → accepts_by r (λ o. accepts read_step o.after t) ≡ true
    go none q i = absurd (none≢some (sym e ∙ (forbidden_broken k h b t (front_unbroken k h (b ∷ t) e) q).breaks))
    go (some o) q i = ap (λ (s : ParseState). accepts read_step s t) (sym (state_more k h b o q)) ∙ i

pub accepts_unbroken : (k : ℕ) (h t : List ℕ) → first_break (drop k h) ≡ none → accepts read_step (reader_after k h) t ≡ true
    → first_break (drop k (h ++ t)) ≡ none
accepts_unbroken k h [] n e = ap (λ (l : List ℕ). first_break (drop k l)) (append-nil h) ∙ n
accepts_unbroken k h (b ∷ t) n e = go (read_step (reader_after k h) b) refl e (λ m a. accepts_unbroken k (h ++ b ∷ []) t m a)
  where
    go : (r : Option (Out ParseState)) → read_step (reader_after k h) b ≡ r → accepts_by r (λ o. accepts read_step o.after t) ≡ true
        → (first_break (drop k (h ++ b ∷ [])) ≡ none → accepts read_step (reader_after k (h ++ b ∷ [])) t ≡ true
        → first_break (drop k ((h ++ b ∷ []) ++ t)) ≡ none) → first_break (drop k (h ++ b ∷ t)) ≡ none
    go none q a ih = cc
    go (some o) q a ih =
        ap (λ (l : List ℕ). first_break (drop k l)) (sym (append_snoc h b t))
        ∙ ih (taken_unbroken k h b o n q) (ap (λ (s : ParseState). accepts read_step s t) (state_more k h b o q) ∙ a)

-- THE READER ACCEPTS EXACTLY THE LEGAL LISTS, from a new state
pub accepts_legal : (k : ℕ) (s : List ℕ) → accepts read_step (skipping k) s ≡ true → first_break (drop k s) ≡ none
accepts_legal k s e = accepts_unbroken k [] s (ap first_break (drop-nil k)) (ap (λ (x : ParseState). accepts read_step x s) (reader_new k) ∙ e)

pub legal_accepts : (k : ℕ) (s : List ℕ) → first_break (drop k s) ≡ none → accepts read_step (skipping k) s ≡ true
legal_accepts k s e = ap (λ (x : ParseState). accepts read_step x s) (sym (reader_new k)) ∙ unbroken_accepts k [] s e
