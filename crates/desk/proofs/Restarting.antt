-- A rule goes on from any history as the rule of the state reached there. For every reader and writer whose step gives its rule.
use Prim.Native.Nat.{ℕ}
use mathlib.Core.Path.{◌≡◌, refl, ap, sym, ◌∙◌, subst}
use mathlib.Core.Bool.{true, false≢true}
use mathlib.Core.List.{List, [], ◌∷◌, ◌++◌, append_assoc, append-nil}
use mathlib.Core.Option.{Option, none, some}
use lib.ListN.{length}
use lib.Seq.{append_snoc}
use Rattle.desk.specs.Push.{Out, Next, Answer, answers, took, shifted, Seen, seen, Follows, accepts_by, accepts}
use Rattle.desk.proofs.Cutting.{Since, since_none, since_more, shifted_none}

module _ {S : Type 0} {next : Next S} {s₀ : S} {rule rule' : List ℕ → Seen S} (f : Follows next s₀ rule) (h : List ℕ)
    (g : Follows next (rule h).state rule') where
  -- one answer that tells what both rules give for the bytes t
  record Both (t : List ℕ) : Type 0 where
    answer : Answer S
    there : Since f h (h ++ t) answer
    here : Since g [] t answer

  both_none : Both []
  both_none =
      record {
        answer = answers 0 (rule h).state;
        there = record { seen_is = ap rule (append-nil h) ∙ (since_none f h 0 (rule h).state refl).seen_is };
        here = since_none g [] 0 (rule h).state (ap (λ (v : Seen S). v.state) g.new);
      }

  both_more : (t u : List ℕ) (b : Both t) → accepts next b.answer.after u ≡ true → Both (t ++ u)
  both_more t [] b e = subst Both (sym (append-nil t)) b
  both_more t (x ∷ u) b e = go (next b.answer.after x) refl e (λ c k. both_more (t ++ x ∷ []) u c k)
    where
      go : (r : Option (Out S)) → next b.answer.after x ≡ r → accepts_by r (λ o. accepts next o.after u) ≡ true
          → ((c : Both (t ++ x ∷ [])) → accepts next c.answer.after u ≡ true → Both ((t ++ x ∷ []) ++ u)) → Both (t ++ x ∷ u)
      go none q k ih = absurd (false≢true k)
      go (some o) q k ih =
          subst Both (append_snoc t x u)
          (ih
          (record {
            answer = took b.answer o;
            there = record { seen_is = ap rule (sym (append_assoc h t (x ∷ []))) ∙ (since_more f h (h ++ t) b.answer x o q b.there).seen_is };
            here = since_more g [] t b.answer x o q b.here;
          })
          k)

  pub restart : (t : List ℕ) → accepts next (rule h).state t ≡ true
      → rule (h ++ t) ≡ seen (rule' t).state ((rule h).bytes ++ (rule' t).bytes) ((rule h).ends ++ shifted (length (rule h).bytes) (rule' t).ends)
  unfolding both_none
  restart t k =
      let b = both_more [] t both_none k in
      let a = b.answer in
      let e : rule' t ≡ seen a.after a.bytes a.marks =
      b.here.seen_is
      ∙ ap (λ (v : Seen S). seen a.after (v.bytes ++ a.bytes) (v.ends ++ shifted (length v.bytes) a.marks)) g.new
      ∙ ap (seen a.after a.bytes) (shifted_none a.marks) in
      b.there.seen_is ∙ ap
      (λ (v : Seen S). seen v.state ((rule h).bytes ++ v.bytes) ((rule h).ends ++ shifted (length (rule h).bytes) v.ends)) (sym e)
