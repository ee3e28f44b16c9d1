-- THE STEP GIVES THE RULE, at every history and from every state that is not bad.
use Prim.Native.Nat.{ℕ, zero, suc, ◌+◌, ◌≤◌}
use native.Mathlib.Nat.{zero-add, add-zero}
use native.Mathlib.Omega.{arith}
use mathlib.Core.Path.{◌≡◌, refl, ap, ap₂, sym, ◌∙◌}
use mathlib.Core.Bool.{Bool, true, false, cond, ◌&&◌, and-true}
use mathlib.Core.List.{List, [], ◌∷◌, ◌++◌, append_assoc, append-nil}
use mathlib.Core.Option.{some-injective}
use lib.ListN.{length, replicate, length-append}
use Rattle.desk.specs.Search.{is0, is1, up_to1, trail, unheld}
use Rattle.desk.specs.Zeros.{two, zeros_after}
use Rattle.desk.specs.Push.{seen, seen_after, Follows}
use Rattle.desk.proofs.Search.{trail_more, unheld_other, unheld_zero}
use Rattle.desk.proofs.Choice.{ap_cond}
use Rattle.annexb.specs.declared.AnnexBReader.{AnnexBReader}
use Rattle.annexb.specs.Rule.{Frame, unended, ended_before, frame_from, joined, ends_from}
use Rattle.annexb.specs.Seen.{at, state_in, seen_in, rule}
use Rattle.annexb.specs.Step.{step, stepping}
use Rattle.annexb.proofs.Framing.{reopened, on_byte, frame_more}

-- ---- joined units and their ends

pub joined_append : (us vs : List (List ℕ)) → joined (us ++ vs) ≡ joined us ++ joined vs
joined_append [] vs = refl
joined_append (u ∷ us) vs = ap (λ (l : List ℕ). u ++ l) (joined_append us vs) ∙ sym (append_assoc u (joined us) (joined vs))

pub ends_append : (k : ℕ) (us vs : List (List ℕ)) → ends_from k (us ++ vs) ≡ ends_from k us ++ ends_from (k + length (joined us)) vs
ends_append k [] vs = ap (λ (n : ℕ). ends_from n vs) (sym (add-zero k))
ends_append k (u ∷ us) vs =
    let e : k + length u + length (joined us) ≡ k + length (u ++ joined us) = simp length-append (omega arith) in
    ap {B = List ℕ} (λ l. (k + length u) ∷ l) (ends_append (k + length u) us vs ∙ ap (λ (n : ℕ). ends_from (k + length u) us ++ ends_from n vs) e)

-- ---- one byte more, as it is seen

-- outside: nothing is handed out
out_seen : (us : List (List ℕ)) (r : List ℕ) (b : ℕ) (c : Bool)
    → seen_in (ended_before us (cond c (unended true []) (unended false (r ++ b ∷ []))))
    ≡ seen_after (seen_in (ended_before us (unended false r)))
    (cond c (record { after = at true 0; bytes = []; mark = false })
    (record { after = at false (zeros_after (trail r) b); bytes = []; mark = false }))
out_seen us r b true = λ i. seen (at true 0) (sym (append-nil (joined (us ++ []) ++ [])) i) (sym (append-nil (ends_from 0 (us ++ []))) i)
out_seen us r b false =
    λ i. seen (at false (trail_more r b i)) (sym (append-nil (joined (us ++ []) ++ [])) i) (sym (append-nil (ends_from 0 (us ++ []))) i)

opened : (b : ℕ) → cond (is1 b) (unheld (reopened b)) [] ≡ []
opened zero = refl
opened (suc zero) = refl
opened (suc (suc b)) = refl

-- in a unit: it ends
end_seen : (us : List (List ℕ)) (r : List ℕ) (b : ℕ)
    → seen_in (ended_before us (ended_before (unheld r ∷ []) (unended (is1 b) (reopened b))))
    ≡ seen_after (seen_in (ended_before us (unended true r))) (record { after = at (is1 b) (cond (is0 b) 2 0); bytes = []; mark = true })
end_seen us r b =
    let j : joined (us ++ unheld r ∷ []) ≡ joined (us ++ []) ++ unheld r =
    joined_append us (unheld r ∷ []) ∙ ap₂ ◌++◌ (ap joined (sym (append-nil us))) (append-nil (unheld r)) in
    let k : joined us ≡ joined (us ++ []) = ap joined (sym (append-nil us)) in
    let n : 0 + length (joined us) + length (unheld r) ≡ length (joined (us ++ []) ++ unheld r) =
    ap (λ (x : ℕ). x + length (unheld r)) (zero-add (length (joined us)) ∙ ap length k) ∙ sym (length-append (joined (us ++ [])) (unheld r)) in
    λ i. seen (at (is1 b) (ap_cond trail (is0 b) (0 ∷ 0 ∷ 0 ∷ []) [] i))
    (ap₂ ◌++◌ j (opened b) i)
    ((ends_append 0 us (unheld r ∷ []) ∙ ap₂ (λ (l : List ℕ) (x : ℕ). l ++ x ∷ []) (ap (ends_from 0) (sym (append-nil us))) n) i)

-- or takes the byte
in_seen : (us : List (List ℕ)) (r : List ℕ) (b : ℕ) → (two (trail r) && up_to1 b) ≡ false
    → seen_in (ended_before us (unended true (r ++ b ∷ [])))
    ≡ seen_after (seen_in (ended_before us (unended true r)))
    (record { after = at true (zeros_after (trail r) b); bytes = cond (is0 b) [] (replicate (trail r) 0 ++ b ∷ []); mark = false })
in_seen us r zero e =
    let s : unheld (r ++ 0 ∷ []) ≡ unheld r = unheld_zero r (sym (and-true (two (trail r))) ∙ e) in
    λ i. seen (at true (trail_more r 0 i)) ((ap (λ (l : List ℕ). joined (us ++ []) ++ l) s ∙ sym (append-nil (joined (us ++ []) ++ unheld r))) i)
    (sym (append-nil (ends_from 0 (us ++ []))) i)
in_seen us r (suc b) e =
    let s =
    ap (λ (l : List ℕ). joined (us ++ []) ++ l) (unheld_other r b)
    ∙ sym (append_assoc (joined (us ++ [])) (unheld r) (replicate (trail r) 0 ++ suc b ∷ [])) in
    λ i. seen (at true (trail_more r (suc b) i)) (s i) (sym (append-nil (ends_from 0 (us ++ []))) i)

byte_seen : (us : List (List ℕ)) (o : Bool) (r : List ℕ) (b : ℕ)
    → seen_in (ended_before us (on_byte o r b)) ≡ seen_after (seen_in (ended_before us (unended o r))) (step (at o (trail r)) b)
byte_seen us false r b = out_seen us r b (two (trail r) && is1 b)
byte_seen us true r b = go (two (trail r) && up_to1 b) refl
  where
    go : (c : Bool) → (two (trail r) && up_to1 b) ≡ c
        → seen_in (ended_before us (cond c (ended_before (unheld r ∷ []) (unended (is1 b) (reopened b))) (unended true (r ++ b ∷ []))))
        ≡ seen_after (seen_in (ended_before us (unended true r)))
        (cond c (record { after = at (is1 b) (cond (is0 b) 2 0); bytes = []; mark = true })
        (record { after = at true (zeros_after (trail r) b); bytes = cond (is0 b) [] (replicate (trail r) 0 ++ b ∷ []); mark = false }))
    go true e = end_seen us r b
    go false e = in_seen us r b e

frame_nil : (f : Frame) → ended_before f.closed (unended f.in_unit f.rest) ≡ f
frame_nil f i = record { closed = append-nil f.closed i; in_unit = f.in_unit; rest = f.rest }

pub step_seen : (o : Bool) (h : List ℕ) (b : ℕ)
    → seen_in (frame_from o (h ++ b ∷ [])) ≡ seen_after (seen_in (frame_from o h)) (step (state_in (frame_from o h)) b)
step_seen o h b =
    let f = frame_from o h in
    ap seen_in (frame_more o h b) ∙ byte_seen f.closed f.in_unit f.rest b
    ∙ ap (λ (x : Frame). seen_after (seen_in x) (step (state_in f) b)) (frame_nil f)

-- zeros that are held alone
held_alone : (o : Bool) (z : ℕ) → z ≤ 2 → rule (at o z) [] ≡ seen (at o z) [] []
held_alone false zero h = refl
held_alone false (suc zero) h = refl
held_alone false (suc (suc zero)) h = refl
held_alone true zero h = refl
held_alone true (suc zero) h = refl
held_alone true (suc (suc zero)) h = refl
held_alone o (suc (suc (suc z))) h = let x : ⊥ = omega arith in absurd x

pub follows : (s : AnnexBReader) → s.zeros ≤ 2 → Follows stepping s (rule s)
follows s k =
    record {
      new = held_alone s.in_unit s.zeros k;
      more = λ h b o e.
          ap (λ (l : List ℕ). seen_in (frame_from s.in_unit l)) (sym (append_assoc (replicate s.zeros 0) h (b ∷ [])))
          ∙ step_seen s.in_unit (replicate s.zeros 0 ++ h) b
          ∙ ap (seen_after (rule s h)) (some-injective (step (rule s h).state b) o e);
    }
