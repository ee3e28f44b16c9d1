-- A reset, by the rule: it completes what is open, or refuses and changes nothing.
use Prim.Native.Nat.{ℕ, ◌+◌, ◌≤◌}
use native.Mathlib.Nat.{zero-add}
use native.Mathlib.Omega.{arith}
use lib.Dec.{leb, eqb}
use mathlib.Core.Path.{◌≡◌, refl, ap, sym, ◌∙◌}
use mathlib.Core.Bool.{Bool, true, false, cond, ◌&&◌}
use mathlib.Core.List.{List, [], ◌∷◌, ◌++◌, append_assoc, append-nil}
use lib.ListN.{length, replicate, length-append, length-replicate}
use borrow.Author.Tests.{eqb-false, le-leb}
use Rattle.desk.specs.Search.{trail, unheld}
use Rattle.desk.specs.Push.{Answer, answers}
use Rattle.desk.proofs.Search.{unheld_held}
use Rattle.desk.proofs.Choice.{cond_ind, cond_by}
use Rattle.annexb.specs.declared.AnnexBReader.{AnnexBReader}
use Rattle.annexb.specs.Rule.{Frame, joined, ends_from}
use Rattle.annexb.specs.Seen.{at, new, state_in}
use Rattle.annexb.specs.Answer.{entering, closing, reset_answer}
use Rattle.annexb.specs.Calls.{Completes}
use Rattle.annexb.proofs.Following.{joined_append, ends_append}

-- what a reset that is not refused hands out: of an open unit with z zeros held, or of none
abbrev closed_by : Bool → ℕ → Answer AnnexBReader
closed_by o z = record { number = 0; taken = 0; bytes = cond o (replicate z 0) []; marks = cond o (z ∷ []) []; after = new }

-- a reset's answer is that, or a number alone
data Ending (s : AnnexBReader) : Answer AnnexBReader → Type 0 where
  closes : Ending s (closed_by s.in_unit s.zeros)
  refuses : (n : ℕ) → (n ≡ 0 → ⊥) → Ending s (answers n s)

open_ending : (o : Bool) (z : ℕ) (c : Bool) → Ending (at o z) (cond o (cond c (closed_by true z) (answers 10 (at o z))) (answers 0 new))
open_ending false z c = Ending.closes
open_ending true z true = Ending.closes
open_ending true z false = Ending.refuses 10 (λ e. let x : ⊥ = omega arith in x)

ending : (s : AnnexBReader) (w m : ℕ) → Ending s (reset_answer s w m)
unfolding reset_answer closing
ending s w m =
    let n = entering s 0 w m in
    cond_by (Ending s) (eqb n 0) _ (answers n s) (λ _. open_ending s.in_unit s.zeros (leb s.zeros w && leb 1 m))
    (λ q. Ending.refuses n (eqb-false n 0 q))

-- where the held zeros and the mark fit, a reset that passes its entry checks is done
pub reset_done : (s : AnnexBReader) (w m : ℕ) → entering s 0 w m ≡ 0 → s.zeros ≤ w → 1 ≤ m → (reset_answer s w m).number ≡ 0
unfolding reset_answer closing
reset_done s w m e a b =
    rw (e, le-leb s.zeros w a, le-leb 1 m b) (cond_ind (λ (x : Answer AnnexBReader). x.number ≡ 0) s.in_unit _ _ refl refl)

-- a reset that is refused changes nothing
pub reset_kept : (s : AnnexBReader) (w m : ℕ) → ((reset_answer s w m).number ≡ 0 → ⊥) → reset_answer s w m ≡ answers (reset_answer s w m).number s
reset_kept s w m = go (ending s w m)
  where
    go : {a : Answer AnnexBReader} → Ending s a → (a.number ≡ 0 → ⊥) → a ≡ answers a.number s
    go Ending.closes h = absurd (h refl)
    go (Ending.refuses n k) h = refl

-- the bytes and the ends of all units, by those of what is framed and what is held
completed : (us : List (List ℕ)) (o : Bool) (r : List ℕ)
    → let f : Frame = record { closed = us; in_unit = o; rest = r } in Completes f (closed_by o (trail r))
completed us false r =
    record {
      bytes_all = append-nil _ ∙ append-nil _ ∙ ap joined (sym (append-nil us));
      ends_all = append-nil _ ∙ ap (ends_from 0) (sym (append-nil us));
      state_new = refl;
    }
completed us true r =
    let whole : joined us ++ unheld r ++ replicate (trail r) 0 ≡ joined us ++ r =
    append_assoc (joined us) (unheld r) (replicate (trail r) 0) ∙ ap (λ (l : List ℕ). joined us ++ l) (unheld_held r) in
    let n : length (joined us ++ unheld r) + trail r ≡ 0 + length (joined us) + length r =
    ap (λ (k : ℕ). length (joined us ++ unheld r) + k) (sym (length-replicate (trail r) 0))
    ∙ sym (length-append (joined us ++ unheld r) (replicate (trail r) 0)) ∙ ap length whole ∙ length-append (joined us) r
    ∙ ap (λ (k : ℕ). k + length r) (sym (zero-add (length (joined us)))) in
    record {
      bytes_all = whole ∙ ap (λ (l : List ℕ). joined us ++ l) (sym (append-nil r)) ∙ sym (joined_append us (r ∷ []));
      ends_all = ap (λ (k : ℕ). ends_from 0 us ++ k ∷ []) n ∙ sym (ends_append 0 us (r ∷ []));
      state_new = refl;
    }

-- A RESET COMPLETES WHAT IS OPEN
pub reset_completes : (f : Frame) (w m : ℕ) → (reset_answer (state_in f) w m).number ≡ 0 → Completes f (reset_answer (state_in f) w m)
reset_completes f w m = go (ending (state_in f) w m)
  where
    go : {a : Answer AnnexBReader} → Ending (state_in f) a → a.number ≡ 0 → Completes f a
    go Ending.closes e = completed f.closed f.in_unit f.rest
    go (Ending.refuses n k) e = absurd (k e)
