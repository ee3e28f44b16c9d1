-- One call of the reader: that it isn't refused, and how much it takes.
use Rattle.std.proofs.Common.{◌≡◌, ℕ, ◌≤◌, ltb, List, [], ◌∷◌, length, Result, Ok, Err, IsOk, ◌∙◌, zero-le, not-suc-le-zero, arith, rules, le-ltb}
use Rattle.desk.specs.Numbers.{most}
use Rattle.desk.specs.Push.{Answer}
use Rattle.desk.specs.Refusing.{answered}
use Rattle.desk.specs.declared.refusal.Refusal.{Refusal}
use Rattle.desk.proofs.Refusing.{number_some}
use Rattle.desk.proofs.Taking.{never_7}
use Rattle.desk.proofs.Choice.{cond_ind}
use Rattle.desk.proofs.Entering.{entry_done}
use Rattle.annexb.specs.declared.AnnexBReader.{AnnexBReader}
use Rattle.annexb.specs.Step.{stepping}
use Rattle.annexb.specs.Answer.{entering, push_answer, closing, reset_answer}
use Rattle.annexb.proofs.Laws.{none_forbidden, push_takes_longest, push_takes_one}
use Rattle.annexb.proofs.Completing.{reset_done}

-- what is answered by 0 is not refused
pub not_refused : {A : Type 0} (r : Result A Refusal) → answered r ≡ 0 → IsOk r
not_refused (Ok x) e = search rules
not_refused (Err why) e = absurd (let z = number_some why in let f : ⊥ = omega arith in f)

-- with the memory of a listing, in a state that pushes come to
module _ (s : AnnexBReader) (room marks : ℕ) (good : s.zeros ≤ 2) (room_long : room ≡ 65536) (marks_long : marks ≡ 1024) where
  passes : (chunk : ℕ) → chunk ≤ most → entering s chunk room marks ≡ 0
  passes chunk few = entry_done (chunk ∷ room ∷ marks ∷ []) (ltb 2 s.zeros) (few, (omega arith, (omega arith, tt))) (le-ltb 2 s.zeros good)

  pub push_passes : (chunk : List ℕ) → length chunk ≤ most → (push_answer s chunk room marks).number ≡ 0
  push_passes chunk few = never_7 stepping none_forbidden (entering s (length chunk) room marks) s chunk room marks ∙ passes (length chunk) few

  pub takes_one : (chunk : List ℕ) → 1 ≤ length chunk → length chunk ≤ most → 1 ≤ (push_answer s chunk room marks).taken
  takes_one [] h few = absurd (not-suc-le-zero h)
  takes_one (b ∷ bs) h few = push_takes_one s b bs room marks (passes (length (b ∷ bs)) few) (omega arith) (omega arith)

  pub takes_few : (chunk : List ℕ) → length chunk ≤ most → (push_answer s chunk room marks).taken ≤ length chunk
  takes_few chunk few = (push_takes_longest s chunk room marks (passes (length chunk) few)).few

  pub reset_passes : (reset_answer s room marks).number ≡ 0
  reset_passes = reset_done s room marks (passes 0 (omega arith)) (omega arith) (omega arith)

  pub stays_good : (reset_answer s room marks).after.zeros ≤ 2
  unfolding reset_answer closing
  stays_good =
      let P = λ (a : Answer AnnexBReader). a.after.zeros ≤ 2 in
      cond_ind P _ _ _ (cond_ind P s.in_unit _ _ (cond_ind P _ _ _ zero-le good) zero-le) good
