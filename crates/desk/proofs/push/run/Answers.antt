use Rattle.std.proofs.Common.{◌≤◌, length, refl, sym, arith, ◌∙◌}
use Rattle.desk.proofs.Pushing.{gives, stop_end}
use Rattle.desk.proofs.Running.{runs_forbidden, runs_on, runs_full, runs_full_marks, mark_fits, mark_lacks}
use Rattle.desk.proofs.push.run.Goals as goal
use Rattle.desk.proofs.push.run.Goals.{then-step-room-via-then-step-room, then-step-room-via-else-step-room+then-lacks_mark}

pub returns-in_default : goal.returns-in_default
returns-in_default g c = runs_forbidden c.loop-b.invariant.0 c.loop-b.invariant.1 c.loop-b-test.true c.in_default.ensures

pub loop-b-preserved : goal.loop-b-preserved
loop-b-preserved g c =
    let a = c.loop-b.invariant in
    let q = c.in-Some.ensures in
    let d = c.in-Some.step in
    let lead = g.S.Steps.LEAD in
    let fits = mark_fits a.0 a.1 c.loop-b-test.true lead d q c.from.ensures (sym c.lacks_mark.ensures ∙ c.if-lacks_mark.false) in (
      runs_on a.0 a.1 c.loop-b-test.true lead d q (omega arith) c.from.ensures fits _ _ (rw c.LEAD.ensures at c.put.ensures) c.put_mark.ensures,
      omega arith,
    )

pub returns-after-loop-b : goal.returns-after-loop-b
returns-after-loop-b g c =
    let k : length c.args.chunk.now ≤ c.loop-b.pushed.taken = omega arith in
    gives c.loop-b.invariant.0 0 (stop_end c.loop-b.invariant.0 k)

pub returns-then-step-room : goal.returns-then-step-room
returns-then-step-room g c =
    let a = c.loop-b.invariant in
    let q = c.in-Some.ensures in
    let d = c.in-Some.step in
    let lead = g.S.Steps.LEAD in
    elim c.then-step-room.branch [
      | then-step-room-via-then-step-room w ↦ runs_full a.0 a.1 c.loop-b-test.true lead d q w.if-step-room.true
      | then-step-room-via-else-step-room+then-lacks_mark w ↦
          runs_full_marks a.0 a.1 c.loop-b-test.true lead d q refl
          (mark_lacks a.0 a.1 c.loop-b-test.true lead d q (sym w.lacks_mark.ensures ∙ w.if-lacks_mark.true))
    ]
