use Rattle.std.proofs.Common.{◌≡◌}
use Rattle.desk.proofs.Pushing.{Going}
use Rattle.desk.proofs.push.run.Given as goal

-- the bytes so far, each taken
abbrev pub invariant-loop-b : goal.invariant-loop-b
invariant-loop-b g l =
    Going g.S.Steps.next l.chunk l.fn.room l.fn.marks l.fn.state l.room l.marks l.state l.pushed.taken l.pushed.written l.pushed.marked
    × (l.pushed.taken ≡ l.b-index)
