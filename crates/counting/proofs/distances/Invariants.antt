use Rattle.counting.proofs.Gaps.{Passed}
use Rattle.counting.proofs.distances.Given as goal

-- the distances so far
abbrev pub invariant-loop-mark : goal.invariant-loop-mark
invariant-loop-mark l = Passed l.fn.marks l.start l.marks l.last l.mark-index
