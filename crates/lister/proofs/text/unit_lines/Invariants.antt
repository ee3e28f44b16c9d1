use Rattle.lister.proofs.Filling.{Lined}
use Rattle.lister.proofs.text.unit_lines.Given as goal

abbrev pub invariant-loop-i : goal.invariant-loop-i
invariant-loop-i l = Lined l.fn.text.items l.lengths l.first l.text.items l.i
