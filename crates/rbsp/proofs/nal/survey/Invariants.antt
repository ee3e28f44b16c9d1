use Rattle.rbsp.proofs.Decoding.{Surveying}
use Rattle.rbsp.proofs.nal.survey.Given as goal

-- so far no byte is forbidden, and so many are kept
abbrev pub invariant-loop-i : goal.invariant-loop-i
invariant-loop-i l = Surveying l.tail l.state l.kept l.i
