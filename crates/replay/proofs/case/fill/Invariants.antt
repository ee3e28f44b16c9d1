use Rattle.std.proofs.Common.{length}
use Rattle.replay.proofs.case.fill.Given as goal

abbrev pub decreases-loop-file : goal.decreases-loop-file
decreases-loop-file g l = length l.buf
