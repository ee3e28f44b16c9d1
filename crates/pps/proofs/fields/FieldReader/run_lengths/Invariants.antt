use Rattle.std.proofs.Common.{◌+◌}
use Rattle.desk.specs.Numbers.{bad_run_length}
use Rattle.pps.specs.Rule.{ue_below}
use Rattle.pps.specs.Step.{RowSo}
use Rattle.pps.proofs.fields.FieldReader.run_lengths.Given as goal

abbrev pub invariant-loop-run : goal.invariant-loop-run
invariant-loop-run l = RowSo (ue_below l.picture.size bad_run_length) l.fn.self (l.count.minus1 + 1) l.run-index l.run-items l.self
