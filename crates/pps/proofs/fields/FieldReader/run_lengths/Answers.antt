use Rattle.std.proofs.Common.{arith}
use Rattle.pps.proofs.Rows.{row_more}
use Rattle.pps.proofs.Results.{runs_stop, runs_end}
use Rattle.pps.proofs.fields.FieldReader.run_lengths.Goals as goal

-- first, since a wrong count of runs is wrong here, and a refused run is refused by either count
pub returns : goal.returns
returns c = runs_end _ _ _ 0 _ _ _ c.loop-run.invariant (omega arith) c.plain.ensures

pub returns-in_default : goal.returns-in_default
returns-in_default c =
    runs_stop _ _ _ 0 _ _ _ c.loop-run.invariant (omega arith) c.ue_below-field.ensures c.unwrap_err.ensures

pub loop-run-preserved : goal.loop-run-preserved
loop-run-preserved c = row_more _ _ _ _ _ _ c.loop-run.invariant (omega arith) c.ue_below-field.ensures c.in-Ok.is
