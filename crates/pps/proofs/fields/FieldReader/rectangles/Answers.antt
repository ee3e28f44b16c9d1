use Rattle.std.proofs.Common.{arith}
use Rattle.pps.proofs.Rows.{row_more}
use Rattle.pps.proofs.Results.{rects_stop, rects_end}
use Rattle.pps.proofs.fields.FieldReader.rectangles.Goals as goal

pub returns-in_default : goal.returns-in_default
returns-in_default c =
    rects_stop _ _ _ _ _ _ _ c.loop-rectangle.invariant (omega arith) c.rectangle-field.ensures c.unwrap_err.ensures

pub loop-rectangle-preserved : goal.loop-rectangle-preserved
loop-rectangle-preserved c = row_more _ _ _ _ _ _ c.loop-rectangle.invariant (omega arith) c.rectangle-field.ensures c.in-Ok.is

pub returns : goal.returns
returns c = rects_end _ _ _ _ _ _ _ c.loop-rectangle.invariant (omega arith) c.plain.ensures
