use Rattle.pps.specs.Rule.{rectangle}
use Rattle.pps.specs.Step.{RowSo}
use Rattle.pps.proofs.fields.FieldReader.rectangles.Given as goal

abbrev pub invariant-loop-rectangle : goal.invariant-loop-rectangle
invariant-loop-rectangle l = RowSo (rectangle l.picture.width l.picture.size) l.fn.self l.count.minus1 l.rectangle-index l.rectangle-items l.self
