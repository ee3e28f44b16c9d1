use Rattle.std.proofs.Common.{length}
use Rattle.bits.specs.Reading.{read_bits}
use Rattle.pps.specs.Step.{RowSo}
use Rattle.pps.proofs.fields.FieldReader.put_ids.Given as goal

abbrev pub invariant-loop-id : goal.invariant-loop-id
invariant-loop-id l = RowSo (λ s p. read_bits s p l.width) l.fn.self (length l.fn.ids) l.id-index l.id-items l.self
