use Rattle.std.proofs.Common.{arith}
use lib.Pow.{pow_mono}
use Rattle.bits.proofs.Back.{read_is}
use Rattle.bits.proofs.Reading.{bits_codes}
use Rattle.pps.proofs.Back.{as_field}
use Rattle.pps.proofs.Rows.{row_more, row_stops, row_read}
use Rattle.pps.proofs.Ids.{ids_there}
use Rattle.pps.proofs.fields.FieldReader.put_ids.Goals as goal

-- the bits of every id are there, so none is refused
pub returns-in_default : goal.returns-in_default
returns-in_default c =
    absurd (ids_there _ (omega arith) _ _ _ _ c.requires.entered c.requires.bits
    (row_stops _ _ _ _ _ _ c.loop-id.invariant c.loop-id-test.true (as_field c.read-field.ensures) c.in_default.is))

-- an id of at most 8 bits is below 2 ^ 8
pub overflow_cast-id : goal.overflow_cast-id
overflow_cast-id c =
    let small = ((bits_codes c.args.width (omega arith)).took _ _ _ _ (read_is c.read-field.ensures c.in-Ok.is)).ok in
    omega (arith, pow_mono {i = c.args.width} {j = 8} c.requires.narrow)

pub loop-id-preserved : goal.loop-id-preserved
loop-id-preserved c = row_more _ _ _ _ _ _ c.loop-id.invariant c.loop-id-test.true (as_field c.read-field.ensures) c.in-Ok.is

pub returns : goal.returns
returns c = record { same = c.loop-id.invariant.same; read = row_read _ _ _ _ _ _ c.loop-id.invariant c.loop-id-test.false }
