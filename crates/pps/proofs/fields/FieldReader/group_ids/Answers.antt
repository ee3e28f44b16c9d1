use Rattle.std.proofs.Common.{arith}
use Rattle.pps.proofs.Results.{ids_stop, known, ids_few, ids_fit, ids_no_room, ids_end}
use Rattle.pps.proofs.fields.FieldReader.group_ids.Goals as goal

-- first, since it fails where too few bits are known to be there
pub put_ids-requires : goal.put_ids-requires
put_ids-requires c =
    ids_fit _ _ _ _ _ c.ue_below-first.ensures c.in-Ok.is c.args.count.few c.args.picture.small c.id_bits-width.ensures c.skip-all.ensures
    c.in-Ok-all.is c.if-many-ids.false

pub returns-in_default : goal.returns-in_default
returns-in_default c = ids_stop _ _ _ _ _ c.ue_below-first.ensures c.unwrap_err.ensures

pub overflow_add-bits : goal.overflow_add-bits
overflow_add-bits c =
    let all = known _ _ _ _ c.args.ids.now c.ue_below-first.ensures c.in-Ok.is c.args.count.few c.args.picture.small c.id_bits-width.ensures in
    omega (arith, all.count)

pub overflow_mul-bits : goal.overflow_mul-bits
overflow_mul-bits c =
    let all = known _ _ _ _ c.args.ids.now c.ue_below-first.ensures c.in-Ok.is c.args.count.few c.args.picture.small c.id_bits-width.ensures in
    omega (arith, all.bits)

pub returns-in_default-all : goal.returns-in_default-all
returns-in_default-all c =
    ids_few _ _ _ _ _ c.ue_below-first.ensures c.in-Ok.is c.args.count.few c.args.picture.small c.id_bits-width.ensures c.skip-all.ensures
    c.unwrap_err-in_default-all.ensures

pub returns-then-many-ids : goal.returns-then-many-ids
returns-then-many-ids c =
    ids_no_room _ _ _ _ _ c.ue_below-first.ensures c.in-Ok.is c.args.count.few c.args.picture.small c.id_bits-width.ensures c.skip-all.ensures
    c.in-Ok-all.is c.if-many-ids.true

pub returns : goal.returns
returns c =
    ids_end _ _ _ _ _ c.ue_below-first.ensures c.in-Ok.is c.args.count.few c.args.picture.small c.id_bits-width.ensures c.if-many-ids.false
    c.put_ids.ensures c.plain.ensures
