use Rattle.std.proofs.Common.{refl}
use Rattle.std.proofs.Common.{arith}
use Rattle.pps.proofs.Results.{table_stop, type_0, type_1, type_2, type_3, type_6, type_rest}
use Rattle.pps.proofs.fields.FieldReader.slice_groups.Goals as goal

pub returns-in_default : goal.returns-in_default
returns-in_default c = table_stop _ _ _ _ _ c.read_ue-first.ensures c.unwrap_err.ensures

pub returns-in-0 : goal.returns-in-0
returns-in-0 c = type_0 _ _ _ _ _ c.read_ue-first.ensures c.in-Ok.is c.in-0.is c.run_lengths.ensures

pub returns-in-1 : goal.returns-in-1
returns-in-1 c = type_1 _ _ _ _ _ c.read_ue-first.ensures c.in-Ok.is c.in-1.is (rw (c.plain.ensures) (record { same = refl; answers = refl }))

pub returns-in-2 : goal.returns-in-2
returns-in-2 c = type_2 _ _ _ _ _ c.read_ue-first.ensures c.in-Ok.is c.in-2.is c.rectangles.ensures

pub returns-in-6 : goal.returns-in-6
returns-in-6 c = type_6 _ _ _ _ _ c.read_ue-first.ensures c.in-Ok.is c.in-6.is c.group_ids.ensures

pub returns-in-3-to-5 : goal.returns-in-3-to-5
returns-in-3-to-5 c = type_3 _ _ _ _ _ c.read_ue-first.ensures c.in-Ok.is (omega arith) (omega arith) c.change.ensures

pub returns-in_default-slice_group_map_type : goal.returns-in_default-slice_group_map_type
returns-in_default-slice_group_map_type c =
    type_rest _ _ _ _ _ c.read_ue-first.ensures c.in-Ok.is (omega arith) (λ e. omega arith) (record { same = refl; answers = refl })
