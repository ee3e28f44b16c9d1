use Rattle.bits.proofs.Back.{reads}
use Rattle.pps.proofs.Back.{field_is}
use Rattle.pps.proofs.read_num_ref_idx.Goals as goal

-- first, since a wrong limit is wrong here, and what it refuses is refused by the right one too
pub returns : goal.returns
returns c = reads (field_is c.ue_below-field.ensures c.in-Ok.is)
