use Rattle.bits.proofs.Reading.{ue_codes}
use Rattle.bits.proofs.Back.{read_is}
use Rattle.bits.proofs.BitReader.read_se.Goals as goal

-- what `read_ue` reads has a code
pub signed_of-requires : goal.signed_of-requires
signed_of-requires c = (ue_codes.took _ _ _ _ (read_is c.read_ue.ensures c.in_ok-read_ue.was)).ok
