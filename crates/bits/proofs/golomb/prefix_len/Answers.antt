use Rattle.bits.proofs.Top.{leading_prefix}
use Rattle.bits.proofs.golomb.prefix_len.Goals as goal

pub returns : goal.returns
returns c = (leading_prefix c.args.value c.requires).1
