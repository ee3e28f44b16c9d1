use Rattle.std.proofs.Common.{arith, rules}
use Rattle.lister.specs.System.{through_more}
use Rattle.lister.proofs.system.System.hand_out.Goals as goal

pub returns-clause-handed_out : goal.returns-clause-handed_out
returns-clause-handed_out c =
    record { handed = λ w k. through_more 1 w c.args.text.now c.args.self.now.sent _ k (omega arith); failed = search rules }
