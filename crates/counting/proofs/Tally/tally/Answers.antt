use Rattle.std.proofs.Common.{arith}
use Rattle.counting.proofs.Gaps.{tallied}
use Rattle.counting.proofs.Tally.tally.Goals as goal

pub returns : goal.returns
returns c =
    let d = c.distances-last in
    tallied c.args.self.now c.args.marks.now d.new.marks c.args.marked c.args.written c.min-count.result _ d.result _ c.min-count.ensures
    (omega arith) d.ensures.put d.ensures.last (omega arith)
