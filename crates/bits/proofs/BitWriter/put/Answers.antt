use Rattle.bits.proofs.Storing.{put_is}
use Rattle.bits.proofs.BitWriter.put.Goals as goal

pub returns : goal.returns
returns c =
    let a = c.args in
    let q = c.requires in
    let p = c.from.ensures in
    let v = c.from-2.ensures in
    rw (p, v) (put_is a.out.now c.fill.new.out a.self.now a.n a.v q.0.good.below q.0.good.few q.1 (rw (p, v) at c.fill.ensures))
