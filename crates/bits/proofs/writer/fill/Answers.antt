use Rattle.std.proofs.Common.{◌≡◌, ◌∙◌, arith}
use Rattle.std.proofs.Math.Seq.{paste-zero}
use Rattle.bits.specs.Step.{bytes_of}
use Rattle.bits.proofs.Storing.{paste_filled}
use Rattle.bits.proofs.writer.fill.Goals as goal

pub returns-in-0 : goal.returns-in-0
returns-in-0 c =
    let a = c.args in
    let e : a.k ≡ 0 = omega arith in
    rw e (paste-zero a.out.now a.at.0 (bytes_of 0 a.y) ∙ paste_filled a.out.now a.at.0 0 a.y)
