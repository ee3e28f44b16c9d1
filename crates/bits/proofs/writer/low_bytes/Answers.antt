use Rattle.std.proofs.Common.{◌-◌, ◌+◌, ap, sym, ◌∙◌, arith, take, drop}
use Rattle.std.proofs.lemmas.Slice.{put_mid-paste}
use Rattle.std.proofs.Math.Seq.{take_all}
use Rattle.bits.specs.Step.{bytes_of}
use Rattle.bits.proofs.Storing.{length_bytes, last_bytes, paste_filled}
use Rattle.bits.proofs.writer.low_bytes.Goals as goal

pub returns : goal.returns
returns g c =
    let a = c.args in
    let w = a.at.0 in
    let k = g.row.K in
    put_mid-paste w (w + k - w) a.out.now c.copy_from_slice.new.self (bytes_of k a.y) k
    (c.copy_from_slice.ensures.after ∙ ap (take (8 - (8 - k))) (ap (drop (8 - k)) c.to_be_bytes-bytes.ensures ∙ last_bytes k a.y (omega arith))
    ∙ take_all (8 - (8 - k)) (bytes_of k a.y) (omega (arith, length_bytes k a.y)))
    (omega arith) (sym (length_bytes k a.y))
    ∙ paste_filled a.out.now w k a.y
