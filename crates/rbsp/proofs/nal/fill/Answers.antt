-- The three answers, by what is kept of the tail and by the room.
use Rattle.std.proofs.Common.{arith}
use Rattle.rbsp.proofs.Decoding.{says_own, says_no_room, is_done, says_filled}
use Rattle.rbsp.proofs.nal.fill.Goals as goal

pub returns-then-kept-nal : goal.returns-then-kept-nal
returns-then-kept-nal c = says_own c.requires c.if-kept-nal.true

pub returns-then-kept-room : goal.returns-then-kept-room
returns-then-kept-room c = says_no_room c.requires c.if-kept-nal.false c.if-kept-room.true

pub unwrap-filled-requires : goal.unwrap-filled-requires
unwrap-filled-requires c =
    let p = c.push in is_done c.requires _ p.new.self.state c.skipping_h264_header.ensures p.new.out p.result p.ensures

-- `omega`, which names no test: that what is kept fits the room must follow from whatever was tested
pub returns : goal.returns
returns c =
    let p = c.push in
    says_filled c.requires _ p.new.self.state c.skipping_h264_header.ensures p.new.out p.result p.ensures c.if-kept-nal.false (omega arith)
    c.unwrap-filled.result c.unwrap-filled.ensures
