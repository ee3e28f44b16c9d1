use Rattle.std.proofs.Common.{◌≡◌, false, refl, arith}
use Rattle.std.proofs.lemmas.Result.{err_from_is_err_and}
use Rattle.desk.proofs.Room.{with_front_none}
use Rattle.desk.proofs.Writing.{filled}
use Rattle.annexb.proofs.Resetting.{reset_refused, reset_no_room, reset_no_mark, reset_ends}
use Rattle.annexb.proofs.AnnexBReader.reset.Goals as goal
use Rattle.annexb.proofs.AnnexBReader.reset.Goals.{then-held-room-via-then-held-room, then-held-room-via-else-held-room+then-ends-marks}

pub returns-in_err-entry : goal.returns-in_err-entry
returns-in_err-entry c =
    let p = err_from_is_err_and c.from_residual.result c.from_residual.ensures.1 in
    rw (p.1, p.2) (reset_refused c.args.self.now c.args.room.now c.args.marks.now c.in_err-entry.field-0.0 c.in_err-entry.ensures)

pub returns-then-held-room : goal.returns-then-held-room
returns-then-held-room c =
    elim c.then-held-room.branch [
      | then-held-room-via-then-held-room w ↦
          reset_no_room c.args.self.now c.args.room.now c.args.marks.now c.in_ok-entry.ensures c.held-held.result c.from-ends.result
          c.held-held.ensures c.from-ends.ensures w.if-held-room.true
      | then-held-room-via-else-held-room+then-ends-marks w ↦
          reset_no_mark c.args.self.now c.args.room.now c.args.marks.now c.in_ok-entry.ensures c.held-held.result c.from-ends.result
          c.held-held.ensures c.from-ends.ensures w.if-ends-marks.true
    ]

pub returns-then-not-self : goal.returns-then-not-self
returns-then-not-self c =
    let a = c.args in
    let o : a.self.now.in_unit ≡ false = c.if-not-self.true in
    rw c.new.ensures
    (reset_ends a.self.now a.room.now a.marks.now c.in_ok-entry.ensures 0 0 (rw o refl) (rw o refl) (omega arith) (omega arith)
    (with_front_none a.room.now) (with_front_none a.marks.now))

pub returns : goal.returns
returns c =
    rw c.new-2.ensures
    (reset_ends c.args.self.now c.args.room.now c.args.marks.now c.in_ok-entry.ensures c.held-held.result c.from-ends.result
    c.held-held.ensures c.from-ends.ensures c.if-held-room.false c.if-ends-marks.false
    (filled c.held-held.result 0 c.args.room.now c.fill.new.self c.if-held-room.false (c.fill.ensures.after (λ y e. e)))
    (filled c.from-ends.result c.held-held.result c.args.marks.now c.fill-2.new.self c.if-ends-marks.false (c.fill-2.ensures.after (λ y e. e))))
