use Rattle.std.proofs.Common.{[], ◌∷◌}
use Rattle.desk.proofs.Room.{front_stored, with_front_none}
use Rattle.desk.proofs.push.put_mark.Goals as goal

pub returns-then-ends : goal.returns-then-ends
returns-then-ends c = rw c.if-ends.true (front_stored (c.args.mark ∷ []) c.args.room.now (rw c.if-ends.true at c.requires))

pub returns-else-ends : goal.returns-else-ends
returns-else-ends c = rw c.if-ends.false (with_front_none c.args.room.now)
