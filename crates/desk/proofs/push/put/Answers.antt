use Rattle.std.proofs.Common.{◌≡◌, ◌≤◌, length, refl, [], arith}
use Rattle.desk.proofs.Room.{with_front_none}
use Rattle.desk.proofs.Writing.{last_put}
use Rattle.desk.proofs.push.put.Goals as goal

pub returns-in-0 : goal.returns-in-0
returns-in-0 c = let q : c.args.count ≡ 0 = omega arith in rw q (with_front_none c.args.room.now)

pub returns-in-1 : goal.returns-in-1
returns-in-1 c =
    let q : c.args.count ≡ 1 = omega arith in
    let h : 1 ≤ length c.args.room.now = omega arith in
    rw q (last_put c.args.lead 1 c.args.b c.args.room.now [] (omega arith) h refl)

pub returns-in_default : goal.returns-in_default
returns-in_default c =
    last_put c.args.lead c.args.count c.args.b c.args.room.now c.fill.new.self (omega arith) c.requires (c.fill.ensures.after (λ y e. e))
