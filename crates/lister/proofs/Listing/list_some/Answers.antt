use Rattle.std.proofs.Common.{◌≡◌, ℕ, length, Result, MatchResult, sym, arith, rules, ◌∙◌}
use Rattle.desk.proofs.Cutting.{gave_marks_fit}
use Rattle.annexb.proofs.Calling.{push_few}
use Rattle.lister.specs.declared.system.Failure.{Failure}
use Rattle.lister.specs.declared.system.Failure.TheVariants.{Write}
use Rattle.lister.specs.Listed.{SomeListed}
use Rattle.lister.proofs.Taking.{not_refused, push_passes}
use Rattle.lister.proofs.Carrying.{some_listed}
use Rattle.lister.proofs.Listing.list_some.Goals as goal
use Rattle.lister.proofs.Listing.list_some.Goals.{After-hand_out}

pub unwrap-called-requires : goal.unwrap-called-requires
unwrap-called-requires c =
    let m = c.args.self.now in
    let room = c.args.room.now in
    let done = push_passes m.progress.reader (length room) (length m.marks) m.good (omega arith) (omega arith) c.args.chunk.now c.requires.few in
    not_refused c.push.result (c.push.ensures.number_is ∙ done)

pub invariant_of-self : goal.invariant_of-self
invariant_of-self c =
    let m = c.args.self.now in
    record { good = push_few m.progress.reader c.args.chunk.now c.args.room.now m.marks _ _ _ _ m.good c.push.ensures }

pub tell-requires : goal.tell-requires
tell-requires c = omega (arith, gave_marks_fit (rw c.unwrap-called.ensures at c.push.ensures), c.push.auto.marks)

-- whatever the handing out came to
came_to : (c : After-hand_out) (r : Result ℕ Failure) → MatchResult r (λ n. n ≡ c.unwrap-called.result.taken) (λ e. e ≡ Write)
    → SomeListed c.args.chunk.now c.args.self.now.system.sent c.args.self.now.progress r c.hand_out.new.self.sent c.tell.new.self.progress
came_to c r =
    let m = c.args.self.now in
    let t = c.tell.ensures in
    some_listed m.progress c.tell.new.self.progress c.args.room.now m.marks t.tallied c.args.chunk.now m.good (omega arith) (omega arith)
    c.requires.in_bounds c.requires.few (rw (c.unwrap-called.ensures, sym t.reader) at c.push.ensures) (c.deref.ensures.0 ∙ t.text)
    (rw t.system at c.hand_out.ensures.handed_out.handed)

pub returns-in_err-hand_out-clause-some_listed : goal.returns-in_err-hand_out-clause-some_listed
returns-in_err-hand_out-clause-some_listed c = came_to (goal.at.returns-in_err-hand_out-clause-some_listed c).After-hand_out _ (search rules)

pub returns-clause-some_listed : goal.returns-clause-some_listed
returns-clause-some_listed c = came_to (goal.at.returns-clause-some_listed c).After-hand_out _ (search rules)
