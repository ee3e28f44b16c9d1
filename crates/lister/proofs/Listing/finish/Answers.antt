use Rattle.std.proofs.Common.{◌≤◌, length, sym, subst, arith, ◌∙◌}
use Rattle.desk.proofs.Cutting.{gave_marks_fit}
use Rattle.annexb.specs.declared.AnnexBReader.{AnnexBReader}
use Rattle.lister.proofs.Taking.{not_refused, reset_passes, stays_good}
use Rattle.lister.proofs.Carrying.{lists_end}
use Rattle.lister.proofs.Listing.finish.Goals as goal

pub unwrap-called-requires : goal.unwrap-called-requires
unwrap-called-requires c =
    let m = c.args.self.now in
    not_refused c.reset.result
    (c.reset.ensures.number_is ∙ reset_passes m.progress.reader (length c.args.room.now) (length m.marks) m.good (omega arith) (omega arith))

pub invariant_of-self : goal.invariant_of-self
invariant_of-self c =
    let m = c.args.self.now in
    let few = stays_good m.progress.reader (length c.args.room.now) (length m.marks) m.good (omega arith) (omega arith) in
    record { good = subst (λ (s : AnnexBReader). s.zeros ≤ 2) (sym c.reset.ensures.state_is) few }

pub tell-requires : goal.tell-requires
tell-requires c = omega (arith, gave_marks_fit (rw c.unwrap-called.ensures at c.reset.ensures), c.reset.auto.marks)

pub total_line-requires : goal.total_line-requires
total_line-requires c = omega (arith, c.tell.ensures.few, gave_marks_fit (rw c.unwrap-called.ensures at c.reset.ensures), c.reset.auto.marks)

pub returns-clause-finishes : goal.returns-clause-finishes
returns-clause-finishes c =
    let m = c.args.self.now in
    let t = c.tell.ensures in
    lists_end m.progress c.tell.new.self.progress c.args.room.now m.marks t.tallied c.tell.new.self.text.items
    (rw c.unwrap-called.ensures at c.reset.ensures) t.text (c.deref.ensures.0 ∙ c.total_line.ensures)
    (rw t.system at c.hand_out.ensures.handed_out.handed)
