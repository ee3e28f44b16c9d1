use Rattle.std.proofs.lemmas.Result.{err_from_is_err_and}
use Rattle.desk.proofs.Running.{push_gave, gave_refused, always_done}
use Rattle.annexb.specs.Step.{stepping}
use Rattle.annexb.proofs.Laws.{none_forbidden}
use Rattle.annexb.proofs.AnnexBReader.push.Goals as goal

pub returns-in_err-entry : goal.returns-in_err-entry
returns-in_err-entry c =
    let p = err_from_is_err_and c.from_residual.result c.from_residual.ensures.1 in
    rw (p.1, p.2)
    (gave_refused stepping c.args.self.now c.args.chunk.now c.args.room.now c.args.marks.now _ c.in_err-entry.field-0.0 c.in_err-entry.ensures)

pub unwrap-pushed-requires : goal.unwrap-pushed-requires
unwrap-pushed-requires c = always_done stepping _ _ _ _ none_forbidden _ _ _ _ c.run.ensures

pub returns : goal.returns
returns c =
    push_gave stepping c.args.self.now c.args.chunk.now c.args.room.now c.args.marks.now _ c.in_ok-entry.ensures
    (rw c.unwrap-pushed.ensures at c.run.ensures)
