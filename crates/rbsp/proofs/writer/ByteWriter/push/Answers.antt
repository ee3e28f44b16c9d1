-- A refusal of the entry checks, and what the run gives.
use Rattle.std.proofs.lemmas.Result.{err_from_is_err_and}
use Rattle.rbsp.proofs.Pushing.{write_refused, write_done, write_ran}
use Rattle.rbsp.proofs.writer.ByteWriter.push.Goals as goal

pub returns-in_err-entry : goal.returns-in_err-entry
returns-in_err-entry c =
    let p = err_from_is_err_and c.from_residual.result c.from_residual.ensures.1 in
    rw (p.1, p.2) (write_refused c.args.self.now c.args.chunk.now c.args.out.now c.in_err-entry.field-0.0 c.in_err-entry.ensures)

pub unwrap-requires : goal.unwrap-requires
unwrap-requires c =
    let r = c.run-pushed in write_done c.args.self.now c.args.chunk.now c.args.out.now r.new.state r.new.room r.new.marks r.result r.ensures

pub returns : goal.returns
returns c =
    let r = c.run-pushed in
    write_ran c.args.self.now c.args.chunk.now c.args.out.now r.new.state r.new.room r.new.marks c.in_ok-entry.ensures r.auto.marks c.unwrap.result
    (rw c.unwrap.ensures at r.ensures)
