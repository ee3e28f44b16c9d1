-- A refusal of the entry checks, and what the run gives.
use Rattle.std.proofs.Common.{◌∙◌, ap, length, [], ◌∷◌, rules}
use Rattle.std.proofs.lemmas.Result.{err_from_is_err_and}
use Rattle.desk.specs.Numbers.{entry_of}
use Rattle.rbsp.specs.declared.reader.Stopped.TheVariants.{Forbidden}
use Rattle.rbsp.proofs.Mapping.{mapped}
use Rattle.rbsp.proofs.Pushing.{read_refused, read_ran}
use Rattle.rbsp.proofs.reader.ByteReader.push.Goals as goal

pub returns-in_err-entry : goal.returns-in_err-entry
returns-in_err-entry c =
    let p = err_from_is_err_and c.from_residual.result c.from_residual.ensures.1 in
    let ns = length c.args.chunk.now ∷ length c.args.out.now ∷ 0 ∷ [] in
    rw (p.1, p.2) (read_refused c.args.self.now.state c.args.chunk.now c.args.out.now c.in_err-entry.field-0.0
    (c.in_err-entry.ensures ∙ ap (entry_of ns) c.is_bad.ensures))

pub returns : goal.returns
returns c =
    let ns = length c.args.chunk.now ∷ length c.args.out.now ∷ 0 ∷ [] in
    let r = c.run-pushed in
    read_ran c.args.self.now.state c.args.chunk.now c.args.out.now (c.in_ok-entry.ensures ∙ ap (entry_of ns) c.is_bad.ensures)
    r.new.state r.new.room r.new.marks r.auto.marks r.result c.map_err.result r.ensures
    (mapped Forbidden r.result c.map_err.result _ c.map_err.ensures.cases (λ p d k. search rules))
