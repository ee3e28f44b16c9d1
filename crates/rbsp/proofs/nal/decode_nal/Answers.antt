-- The refusals in their order, by what the entry checks and the first pass tell.
use Rattle.std.proofs.Common.{◌∙◌, sym, ◌+◌, rules}
use Rattle.std.proofs.lemmas.Result.{err_from_is_err_and}
use Rattle.rbsp.specs.declared.nal.Undecoded.TheVariants.{TooLong, Forbidden}
use Rattle.rbsp.proofs.Mapping.{mapped}
use Rattle.rbsp.proofs.Decoding.{says_long, says_empty, says_forbidden, fillable}
use Rattle.rbsp.proofs.nal.decode_nal.Goals as goal

pub returns-in_err-map_err : goal.returns-in_err-map_err
returns-in_err-map_err c =
    let p = err_from_is_err_and c.from_residual.result c.from_residual.ensures.1 in
    let m = mapped (λ _. TooLong) c.entry.result c.map_err.result _ c.map_err.ensures.cases (λ e d k. search rules) in
    rw (p.1, p.2) (says_long c.args.nal.now c.args.room.now c.entry.result c.entry.ensures c.in_err-map_err.field-0.0 (sym c.in_err-map_err.was ∙ m))

pub returns-in_err-tail : goal.returns-in_err-tail
returns-in_err-tail c =
    let p = err_from_is_err_and c.from_residual-in_err-tail.result c.from_residual-in_err-tail.ensures.1 in
    let m = mapped (λ _. TooLong) c.entry.result c.map_err.result _ c.map_err.ensures.cases (λ e d k. search rules) in
    rw (p.1, p.2) (says_empty c.args.nal.now c.args.room.now c.entry.result c.entry.ensures c.in_ok-map_err.field-0 (sym c.in_ok-map_err.was ∙ m)
    c.split_first.result c.split_first.ensures.cases c.in_err-tail.field-0.0 c.in_err-tail.ensures.value)

pub returns-in_err-kept : goal.returns-in_err-kept
returns-in_err-kept c =
    let p = err_from_is_err_and c.from_residual-in_err-kept.result c.from_residual-in_err-kept.ensures.1 in
    let m = mapped (λ _. TooLong) c.entry.result c.map_err.result _ c.map_err.ensures.cases (λ e d k. search rules) in
    let k = mapped (λ i. Forbidden (i + 1)) c.survey.result c.map_err-2.result _ c.map_err-2.ensures.cases (λ e d k. search rules) in
    rw (p.1, p.2) (says_forbidden c.args.nal.now c.args.room.now c.entry.result c.entry.ensures c.in_ok-map_err.field-0
    (sym c.in_ok-map_err.was ∙ m) c.split_first.result c.split_first.ensures.cases c.in_ok-tail.field-0-0 c.in_ok-tail.tail
    c.in_ok-tail.ensures.value c.survey.result c.survey.ensures c.in_err-kept.field-0.0 (sym c.in_err-kept.was ∙ k))

pub fill-requires : goal.fill-requires
fill-requires c =
    let m = mapped (λ _. TooLong) c.entry.result c.map_err.result _ c.map_err.ensures.cases (λ e d k. search rules) in
    let k = mapped (λ i. Forbidden (i + 1)) c.survey.result c.map_err-2.result _ c.map_err-2.ensures.cases (λ e d k. search rules) in
    fillable c.args.nal.now c.args.room.now c.entry.result c.entry.ensures c.in_ok-map_err.field-0 (sym c.in_ok-map_err.was ∙ m)
    c.split_first.result c.split_first.ensures.cases c.in_ok-tail.field-0-0 c.in_ok-tail.tail c.in_ok-tail.ensures.value
    c.survey.result c.survey.ensures c.in_ok-kept.kept (sym c.in_ok-kept.was ∙ k)
