-- Each byte kept is one more byte of the unescape; a byte that the step refuses is the tail's first break.
use Rattle.std.proofs.Common.{◌∙◌, sym, arith}
use Rattle.std.proofs.lemmas.Result.{err_from_is_err_and}
use Rattle.rbsp.proofs.Decoding.{surveying_none, surveying_all, survey_stops, survey_goes_on}
use Rattle.rbsp.proofs.nal.survey.Goals as goal

pub loop-i-init : goal.loop-i-init
loop-i-init c = surveying_none _

pub returns-in_err-s : goal.returns-in_err-s
returns-in_err-s c =
    let p = err_from_is_err_and c.from_residual.result c.from_residual.ensures.1 in
    rw (p.1, p.2) (survey_stops c.loop-i.invariant c.loop-i-test.true c.step.result c.step.ensures _ (sym c.ok_or.ensures.value ∙ c.in_err-s.was))

pub overflow_add-kept : goal.overflow_add-kept
overflow_add-kept c =
    let v = survey_goes_on c.loop-i.invariant c.loop-i-test.true c.step.result c.step.ensures c.in_ok-s.s
    (sym c.ok_or.ensures.value ∙ c.in_ok-s.was) in
    omega (arith, v.few)

pub loop-i-preserved : goal.loop-i-preserved
loop-i-preserved c =
    survey_goes_on c.loop-i.invariant c.loop-i-test.true c.step.result c.step.ensures c.in_ok-s.s (sym c.ok_or.ensures.value ∙ c.in_ok-s.was)

pub returns : goal.returns
returns c = surveying_all c.loop-i.invariant c.loop-i-test.false
