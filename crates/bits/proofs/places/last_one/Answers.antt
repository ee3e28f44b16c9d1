use Rattle.std.proofs.Common.{get_or, arith, ap, ◌∙◌}
use Rattle.bits.specs.Step.{place, LastNonzero}
use Rattle.bits.proofs.Ones.{no_last, last_in}
use Rattle.bits.proofs.Trailing.{trailing_byte}
use Rattle.bits.proofs.places.last_one.Goals as goal

pub returns-in_err-i : goal.returns-in_err-i
returns-in_err-i c = ap place c.from_residual.ensures ∙ no_last c.args.s.now c.in_err-i.ensures

-- a byte that is not zero has fewer than 8 zeros at its end
pub overflow_sub-result : goal.overflow_sub-result
overflow_sub-result c =
    let s = c.args.s.now in
    let i = c.in_ok-i.i in
    let l : LastNonzero s i = c.in_ok-i.ensures in
    omega (arith, trailing_byte (get_or s i 0) l.nonzero (c.type_inv.s i).fits)

pub returns : goal.returns
returns c = last_in c.args.s.now c.in_ok-i.i c.in_ok-i.ensures (c.type_inv.s c.in_ok-i.i).fits
