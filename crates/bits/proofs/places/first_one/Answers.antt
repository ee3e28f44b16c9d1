use Rattle.std.proofs.Common.{ℕ, List, ◌≡◌, ◌+◌, ◌-◌, ◌*◌, ◌%◌, get_or, EachIndex, arith, subst, sym, ap, ◌∙◌}
use Rattle.std.proofs.lemmas.List.{take_rest}
use Rattle.bits.specs.Rule.{value_at}
use Rattle.bits.specs.Step.{place, FirstNonzero}
use Rattle.bits.proofs.Value.{value_byte_lt}
use Rattle.bits.proofs.Ones.{first_top, first_behind, no_first, no_first_at_end}
use Rattle.bits.proofs.places.first_one.Goals as goal

pub returns-then-holder-s : goal.returns-then-holder-s
returns-then-holder-s c = no_first_at_end c.args.s.now c.args.at.0 (omega arith)

-- the rest of a byte is at most 8 bits
pub overflow_cast-head : goal.overflow_cast-head
overflow_cast-head c =
    let small = value_byte_lt c.args.s.now c.args.at.0 (8 - c.args.at.0 % 8) (omega arith) in
    omega arith

pub returns-then-head-ne0 : goal.returns-then-head-ne0
returns-then-head-ne0 c =
    let s = c.args.s.now in
    let p = c.args.at.0 in
    let i = c.holder-holder.result.0 in
    let m = 8 - p % 8 in
    let n : m ≡ 8 * i + 8 - p = omega arith in
    let small = value_byte_lt s p m (omega arith) in
    first_top s p i c.top_place.result.0 c.bits_at-head.result (omega arith) (omega arith)
    (c.bits_at-head.ensures ∙ ap (value_at s p) n) (omega arith) (omega arith) c.top_place.ensures

-- and zeros stand before the byte behind it
pub returns-in_err-i : goal.returns-in_err-i
returns-in_err-i c =
    let s = c.args.s.now in
    let p = c.args.at.0 in
    let f = c.holder-holder.result.0 + 1 in
    let n : 8 * f - p ≡ 8 - p % 8 = omega arith in
    ap place c.from_residual.ensures
    ∙ no_first s p f (omega arith) (omega arith) (ap (value_at s p) n ∙ sym c.bits_at-head.ensures ∙ c.if-head-ne0.false)
    (subst (λ (l : List ℕ). EachIndex l (λ k. get_or l k 0 ≡ 0)) (take_rest s f) c.in_err-i.ensures)

pub returns : goal.returns
returns c =
    let s = c.args.s.now in
    let p = c.args.at.0 in
    let f = c.holder-holder.result.0 + 1 in
    let i = c.in_ok-i.field-0 in
    let n : 8 * f - p ≡ 8 - p % 8 = omega arith in
    first_behind s p f i c.top_place-2.result.0 (omega arith) (ap (value_at s p) n ∙ sym c.bits_at-head.ensures ∙ c.if-head-ne0.false)
    (subst (λ (l : List ℕ). FirstNonzero l i) (take_rest s f) c.in_ok-i.ensures) (c.type_inv.s (f + i)).fits c.top_place-2.ensures
