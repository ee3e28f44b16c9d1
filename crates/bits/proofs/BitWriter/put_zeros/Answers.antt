use Rattle.std.proofs.Common.{◌+◌, ◌*◌, length, sym, ap, ◌∙◌, subst, arith}
use Rattle.bits.specs.Step.{stored_more, Wrote, GoodAfter}
use Rattle.bits.proofs.Storing.{stored_none, stored_more_lem, stored_good}
use Rattle.bits.proofs.BitWriter.put_zeros.Goals as goal

pub loop-init : goal.loop-init
loop-init c = let a = c.args in sym (stored_none a.out.now a.self.now c.requires.0.good)

pub put-requires : goal.put-requires
put-requires c =
    let a = c.args in
    let st = a.self.now in
    let l = c.loop in
    let room = c.requires.0.room in
    let h = subst (GoodAfter (length a.out.now) (8 * st.written.0 + (st.count + l.counter))) (sym l.invariant)
    (stored_good a.out.now st l.counter 0 c.requires.0.good.small (omega arith)) in
    let bits = h.2 in
    (record { good = rw h.0 h.1; room = rw h.0 (omega arith) }, omega arith, omega arith)

pub loop-preserved : goal.loop-preserved
loop-preserved c =
    let l = c.loop in
    let a = c.args in
    let room = c.requires.0.room in
    c.put.ensures
    ∙ ap (λ (r : Wrote). stored_more r 1 0) l.invariant
    ∙ stored_more_lem a.out.now a.self.now l.counter 0 1 0 (omega arith) (omega arith)
