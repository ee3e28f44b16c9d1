use Rattle.std.proofs.Common.{ℕ, refl, sym}
use Rattle.bits.specs.Answer.{finish_rbsp}
use Rattle.bits.proofs.Entry.{entered, passed}
use Rattle.bits.proofs.Ones.{finish_behind}
use Rattle.bits.proofs.BitReader.finish_rbsp.Goals as goal

pub returns-in-Some : goal.returns-in-Some
unfolding finish_rbsp
returns-in-Some c =
    let s = c.args.s.now in
    let p = c.args.self.at.0 in
    let g = entered s p (sym c.in_ok-entry.ensures) in
    passed (λ (n : ℕ). n) _ _ c.in_ok-entry.ensures refl (sym (finish_behind s p g.within 4 c.in-Some.last.0 c.in-Some.ensures c.if-self-last.true))
