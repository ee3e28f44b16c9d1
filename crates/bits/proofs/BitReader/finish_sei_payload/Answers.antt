use Rattle.std.proofs.Common.{ℕ, refl, sym, ◌*◌, length}
use Rattle.std.proofs.lemmas.Bool.{ne_eqb}
use Rattle.bits.specs.Answer.{finish_sei}
use Rattle.bits.proofs.Entry.{entered, passed}
use Rattle.bits.proofs.Ones.{finish_not_here}
use Rattle.bits.proofs.BitReader.finish_sei_payload.Goals as goal

pub returns : goal.returns
unfolding finish_sei
returns c =
    let s = c.args.s.now in
    let at = c.args.self.at in
    let g = entered s at.0 (sym c.in_ok-entry.ensures) in
    passed (λ (n : ℕ). n) _ _ c.in_ok-entry.ensures refl
    (simp (ne_eqb at.0 (8 * length s) c.if-self-s.false)
    (sym (finish_not_here s at.0 g.within c.last_one.result at refl c.last_one.ensures c.if-eq.ensures)))
