use Rattle.std.proofs.Common.{ℕ, ◌≡◌, ◌+◌, ◌-◌, ◌*◌, ◌/◌, ◌%◌, ◌^◌, length, take, drop, arith, length-drop, ap, ◌∙◌}
use Rattle.std.proofs.Math.Seq.{length-take-le}
use Rattle.bits.specs.Rule.{value_at}
use Rattle.bits.proofs.Value.{value_cut_part, masked}
use Rattle.bits.proofs.places.bits_at.Goals as goal

pub returns : goal.returns
returns c =
    let a = c.args in
    let s = a.s.now in
    let from = c.holder.result.0 in
    let to = c.next_byte-to.result.0 in
    let r = 8 * to - (a.at.0 + a.n) in
    let held = take (to - from) (drop from s) in
    let long : length held ≡ to - from = length-take-le (to - from) (drop from s) (simp length-drop (omega arith)) in
    masked 64 (c.gather-all.result / 2 ^ r) a.n (omega arith)
    ∙ ap (λ (x : ℕ). x / 2 ^ r % 2 ^ a.n) (c.gather-all.ensures ∙ ap (λ (k : ℕ). value_at held 0 (8 * k)) long)
    ∙ value_cut_part s a.at.0 a.n from to r (omega arith) (omega arith)
