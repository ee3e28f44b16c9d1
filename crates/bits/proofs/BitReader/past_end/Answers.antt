use Rattle.std.proofs.Common.{ℕ, ltb, length, ap, ◌∙◌}
use Rattle.bits.proofs.Entry.{past_bytes}
use Rattle.bits.proofs.BitReader.past_end.Goals as goal

pub returns : goal.returns
returns c = let s = c.args.s.now in ap (λ (n : ℕ). ltb (length s) n) c.next_byte.ensures ∙ past_bytes s c.args.self.at.0
