use Rattle.std.proofs.Common.{◌≡◌, ◌*◌}
use Rattle.bits.specs.Rule.{value_at}
use Rattle.bits.proofs.places.gather.Given as goal

-- the bytes that were taken, as one number
abbrev pub invariant-loop-b : goal.invariant-loop-b
invariant-loop-b l = l.all ≡ value_at l.bytes 0 (8 * l.b-index)
