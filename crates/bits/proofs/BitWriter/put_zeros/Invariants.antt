use Rattle.std.proofs.Common.{◌≡◌}
use Rattle.bits.specs.Step.{wrote, stored}
use Rattle.bits.proofs.BitWriter.put_zeros.Given as goal

abbrev pub invariant-loop : goal.invariant-loop
invariant-loop l = wrote l.self l.out ≡ stored l.initial.out l.initial.self l.counter 0
