use Rattle.std.proofs.Common.{◌≡◌, [], length}
use Rattle.lister.specs.Listed.{Carries}
use Rattle.lister.specs.declared.TheConstants.{ROOM}
use Rattle.lister.proofs.Listing.list_all.Given as goal

abbrev pub invariant-loop : goal.invariant-loop
invariant-loop l = record { carries : Carries [] l.self.system.read l.self.system.sent l.self.progress; chunk_long : length l.chunk ≡ ROOM }
