use Rattle.std.proofs.Common.{◌≡◌, length}
use Rattle.lister.proofs.Along.{Along}
use Rattle.lister.proofs.Listing.list_chunk.Given as goal

abbrev pub invariant-loop-rest : goal.invariant-loop-rest
invariant-loop-rest l =
    record {
      along : Along l.chunk l.fn.self.system.sent l.fn.self.progress l.rest l.self.system.sent l.self.progress;
      read : l.self.system.read ≡ l.fn.self.system.read;
    }

abbrev pub decreases-loop-rest : goal.decreases-loop-rest
decreases-loop-rest l = length l.rest
