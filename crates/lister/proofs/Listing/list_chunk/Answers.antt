use Rattle.std.proofs.Common.{rules}
use Rattle.lister.proofs.Along.{along_failed}
use Rattle.lister.proofs.Listing.list_chunk.Goals as goal

pub returns-in_err-taken-clause-chunk_listed : goal.returns-in_err-taken-clause-chunk_listed
returns-in_err-taken-clause-chunk_listed c =
    along_failed c.loop-rest.invariant.along _ c.in_err-taken.ensures.some_listed (search rules)
