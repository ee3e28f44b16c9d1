use Rattle.lister.proofs.Carrying.{carries_first}
use Rattle.lister.proofs.Listing.new.Goals as goal

pub returns : goal.returns
returns c = rw (c.new.ensures.read, c.new.ensures.sent) (carries_first c.new-2.ensures c.new-3.ensures)
