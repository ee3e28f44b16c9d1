use Rattle.std.proofs.Common.{refl, rules}
use Rattle.lister.proofs.Along.{came_failed, chunk_over, read_failed, write_failed}
use Rattle.lister.proofs.Listing.list_all.Goals as goal

pub returns-in_err-n : goal.returns-in_err-n
returns-in_err-n c = read_failed c.loop.invariant.carries c.take_in.ensures.sent c.in_err-n.ensures.took_in (search rules)

pub returns-in_err-list_chunk : goal.returns-in_err-list_chunk
returns-in_err-list_chunk c =
    let o = c.in_err-list_chunk.ensures in
    rw o.read
    (write_failed c.loop.invariant.carries c.take_in.ensures.sent c.in_ok-n.ensures.took_in o.chunk_listed (search rules))

pub loop-preserved : goal.loop-preserved
loop-preserved c =
    let o = c.in_ok-list_chunk.ensures in
    record {
      carries = rw o.read (chunk_over c.loop.invariant.carries c.take_in.ensures.sent c.in_ok-n.ensures.took_in o.chunk_listed);
      chunk_long = search rules;
    }

pub returns : goal.returns
returns c = came_failed c.loop.invariant.carries refl
