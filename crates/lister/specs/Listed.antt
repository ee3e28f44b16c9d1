-- WHERE A LISTING STANDS: what was read, what was handed to writing, and that the one is the text of the other.
use Rattle.std.specs.Prelude.{◌≡◌, ℕ, ◌≤◌, ◌⊎◌, List, [], ◌++◌, length, drop, Result, Ok, Err, MatchResult}
use Rattle.annexb.specs.Rule.{frame, units_at_reset}
use Rattle.counting.specs.Listing.{Listing}
use Rattle.lister.specs.declared.Progress.{Progress}
use Rattle.lister.specs.Text.{lines_by, modulo, unit_lines_told, listing_told}
use Rattle.lister.specs.declared.system.Failure.{Failure}
use Rattle.lister.specs.declared.system.Failure.TheVariants.{Read, Write}
use Rattle.lister.specs.System.{WasRead, WasSent, Ended}

-- the bytes `waiting` are read and not yet listed; all before them are listed by pushes and tallies, and the lines of the lengths told
-- are all the text
pub record Carries (waiting : List ℕ) (read sent : ℕ) (p : Progress) : Type 0 where
  pub taken : List ℕ
  pub given : List ℕ
  pub ends : List ℕ
  pub lengths : List ℕ
  pub listing : Listing taken p.reader given ends p.tally lengths
  pub was_read : WasRead (taken ++ waiting) read
  pub was_sent : WasSent (lines_by modulo 0 lengths) sent

-- THE FIRST `taken` BYTES OF A CHUNK ARE LISTED: whatever was listed before, they are behind it, none lost and none twice, and so are their lines
abbrev pub Lists : List ℕ → ℕ → Progress → ℕ → ℕ → Progress → Type 0
Lists chunk sent p taken sent' p' = (read : ℕ) → Carries chunk read sent p → Carries (drop taken chunk) read sent' p'

-- some of a chunk is listed, and so much is answered, unless its lines could not be written
pub record SomeListed (chunk : List ℕ) (sent : ℕ) (p : Progress) (r : Result ℕ Failure) (sent' : ℕ) (p' : Progress) : Type 0 where
  pub taken : ℕ
  pub some_taken : 1 ≤ taken
  pub taken_few : taken ≤ length chunk
  pub lists : Lists chunk sent p taken sent' p'
  pub came_to : MatchResult r (λ n. n ≡ taken) (λ e. e ≡ Write)

-- a chunk is listed: all of it, unless a write failed
pub record ChunkListed (chunk : List ℕ) (sent : ℕ) (p : Progress) (r : Result (Unit {0}) Failure) (sent' : ℕ) (p' : Progress) : Type 0 where
  pub taken : ℕ
  pub lists : Lists chunk sent p taken sent' p'
  pub came_to : MatchResult r (λ _. taken ≡ length chunk) (λ e. e ≡ Write)

-- ALL THAT WAS READ IS LISTED, TO THE TOTAL
pub record WholeText (read sent : ℕ) : Type 0 where
  pub bytes : List ℕ
  pub was_read : WasRead bytes read
  pub was_sent : WasSent (listing_told (units_at_reset bytes)) sent

abbrev pub Finishes : ℕ → Progress → ℕ → Type 0
Finishes sent p sent' = (read : ℕ) → Carries [] read sent p → WholeText read sent'

-- THE LISTING IS BROKEN OFF: the lines of the units that ended in the bytes listed, and no total; `waiting` was read and is not listed
pub record PartText (waiting : List ℕ) (read sent : ℕ) : Type 0 where
  pub listed : List ℕ
  pub was_read : WasRead (listed ++ waiting) read
  pub was_sent : WasSent (unit_lines_told (frame listed).closed) sent

-- WHAT A WHOLE LISTING COMES TO. At the end of the input: the text of the rule's units of all that was read. Where a read failed: the lines of
-- the units that ended in all that was read, and no total. Where a write failed, at whatever text: what was handed to it was right.
pub record ListingCameTo (read sent : ℕ) (r : Result (Unit {0}) Failure) : Type 0 where
  pub at_end : r ≡ Ok tt → Ended read × WholeText read sent
  pub after_read_failed : r ≡ Err Read → PartText [] read sent
  pub after_write_failed : r ≡ Err Write → (WholeText read sent) ⊎ ((waiting : List ℕ) × PartText waiting read sent)
