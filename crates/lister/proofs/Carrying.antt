-- Where a listing stands: at the start, after a push whose lines are handed out, along a chunk, and after the reset at the end.
use Rattle.std.proofs.Common.{◌≡◌, ℕ, ◌+◌, ◌%◌, ◌≤◌, List, [], ◌++◌, length, take, drop, Result, Ok, MatchResult}
use Rattle.std.proofs.Common.{sym, ap, ◌∙◌, subst, ap₂, append_assoc, append-nil, arith, take-append-drop}
use lib.ListN.{length-map}
use Rattle.desk.specs.Numbers.{most}
use Rattle.desk.specs.declared.push.Pushed.{Pushed}
use Rattle.annexb.specs.declared.AnnexBReader.{AnnexBReader}
use Rattle.annexb.specs.Rule.{frame, units_at_reset}
use Rattle.annexb.specs.Seen.{new}
use Rattle.annexb.specs.Answer.{FramePush, FrameReset}
use Rattle.counting.specs.declared.Tally.{Tally}
use Rattle.counting.specs.Tally.{wrap, nothing, Tallied}
use Rattle.counting.specs.Listing.{Listing}
use Rattle.counting.proofs.Counting.{listing_rule, listing_reset}
use Rattle.lister.specs.declared.Progress.{Progress}
use Rattle.lister.specs.Text.{lines_by, modulo, total_line, listing_told}
use Rattle.lister.specs.System.{WasRead, WasSent, through_none}
use Rattle.lister.specs.declared.system.Failure.{Failure}
use Rattle.lister.specs.declared.system.Failure.TheVariants.{Write}
use Rattle.lister.specs.Listed.{Carries, SomeListed, Lists, Finishes, PartText}
use Rattle.lister.proofs.Taking.{takes_one, takes_few}
use Rattle.lister.proofs.Lines.{lines_append, lines_modulo}

pub carries_first : {s : AnnexBReader} {t : Tally} → s ≡ new → t ≡ nothing → Carries [] 0 0 (record { reader = s; tally = t })
carries_first es et =
    record {
      taken = [];
      given = [];
      ends = [];
      lengths = [];
      listing = rw (es, et) Listing.none_yet;
      was_read = through_none 0;
      was_sent = through_none 1;
    }

-- the tally's number of units is the index of the next
next_index : {h : List ℕ} {s : AnnexBReader} {g e : List ℕ} {t : Tally} {told : List ℕ} → Listing h s g e t told
    → t.units % wrap ≡ (0 + length told) % wrap
next_index {h} {told = told} l =
    let c = listing_rule l in
    let us = (frame h).closed in
    let n : length told ≡ length us = ap length c.lengths_told ∙ length-map us (λ (u : List ℕ). length u % wrap) in
    omega (arith, c.units_told, n)

-- the lines of the next lengths stand behind those told
next_lines : {h : List ℕ} {s : AnnexBReader} {g e : List ℕ} {t : Tally} {told : List ℕ} → Listing h s g e t told → (ns : List ℕ)
    → lines_by modulo 0 told ++ lines_by modulo t.units ns ≡ lines_by modulo 0 (told ++ ns)
next_lines {t = t} {told = told} l ns =
    ap (λ (x : List ℕ). lines_by modulo 0 told ++ x) (lines_modulo t.units (0 + length told) (next_index l) ns)
    ∙ sym (lines_append modulo 0 told ns)

-- what was handed out behind all that was told
abbrev pub Hands : List ℕ → ℕ → ℕ → Type 0
Hands text sent sent' = (w : List ℕ) → WasSent w sent → WasSent (w ++ text) sent'

-- a call of the reader, the tally of its marks, their lines, and the handing out
module _ (p p' : Progress) (room marks : List ℕ) {room' marks' marks'' : List ℕ} {r : Pushed} {text : List ℕ} {sent sent' : ℕ}
    (d : Tallied p.tally marks' r.marked r.written marks'' p'.tally) where
  lists_push : (chunk : List ℕ) → FramePush p.reader chunk room marks p'.reader room' marks' (Ok r)
      → text ≡ lines_by modulo p.tally.units (take r.marked marks'') → Hands text sent sent'
      → Lists chunk sent p r.taken sent' p'
  lists_push chunk o q hands read k =
      let ns = take r.marked marks'' in
      let n = r.taken in
      let all : (k.taken ++ take n chunk) ++ drop n chunk ≡ k.taken ++ chunk =
      append_assoc k.taken (take n chunk) (drop n chunk) ∙ ap (λ (l : List ℕ). k.taken ++ l) (take-append-drop n chunk) in
      record {
        taken = _;
        given = _;
        ends = _;
        lengths = _;
        listing = Listing.pushed k.listing chunk room marks p'.reader room' marks' marks'' (Ok r) p'.tally o d;
        was_read = subst (λ (l : List ℕ). WasRead l read) (sym all) k.was_read;
        was_sent =
            subst (λ (l : List ℕ). WasSent l sent') (ap (λ (l : List ℕ). lines_by modulo 0 k.lengths ++ l) q ∙ next_lines k.listing ns)
            (hands (lines_by modulo 0 k.lengths) k.was_sent);
      }

  -- a push: what it comes to, by what the handing out did
  pub some_listed : (chunk : List ℕ) {came : Result ℕ Failure} → p.reader.zeros ≤ 2 → length room ≡ 65536 → length marks ≡ 1024
      → 1 ≤ length chunk → length chunk ≤ most → FramePush p.reader chunk room marks p'.reader room' marks' (Ok r)
      → text ≡ lines_by modulo p.tally.units (take r.marked marks'') → Hands text sent sent'
      → MatchResult came (λ n. n ≡ r.taken) (λ e. e ≡ Write) → SomeListed chunk sent p came sent' p'
  some_listed chunk good er em h few o q hands came_to =
      record {
        taken = r.taken;
        some_taken = omega (arith, o.taken_is, takes_one p.reader (length room) (length marks) good er em chunk h few);
        taken_few = omega (arith, o.taken_is, takes_few p.reader (length room) (length marks) good er em chunk few);
        lists = lists_push chunk o q hands;
        came_to = came_to;
      }

  -- the reset at the end, and the total behind its line
  pub lists_end : (lines : List ℕ) {s' : AnnexBReader} → FrameReset p.reader room marks s' room' marks' (Ok r)
      → lines ≡ lines_by modulo p.tally.units (take r.marked marks'') → text ≡ lines ++ total_line p'.tally.units → Hands text sent sent'
      → Finishes sent p sent'
  lists_end lines {s'} o q qt hands read k =
      let ns = take r.marked marks'' in
      let told = k.lengths in
      let c = listing_reset k.listing room marks s' room' marks' marks'' r p'.tally o d in
      let all : lines_by modulo 0 told ++ text ≡ listing_told (units_at_reset k.taken) =
      ap (λ (l : List ℕ). lines_by modulo 0 told ++ l) (qt ∙ ap (λ (l : List ℕ). l ++ total_line p'.tally.units) q)
      ∙ sym (append_assoc (lines_by modulo 0 told) (lines_by modulo p.tally.units ns) (total_line p'.tally.units))
      ∙ ap₂ (λ (x : List ℕ) (n : ℕ). x ++ total_line n) (next_lines k.listing ns ∙ ap (lines_by modulo 0) c.lengths_told) c.units_told in
      record {
        bytes = k.taken;
        was_read = subst (λ (l : List ℕ). WasRead l read) (append-nil k.taken) k.was_read;
        was_sent = subst (λ (l : List ℕ). WasSent l sent') all (hands (lines_by modulo 0 told) k.was_sent);
      }

-- WHAT IS TOLD SO FAR ARE THE LINES OF THE RULE'S UNITS THAT ENDED
pub part_told : {waiting : List ℕ} {read sent : ℕ} {p : Progress} → Carries waiting read sent p → PartText waiting read sent
part_told {waiting} {read} {sent} k =
    let lines = ap (lines_by modulo 0) (listing_rule k.listing).lengths_told in
    record { listed = k.taken; was_read = k.was_read; was_sent = subst (λ (l : List ℕ). WasSent l sent) lines k.was_sent }
