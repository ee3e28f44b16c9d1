-- A chunk, piece by piece, and the whole input, chunk by chunk.
use Rattle.std.proofs.Common.{◌≡◌, ℕ, ◌+◌, ◌≤◌, List, [], ◌++◌, length, take, drop, Result, Ok, Err}
use Rattle.std.proofs.Common.{sym, refl, ap, ◌∙◌, subst, inr, arith, length-drop, drop-drop, append_assoc}
use lib.Seq.{drop-length}
use Rattle.lister.specs.declared.Progress.{Progress}
use Rattle.lister.specs.declared.system.Failure.{Failure}
use Rattle.lister.specs.declared.system.Failure.TheVariants.{Read, Write}
use Rattle.lister.specs.Text.{lines_by, modulo}
use Rattle.lister.specs.System.{WasRead, WasSent, TookIn, came}
use Rattle.lister.specs.Listed.{Carries, SomeListed, ChunkListed, Lists, ListingCameTo}
use Rattle.lister.proofs.Carrying.{part_told}

-- what is left of a chunk, behind the bytes that are listed
pub record Along (chunk : List ℕ) (sent₀ : ℕ) (p₀ : Progress) (rest : List ℕ) (sent : ℕ) (p : Progress) : Type 0 where
  pub listed : ℕ
  pub within : listed ≤ length chunk
  pub rest_is : rest ≡ drop listed chunk
  pub lists : Lists chunk sent₀ p₀ listed sent p

module _ {chunk rest : List ℕ} {sent₀ sent sent' : ℕ} {p₀ p p' : Progress} (a : Along chunk sent₀ p₀ rest sent p) where
  -- behind a piece
  further : {taken : ℕ} → taken ≤ length rest → Lists rest sent p taken sent' p' → Along chunk sent₀ p₀ (drop taken rest) sent' p'
  further {taken} few l =
      let next : drop taken rest ≡ drop (a.listed + taken) chunk = ap (drop taken) a.rest_is ∙ drop-drop taken a.listed chunk in
      record {
        listed = a.listed + taken;
        within = omega (arith, a.within, few, ap length a.rest_is, length-drop a.listed chunk);
        rest_is = next;
        lists = λ read k.
            let so_far = subst (λ (x : List ℕ). Carries x read sent p) (sym a.rest_is) (a.lists read k) in
            subst (λ (x : List ℕ). Carries x read sent' p') next (l read so_far);
      }

  pub along_failed : (came : Result (Unit {0}) Failure) {e : Failure} → SomeListed rest sent p (Err e) sent' p' → came ≡ Err Write
      → ChunkListed chunk sent₀ p₀ came sent' p'
  along_failed came s q =
      let f = further s.taken_few s.lists in
      subst (λ (r : Result (Unit {0}) Failure). ChunkListed chunk sent₀ p₀ r sent' p') (sym q)
      (record { taken = f.listed; lists = f.lists; came_to = refl })

-- ---- the input

pub came_failed : {read sent : ℕ} {p : Progress} {r : Result (Unit {0}) Failure} → Carries [] read sent p → r ≡ Err Read → ListingCameTo read sent r
came_failed k q = record { at_end = λ z. cc; after_read_failed = λ _. part_told k; after_write_failed = λ z. cc }

module _ {chunk : List ℕ} {read read' sent₀ sent : ℕ} {p : Progress} (k : Carries [] read sent₀ p) (kept : sent ≡ sent₀) where
  -- what a read gave waits
  waits : {got : Result ℕ Failure} → TookIn chunk read got read' → Carries (take (came got) chunk) read' sent p
  waits {got} o =
      let all : (k.taken ++ []) ++ take (came got) chunk ≡ k.taken ++ take (came got) chunk = append_assoc k.taken [] (take (came got) chunk) in
      record {
        taken = k.taken;
        given = k.given;
        ends = k.ends;
        lengths = k.lengths;
        listing = k.listing;
        was_read = subst (λ (l : List ℕ). WasRead l read') all (o.gave (k.taken ++ []) k.was_read);
        was_sent = subst (λ (n : ℕ). WasSent (lines_by modulo 0 k.lengths) n) (sym kept) k.was_sent;
      }

  -- a chunk of it is listed
  pub chunk_over : {n sent' : ℕ} {p' : Progress} → TookIn chunk read (Ok n) read' → ChunkListed (take n chunk) sent p (Ok tt) sent' p'
      → Carries [] read' sent' p'
  chunk_over {n} {sent'} {p'} o a =
      let none_left : drop a.taken (take n chunk) ≡ [] = ap (λ (j : ℕ). drop j (take n chunk)) a.came_to ∙ drop-length (take n chunk) in
      subst (λ (l : List ℕ). Carries l read' sent' p') none_left (a.lists read' (waits o))

  -- a read failed
  pub read_failed : {e : Failure} {r : Result (Unit {0}) Failure} → TookIn chunk read (Err e) read' → r ≡ Err Read → ListingCameTo read' sent r
  read_failed o q = came_failed (waits o) q

  -- a write failed
  pub write_failed : {n sent' : ℕ} {e : Failure} {p' : Progress} {r : Result (Unit {0}) Failure} → TookIn chunk read (Ok n) read'
      → ChunkListed (take n chunk) sent p (Err e) sent' p' → r ≡ Err Write → ListingCameTo read' sent' r
  write_failed o a q =
      record {
        at_end = λ z. cc;
        after_read_failed = λ z. cc;
        after_write_failed = λ _. inr (_, part_told (a.lists read' (waits o)));
      }
