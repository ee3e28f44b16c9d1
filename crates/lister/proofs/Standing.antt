-- There is a listing of every stream: so no law here speaks of nothing.
use Rattle.std.proofs.Common.{◌≡◌, ℕ, List, [], length, sym, refl, subst, append-nil, arith}
use Rattle.counting.proofs.Existing.{Exists, every_stream}
use Rattle.lister.specs.declared.Progress.{Progress}
use Rattle.lister.specs.Text.{lines_by, modulo}
use Rattle.lister.specs.System.{Through, WasRead, through_none, through_more}
use Rattle.lister.specs.Listed.{Carries}

-- the bytes l have gone through the descriptor fd at once
at_once : (fd : ℕ) (l : List ℕ) → Through fd l (length l)
at_once fd l = through_more fd [] l 0 (length l) (through_none fd) (omega arith)

pub record ListedAll (h : List ℕ) : Type 0 where
  pub read : ℕ
  pub sent : ℕ
  pub progress : Progress
  pub carries : Carries [] read sent progress
  pub all : carries.taken ≡ h

pub every_listed : (h : List ℕ) → ListedAll h
every_listed h =
    let x : Exists h = every_stream h in
    record {
      read = length h;
      sent = length (lines_by modulo 0 x.told);
      progress = record { reader = x.state; tally = x.tally };
      carries =
          record {
            taken = h;
            given = x.given;
            ends = x.ends;
            lengths = x.told;
            listing = x.listing;
            was_read = subst (λ (l : List ℕ). WasRead l (length h)) (sym (append-nil h)) (at_once 0 h);
            was_sent = at_once 1 (lines_by modulo 0 x.told);
          };
      all = refl;
    }
