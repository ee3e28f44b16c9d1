-- A READER WITH A TALLY BESIDE IT: what is listed.
use Rattle.std.specs.Prelude.{◌≡◌, ℕ, ◌%◌, List, [], ◌++◌, map, length, take, Result}
use Rattle.desk.specs.Push.{shifted}
use Rattle.desk.specs.Steps.{pushed_of}
use Rattle.desk.specs.declared.push.Pushed.{Pushed}
use Rattle.desk.specs.declared.refusal.Refusal.{Refusal}
use Rattle.annexb.specs.declared.AnnexBReader.{AnnexBReader}
use Rattle.annexb.specs.Seen.{new}
use Rattle.annexb.specs.Answer.{FramePush}
use Rattle.counting.specs.declared.Tally.{Tally}
use Rattle.counting.specs.Tally.{wrap, nothing, Tallied}

-- After any pushes from a new reader, each followed by a tally of its marks: the bytes taken, the state, the joined bytes, the ends, the tally,
-- and the lengths told so far. Each call is known by its contract alone.
pub data Listing : List ℕ → AnnexBReader → List ℕ → List ℕ → Tally → List ℕ → Type 0 where
  none_yet : Listing [] new [] [] nothing []
  pushed : {h : List ℕ} {s : AnnexBReader} {g e : List ℕ} {t : Tally} {told : List ℕ} → Listing h s g e t told
      → (chunk room marks : List ℕ) (s' : AnnexBReader) (room' marks' marks'' : List ℕ) (r : Result Pushed Refusal) (t' : Tally)
      → FramePush s chunk room marks s' room' marks' r → Tallied t marks' (pushed_of r).marked (pushed_of r).written marks'' t'
      → Listing (h ++ take (pushed_of r).taken chunk) s' (g ++ take (pushed_of r).written room')
      (e ++ shifted (length g) (take (pushed_of r).marked marks')) t' (told ++ take (pushed_of r).marked marks'')

-- the lengths told are those of the units us, and the tally has their number and the o bytes given since: modulo 2^64, so exact below it
pub record Counted (us : List (List ℕ)) (o : ℕ) (t : Tally) (told : List ℕ) : Type 0 where
  pub lengths_told : told ≡ map (λ (u : List ℕ). length u % wrap) us
  pub units_told : t.units ≡ length us % wrap
  pub bytes_told : t.bytes ≡ o % wrap
