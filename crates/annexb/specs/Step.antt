-- The reader's step at one byte.
use Rattle.std.specs.Prelude.{ℕ, true, false, cond, ◌&&◌, [], ◌∷◌, ◌++◌, replicate}
use Rattle.std.proofs.Math.Option.{some}
use Rattle.desk.specs.Search.{is0, is1, up_to1}
use Rattle.desk.specs.Zeros.{two, zeros_after}
use Rattle.desk.specs.Push.{Out, Next}
use Rattle.annexb.specs.declared.AnnexBReader.{AnnexBReader}
use Rattle.annexb.specs.Seen.{at}

-- outside a unit 01 after two zeros starts one; nothing is released
abbrev pub out_step : ℕ → ℕ → Out AnnexBReader
out_step z b =
    cond (two z && is1 b)
    (record { after = at true 0; bytes = []; mark = false })
    (record { after = at false (zeros_after z b); bytes = []; mark = false })

-- in a unit 00 or 01 after two zeros ends it, and 01 starts the next; another 00 is held; any other byte releases the zeros held, and itself
abbrev pub in_step : ℕ → ℕ → Out AnnexBReader
in_step z b =
    cond (two z && up_to1 b)
    (record { after = at (is1 b) (cond (is0 b) 2 0); bytes = []; mark = true })
    (record { after = at true (zeros_after z b); bytes = cond (is0 b) [] (replicate z 0 ++ b ∷ []); mark = false })

abbrev pub step : AnnexBReader → ℕ → Out AnnexBReader
step s b = cond s.in_unit (in_step s.zeros b) (out_step s.zeros b)

-- no byte is forbidden
abbrev pub stepping : Next AnnexBReader
stepping s b = some (step s b)
