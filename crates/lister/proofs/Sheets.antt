-- The text of document 01's example, of nothing, and of numbers of several digits.
use Rattle.std.proofs.Common.{◌≡◌, [], ◌∷◌, refl}
use Rattle.annexb.specs.Rule.{units_at_reset}
use Rattle.lister.specs.Text.{decimal, unit_line, listing_text}

pub record Sheets : Type 0 where
  pub example : listing_text (units_at_reset (0 ∷ 0 ∷ 1 ∷ 104 ∷ 128 ∷ 0 ∷ 0 ∷ 1 ∷ 65 ∷ 154 ∷ []))
      ≡ 117 ∷ 110 ∷ 105 ∷ 116 ∷ 32 ∷ 48 ∷ 32 ∷ 50 ∷ 10 ∷ 117 ∷ 110 ∷ 105 ∷ 116 ∷ 32 ∷ 49 ∷ 32 ∷ 50 ∷ 10
      ∷ 117 ∷ 110 ∷ 105 ∷ 116 ∷ 115 ∷ 32 ∷ 50 ∷ 10 ∷ []
  pub nothing : listing_text (units_at_reset []) ≡ 117 ∷ 110 ∷ 105 ∷ 116 ∷ 115 ∷ 32 ∷ 48 ∷ 10 ∷ []
  pub numbers : unit_line 10 1209 ≡ 117 ∷ 110 ∷ 105 ∷ 116 ∷ 32 ∷ 49 ∷ 48 ∷ 32 ∷ 49 ∷ 50 ∷ 48 ∷ 57 ∷ 10 ∷ []

pub sheets : Sheets
unfolding decimal
sheets = record { example = refl; nothing = refl; numbers = refl }
