-- The numbers of the answers of `pps`.
use Rattle.std.specs.Prelude.{ℕ, ◌≡◌, cond, List, [], ◌∷◌, get_or, Result}
use Rattle.desk.specs.Refusing.{answered}
use Rattle.desk.specs.declared.refusal.Refusal.{Refusal}
use Rattle.bits.specs.Reading.{Ans, Reads}
use Rattle.bits.specs.declared.BitReader.{BitReader}
use Rattle.pps.specs.declared.Geometry.{Geometry}
use Rattle.pps.specs.declared.SliceRect.{SliceRect}
use Rattle.pps.specs.declared.SliceGroup.{SliceGroup}
use Rattle.pps.specs.declared.SliceGroup.TheVariants.{Interleaved, Dispersed, ForegroundAndLeftover, Changing, ExplicitAssignment}
use Rattle.pps.specs.declared.SliceGroupRead.{SliceGroupRead}
use Rattle.pps.specs.Answer.{ReadsGroups, change_number, no_rect}
use Rattle.exports.specs.Fronts.{FrontsOn, value_of, lent_after}

abbrev pub picture_of : ℕ → ℕ → Geometry
picture_of width size = record { pic_width_in_mbs = width; pic_size_in_map_units = size }

-- ---- a rectangle: the number, the place behind it, and its two corners

abbrev pub pair_of : SliceRect → List ℕ
pair_of rect = rect.top_left ∷ rect.bottom_right ∷ []

abbrev pub rect_numbers : Result SliceRect Refusal → BitReader → List ℕ
rect_numbers r after = answered r ∷ after.at.0 ∷ value_of (λ v. v.top_left) r ∷ value_of (λ v. v.bottom_right) r ∷ []

abbrev pub FrontsRect : BitReader → Ans SliceRect → List ℕ → Type 0
FrontsRect from a = FrontsOn (λ (r : Result SliceRect Refusal) after. Reads from after r a) rect_numbers

-- ---- slice groups

-- the map type; the direction, 1 or 0; the rate; and pic_size_in_map_units_minus1: each 0 where the map type has none
abbrev pub group_numbers : SliceGroup → List ℕ
group_numbers Interleaved = 0 ∷ 0 ∷ 0 ∷ 0 ∷ []
group_numbers Dispersed = 1 ∷ 0 ∷ 0 ∷ 0 ∷ []
group_numbers ForegroundAndLeftover = 2 ∷ 0 ∷ 0 ∷ 0 ∷ []
group_numbers (Changing t flag rate) = change_number t ∷ cond flag 1 0 ∷ rate ∷ 0 ∷ []
group_numbers (ExplicitAssignment last) = 6 ∷ 0 ∷ 0 ∷ last ∷ []

-- the number, the place behind the last field, num_slice_groups_minus1, and the count of ids
abbrev pub groups_numbers : Result SliceGroupRead Refusal → BitReader → List ℕ
groups_numbers r after = answered r ∷ after.at.0 ∷ value_of (λ v. v.groups.num_slice_groups_minus1) r ∷ value_of (λ v. v.ids) r ∷ []

-- the corners of the rectangle at i, before those behind it
abbrev pub corners_at : List SliceRect → ℕ → List ℕ → List ℕ
corners_at rects i rest = (get_or rects i no_rect).top_left ∷ (get_or rects i no_rect).bottom_right ∷ rest

-- the corners of each of the seven rectangles in turn
abbrev pub corner_numbers : List SliceRect → List ℕ
corner_numbers rs = corners_at rs 0 (corners_at rs 1 (corners_at rs 2 (corners_at rs 3 (corners_at rs 4 (corners_at rs 5 (corners_at rs 6 []))))))

-- what the three arrays beside the answer hold
pub record Arrays : Type 0 where
  pub group : List ℕ
  pub runs : List ℕ
  pub rects : List ℕ

abbrev pub arrays : List ℕ → List ℕ → List ℕ → Arrays
arrays group runs rects = record { group = group; runs = runs; rects = rects }

abbrev pub arrays_of : SliceGroupRead → Arrays
arrays_of v = arrays (group_numbers v.groups.group) v.groups.run_length_minus1 (corner_numbers v.groups.rectangles)

-- the call's own contract, its answer, and the arrays: as they came where it was refused
pub record FrontsGroups (s : List ℕ) (from : BitReader) (n : ℕ) (g : Geometry) (ids : List ℕ) (lent : Arrays)
    (ids' answer' : List ℕ) (lent' : Arrays) : Type 0 where
  pub r : Result SliceGroupRead Refusal
  pub after : BitReader
  pub call : ReadsGroups s from n g ids after r ids'
  pub told : answer' ≡ groups_numbers r after
  pub filled : lent' ≡ lent_after arrays_of lent r
