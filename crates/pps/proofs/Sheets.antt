-- Document 01's starred cases of slice groups, together.
use mathlib.Core.Path.{◌≡◌, refl}
use mathlib.Core.List.{List, [], ◌∷◌}
use Prim.Native.Nat.{ℕ, ◌≤◌}
use native.Mathlib.Omega.{arith}
use borrow.Author.Tests.{le-ltb}
use lib.Dec.{lit≤, lit<}
use Rattle.desk.specs.Numbers.{most}
use Rattle.bits.specs.Reading.{got, no}
use Rattle.bits.proofs.Concrete.{bits_here, ue_here}
use Rattle.pps.specs.declared.SliceRect.{SliceRect}
use Rattle.pps.specs.Rule.{bad_picture, bad_group_count, bottom_right_ok, rectangle, ue_below, row, foreground, explicit, rectangles}
use Rattle.pps.specs.Rule.{group_ids, by_type, slice_groups}
use Rattle.pps.specs.Answer.{groups_of}
use Rattle.pps.proofs.Entry.{entry_passes}
use Rattle.pps.proofs.Ids.{id_bits_is}

abbrev rect : ℕ → ℕ → SliceRect
rect a b = record { top_left = a; bottom_right = b }

-- width 4, size 12, n 1, 62 46 80: rectangle 8 to 12, position 17
sheet_rectangle : (room : ℕ) → room ≤ most → groups_of (0x62 ∷ 0x46 ∷ 0x80 ∷ []) 0 1 4 12 room ≡ got (foreground (rect 8 12 ∷ [])) 17
unfolding groups_of slice_groups by_type rectangles row rectangle bottom_right_ok bad_picture bad_group_count
sheet_rectangle room h =
    let s : List ℕ = 0x62 ∷ 0x46 ∷ 0x80 ∷ [] in
    simp (
      entry_passes s 0 room 4 12 (bad_group_count 1) (record { small = lit≤ tt; within = lit≤ tt }) h refl refl,
      ue_here s 0 1 2 refl,
      ue_here s 3 3 8 refl,
      ue_here s 10 3 12 refl,
      le-ltb room 0 (omega arith),
    )

-- 62 47 00: 15
sheet_outside : (room : ℕ) → room ≤ most → groups_of (0x62 ∷ 0x47 ∷ 0x00 ∷ []) 0 1 4 12 room ≡ no 15
unfolding groups_of slice_groups by_type rectangles row rectangle bottom_right_ok bad_picture bad_group_count
sheet_outside room h =
    let s : List ℕ = 0x62 ∷ 0x47 ∷ 0x00 ∷ [] in
    simp (
      entry_passes s 0 room 4 12 (bad_group_count 1) (record { small = lit≤ tt; within = lit≤ tt }) h refl refl,
      ue_here s 0 1 2 refl,
      ue_here s 3 3 8 refl,
      ue_here s 10 3 13 refl,
    )

-- width 2, size 4, n 2, 39 06 80: ids 0 1 2 2, position 18
sheet_ids : (room : ℕ) → 4 ≤ room → room ≤ most → groups_of (0x39 ∷ 0x06 ∷ 0x80 ∷ []) 0 2 2 4 room ≡ got (explicit (0 ∷ 1 ∷ 2 ∷ 2 ∷ [])) 18
unfolding groups_of slice_groups by_type group_ids ue_below row bad_picture bad_group_count
sheet_ids room l h =
    let s : List ℕ = 0x39 ∷ 0x06 ∷ 0x80 ∷ [] in
    simp (
      entry_passes s 0 room 2 4 (bad_group_count 2) (record { small = lit≤ tt; within = lit≤ tt }) h refl refl,
      ue_here s 0 2 6 refl,
      ue_here s 5 2 3 refl,
      id_bits_is 2 1 (lit≤ tt) (lit< tt),
      bits_here s 10 2 0 refl,
      bits_here s 12 2 1 refl,
      bits_here s 14 2 2 refl,
      bits_here s 16 2 2 refl,
      le-ltb room 4 l,
    )

-- together
pub sheets : (room : ℕ) → room ≤ most
    → (groups_of (0x62 ∷ 0x46 ∷ 0x80 ∷ []) 0 1 4 12 room ≡ got (foreground (rect 8 12 ∷ [])) 17)
    × (groups_of (0x62 ∷ 0x47 ∷ 0x00 ∷ []) 0 1 4 12 room ≡ no 15)
    × (4 ≤ room → groups_of (0x39 ∷ 0x06 ∷ 0x80 ∷ []) 0 2 2 4 room ≡ got (explicit (0 ∷ 1 ∷ 2 ∷ 2 ∷ [])) 18)
sheets room h = (sheet_rectangle room h, sheet_outside room h, λ l. sheet_ids room l h)
