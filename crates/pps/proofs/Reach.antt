-- Every number that a call can give is given by some input.
use mathlib.Core.Path.{◌≡◌, refl, ◌∙◌}
use mathlib.Core.List.{List, [], ◌∷◌}
use mathlib.Core.Bool.{true, false, ◌||◌}
use Prim.Native.Nat.{ℕ, suc, ◌≤◌}
use native.Mathlib.Omega.{arith}
use borrow.Author.Tests.{lt-ltb}
use lib.Dec.{lit≤, lit<}
use lib.ListN.{length}
use Rattle.desk.specs.Numbers.{most, any_over}
use Rattle.bits.specs.Reading.{got, no, read_ue, Entered, past, ue_entry}
use Rattle.bits.proofs.Concrete.{bits_here, flag_here, ue_here, none_here, many_here}
use Rattle.bits.proofs.Refusing.{ue_refuse}
use Rattle.bits.proofs.Reach.{long as too_many, over, number_1}
use Rattle.pps.specs.Rule.{most_units, bad_picture, bad_group_count, bottom_right_ok, rectangle, ue_below, row, num_ref_idx, dispersed}
use Rattle.pps.specs.Rule.{run_lengths, rectangles, change, group_ids, by_type, slice_groups}
use Rattle.pps.specs.Answer.{entry_for, rect_of, groups_of}
use Rattle.pps.proofs.Entry.{entry_passes, entry_1, entry_2, entry_11}
use Rattle.pps.proofs.Ids.{id_bits_is}

-- ---- SliceGroup::read, with no id buffer unless it is named

groups_long : (s : List ℕ) (room : ℕ) → any_over (length s ∷ room ∷ 0 ∷ []) ≡ true → groups_of s 0 1 1 1 room ≡ no 1
unfolding groups_of
groups_long s room h = simp (entry_1 s 0 room 1 1 (bad_group_count 1) h)

over_limit : (room : ℕ) → any_over (length too_many ∷ room ∷ 0 ∷ []) ≡ true
over_limit room = rw (lt-ltb most (length too_many) over)

-- 16,777,217 bytes; an id buffer of as many
pub reach_1 : (groups_of too_many 0 1 1 1 0 ≡ no 1) × (groups_of [] 0 1 1 1 16777217 ≡ no 1)
reach_1 = (groups_long too_many 0 (over_limit 0), groups_long [] 16777217 refl)

-- place 1 of no bytes
pub reach_2 : groups_of [] 1 1 1 1 0 ≡ no 2
unfolding groups_of
reach_2 = simp (entry_2 [] 1 0 1 1 (bad_group_count 1) (lit≤ tt) (lit≤ tt) (lit< tt))

start : (s : List ℕ) → length s ≤ most → Entered s 0
start s h = record { small = h; within = omega arith }

no_picture : (n width units : ℕ) → (bad_picture width units || bad_group_count n) ≡ true → groups_of [] 0 n width units 0 ≡ no 11
unfolding groups_of
no_picture n width units h = simp (entry_11 [] 0 0 width units (bad_group_count n) (start [] (lit≤ tt)) (lit≤ tt) h)

-- each cause of 11: width 0, size 0, size no multiple of the width, size over the limit; n of 0 and of 8
pub reach_11 :
    (groups_of [] 0 1 0 1 0 ≡ no 11)
    × (groups_of [] 0 1 1 0 0 ≡ no 11)
    × (groups_of [] 0 1 2 3 0 ≡ no 11)
    × (groups_of [] 0 1 1 36865 0 ≡ no 11)
    × (groups_of [] 0 0 1 1 0 ≡ no 11)
    × (groups_of [] 0 8 1 1 0 ≡ no 11)
unfolding bad_picture bad_group_count
reach_11 =
    (no_picture 1 0 1 refl, no_picture 1 1 0 refl, no_picture 1 2 3 refl, no_picture 1 1 36865 refl, no_picture 0 1 1 refl, no_picture 8 1 1 refl)

-- what passes the entry checks answers by its fields
by_fields : (s : List ℕ) (n width units room : ℕ) → length s ≤ most → room ≤ most → bad_picture width units ≡ false → bad_group_count n ≡ false
    → entry_for s 0 room width units (bad_group_count n) ≡ 0
by_fields s n width units room h r a b = entry_passes s 0 room width units (bad_group_count n) (start s h) r a b

no_ue : read_ue [] 0 ≡ no 4
no_ue = none_here [] 0 refl

-- no bytes
pub reach_4 : groups_of [] 0 1 1 1 0 ≡ no 4
unfolding groups_of slice_groups bad_picture bad_group_count
reach_4 = simp (by_fields [] 1 1 1 0 (lit≤ tt) (lit≤ tt) refl refl, no_ue)

many_zeros : read_ue (0 ∷ 0 ∷ 0 ∷ 0 ∷ 0x80 ∷ []) 0 ≡ no 5
many_zeros = many_here (0 ∷ 0 ∷ 0 ∷ 0 ∷ 0x80 ∷ []) 0 32 refl

-- 32 zeros and a one
pub reach_5 : groups_of (0 ∷ 0 ∷ 0 ∷ 0 ∷ 0x80 ∷ []) 0 1 1 1 0 ≡ no 5
unfolding groups_of slice_groups bad_picture bad_group_count
reach_5 = simp (by_fields (0 ∷ 0 ∷ 0 ∷ 0 ∷ 0x80 ∷ []) 1 1 1 0 (lit≤ tt) (lit≤ tt) refl refl, many_zeros)

-- document 01's four ids, and room for three
pub reach_10 : groups_of (0x39 ∷ 0x06 ∷ 0x80 ∷ []) 0 2 2 4 3 ≡ no 10
unfolding groups_of slice_groups by_type group_ids ue_below row bad_picture bad_group_count
reach_10 =
    let s : List ℕ = 0x39 ∷ 0x06 ∷ 0x80 ∷ [] in
    simp (
      by_fields s 2 2 4 3 (lit≤ tt) (lit≤ tt) refl refl,
      ue_here s 0 2 6 refl,
      ue_here s 5 2 3 refl,
      id_bits_is 2 1 (lit≤ tt) (lit< tt),
      bits_here s 10 2 0 refl,
      bits_here s 12 2 1 refl,
      bits_here s 14 2 2 refl,
      bits_here s 16 2 2 refl,
    )

-- map type 7
pub reach_12 : groups_of (0x10 ∷ []) 0 1 1 1 0 ≡ no 12
unfolding groups_of slice_groups by_type bad_picture bad_group_count
reach_12 = let s : List ℕ = 0x10 ∷ [] in simp (by_fields s 1 1 1 0 (lit≤ tt) (lit≤ tt) refl refl, ue_here s 0 3 7 refl)

-- a run length of 1 + 1 in a picture of 1
pub reach_13 : groups_of (0xA0 ∷ []) 0 1 1 1 0 ≡ no 13
unfolding groups_of slice_groups by_type run_lengths row ue_below bad_picture bad_group_count
reach_13 = let s : List ℕ = 0xA0 ∷ [] in simp (by_fields s 1 1 1 0 (lit≤ tt) (lit≤ tt) refl refl, ue_here s 0 0 0 refl, ue_here s 1 1 1 refl)

-- rectangle 1 to 0; rectangle 1 to 2 of two columns
pub reach_14 : groups_of (0x6A ∷ []) 0 1 1 1 0 ≡ no 14
unfolding groups_of slice_groups by_type rectangles row rectangle bad_picture bad_group_count
reach_14 =
    let s : List ℕ = 0x6A ∷ [] in
    simp (by_fields s 1 1 1 0 (lit≤ tt) (lit≤ tt) refl refl, ue_here s 0 1 2 refl, ue_here s 3 1 1 refl, ue_here s 6 0 0 refl)

pub reach_14_column : groups_of (0x69 ∷ 0x80 ∷ []) 0 1 2 2 0 ≡ no 14
unfolding groups_of slice_groups by_type rectangles row rectangle bottom_right_ok bad_picture bad_group_count
reach_14_column =
    let s : List ℕ = 0x69 ∷ 0x80 ∷ [] in
    simp (by_fields s 1 2 2 0 (lit≤ tt) (lit≤ tt) refl refl, ue_here s 0 1 2 refl, ue_here s 3 1 1 refl, ue_here s 6 1 2 refl)

-- rectangle 0 to 2 in a picture of 1
pub reach_15 : groups_of (0x76 ∷ []) 0 1 1 1 0 ≡ no 15
unfolding groups_of slice_groups by_type rectangles row rectangle bottom_right_ok bad_picture bad_group_count
reach_15 =
    let s : List ℕ = 0x76 ∷ [] in
    simp (by_fields s 1 1 1 0 (lit≤ tt) (lit≤ tt) refl refl, ue_here s 0 1 2 refl, ue_here s 3 0 0 refl, ue_here s 4 1 2 refl)

-- type 3 and a rate of 1 + 1 in a picture of 1
pub reach_16 : groups_of (0x21 ∷ 0x00 ∷ []) 0 1 1 1 0 ≡ no 16
unfolding groups_of slice_groups by_type change ue_below bad_picture bad_group_count
reach_16 =
    let s : List ℕ = 0x21 ∷ 0x00 ∷ [] in
    simp (by_fields s 1 1 1 0 (lit≤ tt) (lit≤ tt) refl refl, ue_here s 0 2 3 refl, flag_here s 5 false refl, ue_here s 6 1 1 refl)

-- type 6 and 1 + 1 ids in a picture of 1
pub reach_17 : groups_of (0x3A ∷ []) 0 1 1 1 0 ≡ no 17
unfolding groups_of slice_groups by_type group_ids ue_below bad_picture bad_group_count
reach_17 = let s : List ℕ = 0x3A ∷ [] in simp (by_fields s 1 1 1 0 (lit≤ tt) (lit≤ tt) refl refl, ue_here s 0 2 6 refl, ue_here s 5 1 1 refl)

-- ---- 0, at the most map units: type 1

pub reach_0 : groups_of (0x40 ∷ []) 0 1 1 most_units 0 ≡ got dispersed 3
unfolding groups_of slice_groups by_type bad_picture bad_group_count
reach_0 = let s : List ℕ = 0x40 ∷ [] in simp (by_fields s 1 1 most_units 0 (lit≤ tt) (lit≤ tt) refl refl, ue_here s 0 1 1 refl)

-- ---- SliceRect::read

module _ (s : List ℕ) (p width units : ℕ) where
  rect_entry : (k : ℕ) → entry_for s p 0 width units false ≡ suc k → rect_of s p width units ≡ no (suc k)
  unfolding rect_of
  rect_entry k e = simp e

  rect_fields : entry_for s p 0 width units false ≡ 0 → rect_of s p width units ≡ rectangle width units s p
  unfolding rect_of
  rect_fields e = simp e

-- 16,777,217 bytes
pub reach_rect_1 : rect_of too_many 0 1 1 ≡ no 1
reach_rect_1 = rect_entry too_many 0 1 1 0 (entry_1 too_many 0 0 1 1 false (over_limit 0))

no_rect_lem : (width units : ℕ) → bad_picture width units ≡ true → rect_of [] 0 width units ≡ no 11
no_rect_lem width units h = rect_entry [] 0 width units 10 (entry_11 [] 0 0 width units false (start [] (lit≤ tt)) (lit≤ tt) (rw h))

rect_at_0 : (s : List ℕ) (width units : ℕ) → length s ≤ most → bad_picture width units ≡ false → rect_of s 0 width units ≡ rectangle width units s 0
rect_at_0 s width units h b = rect_fields s 0 width units (entry_passes s 0 0 width units false (start s h) (lit≤ tt) b refl)

-- place 1 of no bytes; each cause of 11; no bytes; 32 zeros and a one; rectangle 1 to 0; rectangle 0 to 2 in a picture of 1; rectangle 0 to 1
pub reach_rect :
    (rect_of [] 1 1 1 ≡ no 2)
    × (rect_of [] 0 0 1 ≡ no 11)
    × (rect_of [] 0 1 0 ≡ no 11)
    × (rect_of [] 0 2 3 ≡ no 11)
    × (rect_of [] 0 1 36865 ≡ no 11)
    × (rect_of [] 0 1 1 ≡ no 4)
    × (rect_of (0 ∷ 0 ∷ 0 ∷ 0 ∷ 0x80 ∷ []) 0 1 1 ≡ no 5)
    × (rect_of (0x50 ∷ []) 0 1 1 ≡ no 14)
    × (rect_of (0xB0 ∷ []) 0 1 1 ≡ no 15)
    × (rect_of (0xA0 ∷ []) 0 1 1 ≡ got (record { top_left = 0; bottom_right = 1 }) 4)
unfolding bad_picture rectangle bottom_right_ok
reach_rect = (
  rect_entry [] 1 1 1 1 (entry_2 [] 1 0 1 1 false (lit≤ tt) (lit≤ tt) (lit< tt)),
  no_rect_lem 0 1 refl,
  no_rect_lem 1 0 refl,
  no_rect_lem 2 3 refl,
  no_rect_lem 1 36865 refl,
  rect_at_0 [] 1 1 (lit≤ tt) refl ∙ simp no_ue,
  rect_at_0 (0 ∷ 0 ∷ 0 ∷ 0 ∷ 0x80 ∷ []) 1 1 (lit≤ tt) refl ∙ simp many_zeros,
  rect_at_0 (0x50 ∷ []) 1 1 (lit≤ tt) refl ∙ simp (ue_here (0x50 ∷ []) 0 1 1 refl, ue_here (0x50 ∷ []) 3 0 0 refl),
  rect_at_0 (0xB0 ∷ []) 1 1 (lit≤ tt) refl ∙ simp (ue_here (0xB0 ∷ []) 0 0 0 refl, ue_here (0xB0 ∷ []) 1 1 2 refl),
  rect_at_0 (0xA0 ∷ []) 1 1 (lit≤ tt) refl ∙ simp (ue_here (0xA0 ∷ []) 0 0 0 refl, ue_here (0xA0 ∷ []) 1 1 1 refl),
)

-- ---- read_num_ref_idx

past_end_lem : read_ue [] 1 ≡ no 2
past_end_lem = ue_refuse (ue_entry (past (lit≤ tt) (lit< tt)))

-- 16,777,217 bytes; place 1 of no bytes; no bytes; 32 zeros and a one; 32; 31
pub reach_idx :
    (num_ref_idx too_many 0 ≡ no 1)
    × (num_ref_idx [] 1 ≡ no 2)
    × (num_ref_idx [] 0 ≡ no 4)
    × (num_ref_idx (0 ∷ 0 ∷ 0 ∷ 0 ∷ 0x80 ∷ []) 0 ≡ no 5)
    × (num_ref_idx (0x04 ∷ 0x20 ∷ []) 0 ≡ no 18)
    × (num_ref_idx (0x04 ∷ 0x00 ∷ []) 0 ≡ got 31 11)
unfolding ue_below
reach_idx = (
  simp number_1.2,
  simp past_end_lem,
  simp no_ue,
  simp many_zeros,
  simp (ue_here (0x04 ∷ 0x20 ∷ []) 0 5 32 refl),
  simp (ue_here (0x04 ∷ 0x00 ∷ []) 0 5 31 refl),
)
