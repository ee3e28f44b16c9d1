-- On every input some outcome meets the contract: the rule's own answers are values or numbers of the table, and each of those is some call's.
use Rattle.std.specs.Prelude.{Result}
use mathlib.Core.List.{List, [], ◌∷◌}
use mathlib.Core.Bool.{Bool, ◌||◌}
use mathlib.Core.Path.{refl}
use Prim.Native.Nat.{ℕ, zero, suc, ◌+◌, ◌%◌, ◌≤◌, ◌<◌}
use native.Mathlib.Omega.{arith}
use lib.Dec.{ltb, leb, eqb}
use lib.ListN.{length}
use Rattle.desk.specs.Numbers.{bad_geometry, bad_run_length, bad_change_rate, bad_pic_size, bad_num_ref_idx, done, entry_of}
use Rattle.desk.specs.Room.{with_front}
use Rattle.desk.specs.declared.refusal.Refusal.{Refusal}
use Rattle.desk.proofs.Choice.{cond_ind}
use Rattle.desk.proofs.Entering.{entry_few}
use Rattle.bits.specs.Reading.{Ans, got, no, past_end, read_ue, read_bit}
use Rattle.bits.specs.declared.BitReader.{BitReader}
use Rattle.bits.proofs.Back.{InTable, read_some}
use Rattle.bits.proofs.Table.{unless_in_table, then_in_table, bits_in_table, bit_in_table, ue_in_table, SomeRead}
use Rattle.pps.specs.declared.Geometry.{Geometry}
use Rattle.pps.specs.declared.SliceRect.{SliceRect}
use Rattle.pps.specs.declared.SliceGroupRead.{SliceGroupRead}
use Rattle.pps.specs.Rule.{bad_picture, bad_group_count, ue_below, row, bottom_right_ok, corners, checked_rect, rectangle, id_bits, group_id}
use Rattle.pps.specs.Rule.{Fields, run_lengths, rectangles, change, group_ids, by_type, slice_groups, num_ref_idx}
use Rattle.pps.specs.Answer.{first_of, entry_for, rect_of, ReadsRectIn, ids_in, groups_of, ids_given, result_of, ReadsGroups}

-- ---- fields

below_in_table : (limit k : ℕ) → 0 < k → k ≤ 18 → (s : List ℕ) (p : ℕ) → InTable (ue_below limit k s p)
unfolding ue_below
below_in_table limit k some few s p =
    then_in_table (read_ue s p) _ (ue_in_table s p) (λ v q. cond_ind InTable (ltb v limit) (got v q) (no k) tt (some, few))

row_in_table : {A : Type 0} (field : List ℕ → ℕ → Ans A) → ((s : List ℕ) (p : ℕ) → InTable (field s p)) → (count : ℕ) (s : List ℕ) (p : ℕ)
    → InTable (row field count s p)
unfolding row
row_in_table field h zero s p = tt
row_in_table field h (suc count) s p =
    then_in_table (field s p) _ (h s p) (λ a q. then_in_table (row field count s q) _ (row_in_table field h count s q) (λ rest r. tt))

pub num_ref_idx_in_table : (s : List ℕ) (p : ℕ) → InTable (num_ref_idx s p)
num_ref_idx_in_table s p = below_in_table 32 bad_num_ref_idx (omega arith) (omega arith) s p

-- ---- the table of slice groups

module _ (width size : ℕ) where
  rectangle_in_table : (s : List ℕ) (p : ℕ) → InTable (rectangle width size s p)
  unfolding rectangle
  rectangle_in_table s p =
      then_in_table (corners s p) (checked_rect width size)
      (then_in_table (read_ue s p) _ (ue_in_table s p) (λ tl q. then_in_table (read_ue s q) _ (ue_in_table s q) (λ br r. tt)))
      (λ rect q. cond_ind InTable (ltb rect.bottom_right rect.top_left) _ _ (omega arith, omega arith)
      (cond_ind InTable (bottom_right_ok size rect.bottom_right) _ _
      (cond_ind InTable (ltb (rect.bottom_right % width) (rect.top_left % width)) _ _ (omega arith, omega arith) tt)
      (omega arith, omega arith)))

  module _ (n : ℕ) (s : List ℕ) where
    runs_in_table : (p : ℕ) → InTable (run_lengths n size s p)
    unfolding run_lengths
    runs_in_table p =
        then_in_table (row (ue_below size bad_run_length) (n + 1) s p) _
        (row_in_table (ue_below size bad_run_length) (below_in_table size bad_run_length (omega arith) (omega arith)) (n + 1) s p) (λ runs q. tt)

    rects_in_table : (p : ℕ) → InTable (rectangles n width size s p)
    unfolding rectangles
    rects_in_table p =
        then_in_table (row (rectangle width size) n s p) _ (row_in_table (rectangle width size) rectangle_in_table n s p) (λ rects q. tt)

    change_in_table : (t p : ℕ) → InTable (change t size s p)
    unfolding change
    change_in_table t p =
        then_in_table (read_bit s p) _ (bit_in_table s p)
        (λ flag q. then_in_table (ue_below size bad_change_rate s q) _
        (below_in_table size bad_change_rate (omega arith) (omega arith) s q) (λ rate r. tt))

    ids_in_table : (p : ℕ) → InTable (group_ids n size s p)
    unfolding group_ids
    ids_in_table p =
        then_in_table (ue_below size bad_pic_size s p) _ (below_in_table size bad_pic_size (omega arith) (omega arith) s p)
        (λ m q. then_in_table (row (group_id n) (m + 1) s q) _
        (row_in_table (group_id n) (λ s p. bits_in_table s p (id_bits n)) (m + 1) s q) (λ ids r. tt))

    by_type_in_table : (t p : ℕ) → InTable (by_type n width size t s p)
    unfolding by_type
    by_type_in_table t p =
        cond_ind InTable (eqb t 0) _ _ (runs_in_table p)
        (cond_ind InTable (eqb t 1) _ _ tt
        (cond_ind InTable (eqb t 2) _ _ (rects_in_table p)
        (cond_ind InTable (leb t 5) _ _ (change_in_table t p)
        (cond_ind InTable (eqb t 6) _ _ (ids_in_table p) (omega arith, omega arith)))))

    pub slice_groups_in_table : (p : ℕ) → InTable (slice_groups n width size s p)
    unfolding slice_groups
    slice_groups_in_table p = then_in_table (read_ue s p) _ (ue_in_table s p) (λ t q. by_type_in_table t q)

-- ---- the answers

module _ (s : List ℕ) (p : ℕ) where
  -- the entry checks answer 0, 1, 2 or 11
  entry_row : (room width size : ℕ) (bad_count : Bool) → entry_for s p room width size bad_count ≤ 18
  unfolding entry_for
  entry_row room width size bad_count =
      go (entry_of (length s ∷ room ∷ 0 ∷ []) (past_end s p)) (entry_few (length s ∷ room ∷ 0 ∷ []) (past_end s p))
      (cond_ind (λ n. n ≤ 18) (bad_picture width size || bad_count) bad_geometry done (omega arith) (omega arith))
    where
      go : {b : ℕ} (a : ℕ) → a ≤ 2 → b ≤ 18 → first_of a b ≤ 18
      go zero few h = h
      go (suc a) few h = omega arith

  pub rect_in_table : (width size : ℕ) → InTable (rect_of s p width size)
  unfolding rect_of
  rect_in_table width size =
      unless_in_table (entry_for s p 0 width size _) (entry_row 0 width size _) (rectangle width size s p) (rectangle_in_table width size s p)

  pub groups_in_table : (n width size room : ℕ) → InTable (groups_of s p n width size room)
  unfolding groups_of
  groups_in_table n width size room =
      unless_in_table (entry_for s p room width size (bad_group_count n)) (entry_row room width size (bad_group_count n)) _
      (then_in_table (slice_groups n width size s p) _ (slice_groups_in_table width size n s p)
      (λ f q. cond_ind InTable (ltb room (length (ids_in f))) _ _ (omega arith, omega arith) tt))

-- as the struct has it
result_in_table : (n : ℕ) (a : Ans Fields) → InTable a → InTable (result_of n a)
result_in_table n (got f q) h = tt
result_in_table n (no k) h = h

-- ---- so on every input some outcome meets the contract: whatever the bytes, the place, the picture, the count of groups and the id buffer

pub every_num_ref_idx : (s : List ℕ) (from : BitReader) → SomeRead from (num_ref_idx s from.at.0)
every_num_ref_idx s from = read_some (num_ref_idx s from.at.0) (num_ref_idx_in_table s from.at.0)

pub every_rect : (s : List ℕ) (from : BitReader) (g : Geometry) → (r : Result SliceRect Refusal) × (after : BitReader) × ReadsRectIn s from g after r
every_rect s from g =
    let width = g.pic_width_in_mbs in
    let size = g.pic_size_in_map_units in
    read_some (rect_of s from.at.0 width size) (rect_in_table s from.at.0 width size)

pub every_groups : (s : List ℕ) (from : BitReader) (n : ℕ) (g : Geometry) (ids : List ℕ)
    → (r : Result SliceGroupRead Refusal) × (after : BitReader) × (ids' : List ℕ) × ReadsGroups s from n g ids after r ids'
every_groups s from n g ids =
    let a = groups_of s from.at.0 n g.pic_width_in_mbs g.pic_size_in_map_units (length ids) in
    let h = groups_in_table s from.at.0 n g.pic_width_in_mbs g.pic_size_in_map_units (length ids) in
    let r = read_some {from = from} (result_of n a) (result_in_table n a h) in
    (r.0, r.1, with_front ids (ids_given a), record { read = r.2; memory = refl })
