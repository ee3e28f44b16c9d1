-- THE RULE OF SLICE GROUPS: the slice-group part of the syntax table of Rec 7.3.2.2, as a chain of fields over the bit crate's answers, with the
-- ranges of 7.4.2.2 as document 01 keeps them. Each field is read from where the one before it stopped, or the whole read is refused by its
-- number.
use Rattle.std.specs.Prelude.{ℕ, zero, suc, ◌+◌, ◌%◌, ◌^◌, List, [], ◌∷◌, Bool, not, cond, ◌||◌, ltb, leb, eqb}
use Rattle.desk.specs.Numbers.{bad_map_type, bad_run_length, invalid_top_left, invalid_bottom_right, bad_change_rate, bad_pic_size, bad_num_ref_idx}
use Rattle.bits.specs.Reading.{Ans, got, no, and_then, read_ue, read_bit, read_bits}
use Rattle.pps.specs.declared.SliceRect.{SliceRect}

-- ---- the picture

-- the most map units of a picture
abbrev pub most_units : ℕ
most_units = 36864

-- width 0, size 0, size over the limit, size no multiple of the width
unfoldable pub bad_picture : ℕ → ℕ → Bool
bad_picture width size = eqb width 0 || (eqb size 0 || (ltb most_units size || not (eqb (size % width) 0)))

-- num_slice_groups_minus1 not 1 to 7
unfoldable pub bad_group_count : ℕ → Bool
bad_group_count n = ltb n 1 || ltb 7 n

-- ---- fields

-- ue(v) of less than the limit, or the number
unfoldable pub ue_below : ℕ → ℕ → List ℕ → ℕ → Ans ℕ
ue_below limit k s p = and_then (read_ue s p) (λ v q. cond (ltb v limit) (got v q) (no k))

-- count fields of one kind
unfoldable pub row : {A : Type 0} → (List ℕ → ℕ → Ans A) → ℕ → List ℕ → ℕ → Ans (List A)
row field zero s p = got [] p
row field (suc count) s p = and_then (field s p) (λ a q. and_then (row field count s q) (λ rest r. got (a ∷ rest) r))

-- may a rectangle end at this map unit? (7.4.2.2 wants it below the size; document 01 keeps the Rust's "at most")
unfoldable pub bottom_right_ok : ℕ → ℕ → Bool
bottom_right_ok size unit = leb unit size

-- top_left, then bottom_right
abbrev pub corners : List ℕ → ℕ → Ans SliceRect
corners s p = and_then (read_ue s p) (λ tl q. and_then (read_ue s q) (λ br r. got (record { top_left = tl; bottom_right = br }) r))

-- top_left not behind bottom_right, bottom_right within the picture, and the columns in order
abbrev pub checked_rect : ℕ → ℕ → SliceRect → ℕ → Ans SliceRect
checked_rect width size rect q =
    cond (ltb rect.bottom_right rect.top_left) (no invalid_top_left)
    (cond (bottom_right_ok size rect.bottom_right)
    (cond (ltb (rect.bottom_right % width) (rect.top_left % width)) (no invalid_top_left) (got rect q))
    (no invalid_bottom_right))

-- checked once both fields are read
unfoldable pub rectangle : ℕ → ℕ → List ℕ → ℕ → Ans SliceRect
rectangle width size s p = and_then (corners s p) (checked_rect width size)

-- the least b at or after b, of count + 1 many, with 2 ^ b at least m
unfoldable pub least_from : ℕ → ℕ → ℕ → ℕ
least_from zero b m = b
least_from (suc count) b m = cond (leb m (2 ^ b)) b (least_from count (suc b) m)

-- slice_group_id[i] is u(v) of Ceil(Log2(num_slice_groups_minus1 + 1)) bits: the least b with 2 ^ b at least n + 1 (n bits suffice)
unfoldable pub id_bits : ℕ → ℕ
id_bits n = least_from n 0 (n + 1)

abbrev pub group_id : ℕ → List ℕ → ℕ → Ans ℕ
group_id n = λ s p. read_bits s p (id_bits n)

-- ---- the table

-- what the table reads behind slice_group_map_type
pub data Fields : Type 0 where
  -- run_length_minus1[iGroup]
  interleaved : List ℕ → Fields
  dispersed : Fields
  -- top_left[iGroup], bottom_right[iGroup]
  foreground : List SliceRect → Fields
  -- the type, slice_group_change_direction_flag, slice_group_change_rate_minus1
  changing : ℕ → Bool → ℕ → Fields
  -- slice_group_id[i]
  explicit : List ℕ → Fields

-- type 0: iGroup from 0 to num_slice_groups_minus1
unfoldable pub run_lengths : ℕ → ℕ → List ℕ → ℕ → Ans Fields
run_lengths n size s p = and_then (row (ue_below size bad_run_length) (n + 1) s p) (λ runs q. got (interleaved runs) q)

-- type 2: iGroup below num_slice_groups_minus1
unfoldable pub rectangles : ℕ → ℕ → ℕ → List ℕ → ℕ → Ans Fields
rectangles n width size s p = and_then (row (rectangle width size) n s p) (λ rects q. got (foreground rects) q)

-- types 3, 4 and 5: u(1) and ue(v)
unfoldable pub change : ℕ → ℕ → List ℕ → ℕ → Ans Fields
change t size s p = and_then (read_bit s p) (λ flag q. and_then (ue_below size bad_change_rate s q) (λ rate r. got (changing t flag rate) r))

-- type 6: pic_size_in_map_units_minus1, and that many ids and one
unfoldable pub group_ids : ℕ → ℕ → List ℕ → ℕ → Ans Fields
group_ids n size s p = and_then (ue_below size bad_pic_size s p) (λ m q. and_then (row (group_id n) (m + 1) s q) (λ ids r. got (explicit ids) r))

-- by slice_group_map_type
unfoldable pub by_type : ℕ → ℕ → ℕ → ℕ → List ℕ → ℕ → Ans Fields
by_type n width size t s p =
    cond (eqb t 0) (run_lengths n size s p)
    (cond (eqb t 1) (got dispersed p)
    (cond (eqb t 2) (rectangles n width size s p)
    (cond (leb t 5) (change t size s p)
    (cond (eqb t 6) (group_ids n size s p) (no bad_map_type)))))

unfoldable pub slice_groups : ℕ → ℕ → ℕ → List ℕ → ℕ → Ans Fields
slice_groups n width size s p = and_then (read_ue s p) (λ t q. by_type n width size t s q)

-- num_ref_idx_l0_default_active_minus1 and its fellow: 0 to 31
abbrev pub num_ref_idx : List ℕ → ℕ → Ans ℕ
num_ref_idx = ue_below 32 bad_num_ref_idx
