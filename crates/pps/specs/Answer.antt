-- WHAT EACH CALL ANSWERS, for everything that goes in, refusals included; and, for each call, the contract that ties its result, and the lent
-- reader and memory as it returns, to that answer.
use Rattle.std.specs.Prelude.{ℕ, zero, suc, ◌-◌, ◌≡◌, List, [], ◌∷◌, Bool, false, cond, ◌||◌, length, replicate, ltb, eqb, Result}
use Rattle.desk.specs.Numbers.{no_room, bad_geometry, done, entry_of}
use Rattle.desk.specs.Room.{with_front}
use Rattle.desk.specs.declared.refusal.Refusal.{Refusal}
use Rattle.bits.specs.Reading.{Ans, got, no, and_then, unless, past_end, answer, Reads}
use Rattle.bits.specs.declared.BitReader.{BitReader}
use Rattle.pps.specs.declared.Geometry.{Geometry}
use Rattle.pps.specs.declared.SliceRect.{SliceRect}
use Rattle.pps.specs.declared.SliceGroupChangeType.{SliceGroupChangeType}
use Rattle.pps.specs.declared.SliceGroupChangeType.TheVariants.{BoxOut, RasterScan, WipeOut}
use Rattle.pps.specs.declared.SliceGroup.{SliceGroup}
use Rattle.pps.specs.declared.SliceGroup.TheVariants.{Interleaved, Dispersed, ForegroundAndLeftover, Changing, ExplicitAssignment}
use Rattle.pps.specs.declared.SliceGroups.{SliceGroups}
use Rattle.pps.specs.declared.SliceGroupRead.{SliceGroupRead}
use Rattle.pps.specs.Rule.{bad_picture, bad_group_count, rectangle, Fields, interleaved, dispersed, foreground, changing, explicit}
use Rattle.pps.specs.Rule.{slice_groups}

-- ---- the entry checks: 1, 2, 11

-- the first number that is not 0
abbrev pub first_of : ℕ → ℕ → ℕ
first_of zero b = b
first_of (suc a) b = suc a

-- by the bytes and the place in them, the length of a lent id buffer, the picture, and whether the count of groups is bad
unfoldable pub entry_for : List ℕ → ℕ → ℕ → ℕ → ℕ → Bool → ℕ
entry_for s p room width size bad_count =
    first_of (entry_of (length s ∷ room ∷ 0 ∷ []) (past_end s p)) (cond (bad_picture width size || bad_count) bad_geometry done)

-- ---- a rectangle

unfoldable pub rect_of : List ℕ → ℕ → ℕ → ℕ → Ans SliceRect
rect_of s p width size = unless no (entry_for s p 0 width size false) (rectangle width size s p)

-- what the code's answer stands for, with the reader that it leaves
abbrev pub rect_answer : Result SliceRect Refusal → BitReader → Ans SliceRect
rect_answer = answer

-- the contract. A refusal leaves the reader as it came.
abbrev pub ReadsRectIn : List ℕ → BitReader → Geometry → BitReader → Result SliceRect Refusal → Type 0
ReadsRectIn s from g after r = Reads from after r (rect_of s from.at.0 g.pic_width_in_mbs g.pic_size_in_map_units)

-- ---- slice groups

abbrev pub ids_in : Fields → List ℕ
ids_in (interleaved runs) = []
ids_in dispersed = []
ids_in (foreground rects) = []
ids_in (changing t flag rate) = []
ids_in (explicit ids) = ids

-- 10, last of all, where the ids do not fit
abbrev pub ids_roomed : ℕ → Ans Fields → Ans Fields
ids_roomed room x = and_then x (λ f q. cond (ltb room (length (ids_in f))) (no no_room) (got f q))

unfoldable pub groups_of : List ℕ → ℕ → ℕ → ℕ → ℕ → ℕ → Ans Fields
groups_of s p n width size room =
    unless no (entry_for s p room width size (bad_group_count n)) (ids_roomed room (slice_groups n width size s p))

-- the ids that are written
abbrev pub ids_given : Ans Fields → List ℕ
ids_given (got f q) = ids_in f
ids_given (no k) = []

-- ---- what the struct holds: what was read at the front of its arrays, and 0 in every other entry

abbrev pub no_runs : List ℕ
no_runs = replicate 8 0

abbrev pub no_rect : SliceRect
no_rect = record { top_left = 0; bottom_right = 0 }

abbrev pub no_rects : List SliceRect
no_rects = replicate 7 no_rect

abbrev pub change_type : ℕ → SliceGroupChangeType
change_type t = cond (eqb t 3) BoxOut (cond (eqb t 4) RasterScan WipeOut)

-- and back
abbrev pub change_number : SliceGroupChangeType → ℕ
change_number BoxOut = 3
change_number RasterScan = 4
change_number WipeOut = 5

abbrev pub case_of : Fields → SliceGroup
case_of (interleaved runs) = Interleaved
case_of dispersed = Dispersed
case_of (foreground rects) = ForegroundAndLeftover
case_of (changing t flag rate) = Changing (change_type t) flag rate
case_of (explicit ids) = ExplicitAssignment (length ids - 1)

abbrev pub runs_of : Fields → List ℕ
runs_of (interleaved runs) = with_front no_runs runs
runs_of dispersed = no_runs
runs_of (foreground rects) = no_runs
runs_of (changing t flag rate) = no_runs
runs_of (explicit ids) = no_runs

abbrev pub rects_of : Fields → List SliceRect
rects_of (interleaved runs) = no_rects
rects_of dispersed = no_rects
rects_of (foreground rects) = with_front no_rects rects
rects_of (changing t flag rate) = no_rects
rects_of (explicit ids) = no_rects

abbrev pub groups_with : SliceGroup → ℕ → List ℕ → List SliceRect → SliceGroups
groups_with case n runs rects = record { group = case; num_slice_groups_minus1 = n; run_length_minus1 = runs; rectangles = rects }

-- a read that came to its end
abbrev pub read_whole : SliceGroup → ℕ → List ℕ → List SliceRect → ℕ → SliceGroupRead
read_whole case n runs rects count = record { groups = groups_with case n runs rects; ids = count }

abbrev pub result_of : ℕ → Ans Fields → Ans SliceGroupRead
result_of n (got f q) = got (read_whole (case_of f) n (runs_of f) (rects_of f) (length (ids_in f))) q
result_of n (no k) = no k

-- an answer as the struct has it, the reader that it leaves, and what the lent id buffer holds as the call returns
pub record GroupsGiven (from after : BitReader) (n : ℕ) (a : Ans Fields) (ids : List ℕ) (r : Result SliceGroupRead Refusal) (ids' : List ℕ) : Type 0
  where
    pub read : Reads from after r (result_of n a)
    pub memory : ids' ≡ with_front ids (ids_given a)

-- the contract. A refusal leaves the reader and the ids as they came.
abbrev pub ReadsGroups : List ℕ → BitReader → ℕ → Geometry → List ℕ → BitReader → Result SliceGroupRead Refusal → List ℕ → Type 0
ReadsGroups s from n g ids after r ids' =
    GroupsGiven from after n (groups_of s from.at.0 n g.pic_width_in_mbs g.pic_size_in_map_units (length ids)) ids r ids'
