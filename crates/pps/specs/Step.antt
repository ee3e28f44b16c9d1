-- THE SHAPE OF THE CODE: what the entry checks make, a read under way, and a row of fields, read into a list from its front.
use Rattle.std.specs.Prelude.{ℕ, ◌+◌, ◌-◌, ◌*◌, ◌≤◌, ◌≡◌, List, ◌++◌, length, take, Bool, cond, Result, IfOk}
use Rattle.desk.specs.Numbers.{done, bad_geometry}
use Rattle.desk.specs.Refusing.{answered}
use Rattle.desk.specs.Room.{with_front}
use Rattle.desk.specs.declared.refusal.Refusal.{Refusal}
use Rattle.bits.specs.Reading.{Ans, got, and_then, answer, Entered, size, read_bits}
use Rattle.pps.specs.declared.Geometry.{Geometry}
use Rattle.pps.specs.declared.SliceGroupRead.{SliceGroupRead}
use Rattle.pps.specs.declared.fields.FieldReader.{FieldReader}
use Rattle.pps.specs.declared.picture.Picture.{Picture}
use Rattle.pps.specs.declared.picture.GroupCount.{GroupCount}
use Rattle.pps.specs.Rule.{bad_picture, bad_group_count, row, Fields, group_ids, slice_groups}
use Rattle.pps.specs.Answer.{ids_roomed, ids_given, result_of}

-- ---- the entry checks

-- a check makes a value of what it is given, or answers 11 where that is bad
abbrev pub Checked : {A : Type 0} → Bool → Result A Refusal → (A → Type 0) → Type 0
Checked bad r Made = (answered r ≡ cond bad bad_geometry done) × IfOk r Made

abbrev pub PictureOf : Geometry → Result Picture Refusal → Type 0
PictureOf g r =
    Checked (bad_picture g.pic_width_in_mbs g.pic_size_in_map_units) r
    (λ picture. (picture.width ≡ g.pic_width_in_mbs) × (picture.size ≡ g.pic_size_in_map_units))

abbrev pub CountOf : ℕ → Result GroupCount Refusal → Type 0
CountOf n r = Checked (bad_group_count n) r (λ count. count.minus1 ≡ n)

-- ---- a read under way

-- it answers a: the bytes are the same ones, and where it is not refused it stands behind what was read
pub record ReadsField {A : Type 0} (from after : FieldReader) (r : Result A Refusal) (a : Ans A) : Type 0 where
  pub same : after.s.now ≡ from.s.now
  pub answers : answer r after.at ≡ a

-- of a map type's fields
abbrev pub ReadsPart : FieldReader → FieldReader → ℕ → Result SliceGroupRead Refusal → Ans Fields → Type 0
ReadsPart from after n r a = ReadsField from after r (result_of n a)

-- and of fields that the id buffer is lent to
pub record PartGiven (from after : FieldReader) (n : ℕ) (a : Ans Fields) (ids : List ℕ) (r : Result SliceGroupRead Refusal) (ids' : List ℕ)
    : Type 0 where
  pub read : ReadsPart from after n r a
  pub memory : ids' ≡ with_front ids (ids_given a)

abbrev pub ReadsIds : FieldReader → FieldReader → ℕ → ℕ → List ℕ → Result SliceGroupRead Refusal → List ℕ → Type 0
ReadsIds from after n size ids r ids' =
    PartGiven from after n (ids_roomed (length ids) (group_ids n size from.s.now from.at.at.0)) ids r ids'

abbrev pub ReadsTable : FieldReader → FieldReader → ℕ → ℕ → ℕ → List ℕ → Result SliceGroupRead Refusal → List ℕ → Type 0
ReadsTable from after n width size ids r ids' =
    PartGiven from after n (ids_roomed (length ids) (slice_groups n width size from.s.now from.at.at.0)) ids r ids'

-- ---- a row of fields

-- what was read, in front of what is read next
abbrev pub before : {A : Type 0} → List A → Ans (List A) → Ans (List A)
before front x = and_then x (λ rest q. got (front ++ rest) q)

-- i of count fields were read from `from` on, and stand at the front of xs; the next is read from `at` on
pub record RowSo {A : Type 0} (field : List ℕ → ℕ → Ans A) (from : FieldReader) (count i : ℕ) (xs : List A) (at : FieldReader) : Type 0 where
  pub same : at.s.now ≡ from.s.now
  pub within : i ≤ count
  pub long : length xs ≡ count
  pub left : row field count from.s.now from.at.at.0 ≡ before (take i xs) (row field (count - i) from.s.now at.at.at.0)

-- the bits of a field of b bits for each of ids are there
pub record IdsFit (s : List ℕ) (p b : ℕ) (ids : List ℕ) : Type 0 where
  pub entered : Entered s p
  pub bits : p + length ids * b ≤ size s
  pub narrow : b ≤ 8

-- they were read into ids'
pub record IdsPut (from after : FieldReader) (b : ℕ) (ids ids' : List ℕ) : Type 0 where
  pub same : after.s.now ≡ from.s.now
  pub read : row (λ s p. read_bits s p b) (length ids) from.s.now from.at.at.0 ≡ got ids' after.at.at.0
