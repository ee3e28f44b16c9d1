-- THE BITS OF SLICE GROUPS: the codes of their fields, one behind another, and which fields are in range. proofs/Codes.antt shows that a read
-- gives exactly those, and stops behind exactly those bits.
use Rattle.std.specs.Prelude.{ℕ, ◌+◌, ◌-◌, ◌*◌, ◌%◌, ◌^◌, ◌≤◌, ◌<◌, ◌≡◌, List, [], ◌∷◌, ◌++◌, true, length, get_or}
use Rattle.bits.specs.Reading.{got, bits_of, ue_code, bit_code, read_bits}
use Rattle.pps.specs.declared.SliceRect.{SliceRect}
use Rattle.pps.specs.Rule.{bottom_right_ok, id_bits, Fields, interleaved, dispersed, foreground, changing, explicit}

-- of a row
abbrev pub row_code : {A : Type 0} → (A → List ℕ) → List A → List ℕ
row_code code [] = []
row_code code (a ∷ rest) = code a ++ row_code code rest

abbrev pub All : {A : Type 0} → (A → Type 0) → List A → Type 0
All Ok [] = Unit
All Ok (a ∷ rest) = Ok a × All Ok rest

-- a row of that many
pub record RowOk {A : Type 0} (Ok : A → Type 0) (count : ℕ) (xs : List A) : Type 0 where
  pub many : length xs ≡ count
  pub each : All Ok xs

abbrev pub rect_code : SliceRect → List ℕ
rect_code rect = ue_code rect.top_left ++ ue_code rect.bottom_right

pub record RectOk (width size : ℕ) (rect : SliceRect) : Type 0 where
  pub order : rect.top_left ≤ rect.bottom_right
  pub within : bottom_right_ok size rect.bottom_right ≡ true
  pub columns : rect.top_left % width ≤ rect.bottom_right % width

-- slice_group_map_type
abbrev pub type_of : Fields → ℕ
type_of (interleaved runs) = 0
type_of dispersed = 1
type_of (foreground rects) = 2
type_of (changing t flag rate) = t
type_of (explicit ids) = 6

-- of what follows the type
abbrev pub fields_code : ℕ → Fields → List ℕ
fields_code n (interleaved runs) = row_code ue_code runs
fields_code n dispersed = []
fields_code n (foreground rects) = row_code rect_code rects
fields_code n (changing t flag rate) = bit_code flag ++ ue_code rate
fields_code n (explicit ids) = ue_code (length ids - 1) ++ row_code (bits_of (id_bits n)) ids

abbrev pub groups_code : ℕ → Fields → List ℕ
groups_code n f = ue_code (type_of f) ++ fields_code n f

pub record ChangeOk (size t rate : ℕ) : Type 0 where
  pub from : 3 ≤ t
  pub to : t ≤ 5
  pub below : rate < size

pub record IdsOk (n size : ℕ) (ids : List ℕ) : Type 0 where
  pub some : 1 ≤ length ids
  pub few : length ids ≤ size
  pub each : All (λ v. v < 2 ^ id_bits n) ids

abbrev pub FieldsOk : ℕ → ℕ → ℕ → Fields → Type 0
FieldsOk n width size (interleaved runs) = RowOk (λ v. v < size) (n + 1) runs
FieldsOk n width size dispersed = Unit
FieldsOk n width size (foreground rects) = RowOk (RectOk width size) n rects
FieldsOk n width size (changing t flag rate) = ChangeOk size t rate
FieldsOk n width size (explicit ids) = IdsOk n size ids

-- b is the least with 2 ^ b at least m
pub record LeastPower (m b : ℕ) : Type 0 where
  pub reaches : m ≤ 2 ^ b
  pub least : (k : ℕ) → m ≤ 2 ^ k → b ≤ k

-- ids stand from `start` on, up to q: id k is the k-th field of b bits
pub record IdsStand (s : List ℕ) (start b : ℕ) (ids : List ℕ) (q : ℕ) : Type 0 where
  pub ends : q ≡ start + length ids * b
  pub kth : (k : ℕ) → k < length ids → read_bits s (start + k * b) b ≡ got (get_or ids k 0) (start + (k + 1) * b)
