-- The numbers of the states and answers of `bits`.
use Rattle.std.specs.Prelude.{ℕ, ◌≡◌, Bool, cond, List, [], ◌∷◌, ℤ, Result, Ok, Err, Option as Optional, Some, None}
use Rattle.std.proofs.Math.Option.{Option}
use Rattle.desk.specs.Refusing.{answered}
use Rattle.desk.specs.declared.refusal.Refusal.{Refusal}
use Rattle.bits.specs.declared.BitReader.{BitReader}
use Rattle.bits.specs.declared.BitWriter.{BitWriter}
use Rattle.bits.specs.declared.BytePos.{BytePos}
use Rattle.bits.specs.Reading.{Ans, Told, told_by, Reads, aligned_back}
use Rattle.bits.specs.Writing.{Wrote, writer, Writes}
use Rattle.exports.specs.Fronts.{Fronts, FrontsOn, value_of, lent_after}

-- ---- reading: the number, the value and the place behind it; of a refusal no value, and the place as it came

abbrev pub told_numbers : {A : Type 0} → (A → ℕ) → Result A Refusal → List ℕ
told_numbers value r = answered r ∷ value_of value r ∷ []

abbrev pub moved_numbers : {A : Type 0} → Result A Refusal → BitReader → List ℕ
moved_numbers r reader = answered r ∷ reader.at.0 ∷ []

abbrev pub field_numbers : {A : Type 0} → (A → ℕ) → Result A Refusal → BitReader → List ℕ
field_numbers value r reader = answered r ∷ value_of value r ∷ reader.at.0 ∷ []

-- the same, by what a conversion to a number gives
abbrev pub ValueIs : {A : Type 0} → (A → ℕ → Type 0) → Result A Refusal → ℕ → Type 0
ValueIs gives (Ok a) v = gives a v
ValueIs gives (Err e) v = v ≡ 0

pub record ToldNumbers {A : Type 0} (gives : A → ℕ → Type 0) (r : Result A Refusal) (l : List ℕ) : Type 0 where
  pub value : ℕ
  pub value_is : ValueIs gives r value
  pub numbers : l ≡ answered r ∷ value ∷ []

pub record FieldNumbers {A : Type 0} (gives : A → ℕ → Type 0) (r : Result A Refusal) (reader : BitReader) (l : List ℕ) : Type 0 where
  pub value : ℕ
  pub value_is : ValueIs gives r value
  pub numbers : l ≡ answered r ∷ value ∷ reader.at.0 ∷ []

abbrev pub FrontsField : {A : Type 0} → (A → ℕ) → BitReader → Ans A → List ℕ → Type 0
FrontsField {A} value from a = FrontsOn (λ (r : Result A Refusal) after. Reads from after r a) (field_numbers value)

abbrev pub FrontsBits : BitReader → Ans ℕ → List ℕ → Type 0
FrontsBits = FrontsField (λ v. v)

abbrev pub FrontsBit : BitReader → Ans Bool → List ℕ → Type 0
FrontsBit = FrontsField (λ v. cond v 1 0)

abbrev pub FrontsMoved : BitReader → Ans Unit → List ℕ → Type 0
FrontsMoved from a = FrontsOn (λ (r : Result Unit Refusal) after. Reads from after r a) moved_numbers

-- a signed value has a place of its own, which a refusal leaves as it came
abbrev pub FrontsSigned : BitReader → Ans ℤ → ℤ → ℤ → List ℕ → Type 0
FrontsSigned from a value value' =
    FrontsOn (λ (r : Result ℤ Refusal) after. Reads from after r a × (value' ≡ lent_after (λ z. z) value r)) moved_numbers

-- the number, and 1 for yes
abbrev pub FrontsMore : Told Bool → List ℕ → Type 0
FrontsMore a = Fronts (λ (r : Result Bool Refusal). told_by r ≡ a) (told_numbers (λ v. cond v 1 0))

-- 1 where a byte starts there, and its place
abbrev pub aligned_numbers : Optional BytePos → List ℕ
aligned_numbers (Some b) = 1 ∷ b.0 ∷ []
aligned_numbers None = 0 ∷ 0 ∷ []

abbrev pub FrontsAligned : Option ℕ → List ℕ → Type 0
FrontsAligned a = Fronts (λ (r : Optional BytePos). r ≡ aligned_back a) aligned_numbers

-- ---- se(v)'s mapping as a call: the number, and a value that a refusal leaves as it came

pub record FrontsMapped (a : Told ℤ) (value value' : ℤ) (number : ℕ) : Type 0 where
  pub r : Result ℤ Refusal
  pub call : told_by r ≡ a
  pub number_is : number ≡ answered r
  pub value_is : value' ≡ lent_after (λ z. z) value r

-- ---- writing: the number, and the writer: bytes written, pending bits as a number, and their count

abbrev pub put_numbers : Result Unit Refusal → BitWriter → List ℕ
put_numbers r s = answered r ∷ s.written.0 ∷ s.pending ∷ s.count ∷ []

-- a call that writes from the writer of these three numbers, and answers what such a call answers
pub record FrontsPut (written pending count : ℕ) (out' : List ℕ) (written_by : BitWriter → Wrote) (answer' : List ℕ) : Type 0 where
  pub r : Result Unit Refusal
  pub after : BitWriter
  pub call : Writes (writer written pending count) after r out' (written_by (writer written pending count))
  pub told : answer' ≡ put_numbers r after
