-- What a contract leaves: the answer that a call gives stands for what it was asked, and there is one outcome.
use Rattle.std.specs.Prelude.{ℕ, ◌≡◌, List, Result}
use mathlib.Core.Path.{refl, sym, ap, ◌∙◌}
use Rattle.desk.specs.declared.refusal.Refusal.{Refusal}
use Rattle.bits.specs.Reading.{Ans, answer, Reads}
use Rattle.bits.specs.declared.BitReader.{BitReader}
use Rattle.bits.proofs.Back.{answer_back, read_one}
use Rattle.pps.specs.declared.Geometry.{Geometry}
use Rattle.pps.specs.declared.SliceRect.{SliceRect}
use Rattle.pps.specs.declared.SliceGroupRead.{SliceGroupRead}
use Rattle.pps.specs.declared.fields.FieldReader.{FieldReader}
use Rattle.pps.specs.Step.{ReadsField}
use Rattle.pps.specs.Answer.{rect_answer, ReadsRectIn, ReadsGroups}

-- a field whose answer is known
pub field_is : {A : Type 0} {from after : FieldReader} {r x : Result A Refusal} {a : Ans A} → ReadsField from after r a → r ≡ x
    → a ≡ answer x after.at
field_is {after = after} h e = sym h.answers ∙ ap (λ (z : Result _ Refusal). answer z after.at) e

-- a bit reader's call, in a read under way
pub as_field : {A : Type 0} {from : FieldReader} {at : BitReader} {r : Result A Refusal} {a : Ans A} → Reads from.at at r a
    → ReadsField from (record { s = from.s; at = at }) r a
as_field h = record { same = refl; answers = answer_back h }

pub rect_answer_back : {from after : BitReader} {r : Result SliceRect Refusal} {a : Ans SliceRect} → Reads from after r a → rect_answer r after ≡ a
rect_answer_back h = answer_back h

-- SliceRect::read: two results, and two readers, that meet the contract are one
pub one_rect : (s : List ℕ) (from : BitReader) (g : Geometry) (x y : BitReader) (r r' : Result SliceRect Refusal)
    → ReadsRectIn s from g x r → ReadsRectIn s from g y r' → (r ≡ r') × (x ≡ y)
one_rect s from g x y r r' a b = read_one a b

-- SliceGroup::read: two results, two readers and two id buffers that meet the contract are one
pub one_groups : (s : List ℕ) (from : BitReader) (n : ℕ) (g : Geometry) (ids : List ℕ) (x y : BitReader) (r r' : Result SliceGroupRead Refusal)
    (ids₁ ids₂ : List ℕ) → ReadsGroups s from n g ids x r ids₁ → ReadsGroups s from n g ids y r' ids₂ → (r ≡ r') × (x ≡ y) × (ids₁ ≡ ids₂)
one_groups s from n g ids x y r r' ids₁ ids₂ a b = let one = read_one a.read b.read in (one.0, one.1, a.memory ∙ sym b.memory)
