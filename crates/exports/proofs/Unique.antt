-- ONE OUTCOME for each exported function: the numbers are a function of the fronted call's answer, and that call's contract leaves one.
use Prim.Native.Nat.{ℕ}
use mathlib.Core.Path.{◌≡◌, ap, ap₂, sym, ◌∙◌}
use mathlib.Core.Bool.{Bool}
use mathlib.Core.List.{List}
use mathlib.Core.Option.{Option}
use lib.IntN.{ℤ}
use Rattle.std.specs.Prelude.{Result}
use Rattle.desk.specs.Push.{Answer}
use Rattle.desk.specs.Refusing.{answered}
use Rattle.desk.specs.declared.refusal.Refusal.{Refusal}
use Rattle.rbsp.specs.declared.writer.ByteWriter.{ByteWriter}
use Rattle.rbsp.proofs.Unique.{read_push_one, write_push_one, decode_one}
use Rattle.annexb.specs.declared.AnnexBReader.{AnnexBReader}
use Rattle.annexb.proofs.Laws.{one_result}
use Rattle.bits.specs.declared.BitReader.{BitReader}
use Rattle.bits.specs.declared.BitWriter.{BitWriter}
use Rattle.bits.specs.Reading.{Ans, Told, Reads}
use Rattle.bits.specs.Writing.{Wrote}
use Rattle.bits.proofs.Back.{told_one, read_one, write_one}
use Rattle.pps.specs.declared.Geometry.{Geometry}
use Rattle.pps.specs.declared.SliceRect.{SliceRect}
use Rattle.pps.proofs.Back.{one_groups}
use Rattle.exports.specs.Fronts.{Fronts, FrontsOn, lent_after}
use Rattle.exports.specs.Escaping.{reader_of, FrontsRead, FrontsWrite, FrontsDecode}
use Rattle.exports.specs.Framing.{FrontsFrame}
use Rattle.exports.specs.Bits.{FrontsBits, FrontsBit, FrontsMoved, FrontsSigned, FrontsMore, FrontsAligned, FrontsMapped, put_numbers, FrontsPut}
use Rattle.exports.specs.Groups.{Arrays, arrays_of, FrontsRect, FrontsGroups, groups_numbers}

-- where two answers of the fronted call are one, and memory too (M), so are the numbers
fronts : {R M : Type 0} {Call₁ Call₂ : R → Type 0} {numbers : R → List ℕ} {a₁ a₂ : List ℕ}
    → ((r₁ r₂ : R) → Call₁ r₁ → Call₂ r₂ → (r₁ ≡ r₂) × M) → Fronts Call₁ numbers a₁ → Fronts Call₂ numbers a₂ → (a₁ ≡ a₂) × M
fronts {numbers = numbers} one f g =
    let e = one f.r g.r f.call g.call in (f.told ∙ ap numbers e.0 ∙ sym g.told, e.1)

-- and where the states that it leaves are one too
fronts_on : {R S M : Type 0} {Call₁ Call₂ : R → S → Type 0} {numbers : R → S → List ℕ} {a₁ a₂ : List ℕ}
    → ((r₁ r₂ : R) (s₁ s₂ : S) → Call₁ r₁ s₁ → Call₂ r₂ s₂ → ((r₁ ≡ r₂) × (s₁ ≡ s₂)) × M)
    → FrontsOn Call₁ numbers a₁ → FrontsOn Call₂ numbers a₂ → (a₁ ≡ a₂) × M
fronts_on {numbers = numbers} one f g =
    let e = one f.r g.r f.after g.after f.call g.call in (f.told ∙ ap₂ numbers e.0.0 e.0.1 ∙ sym g.told, e.1)

-- ---- escaping and framing

pub read_front_one : (zeros skip : ℕ) (three : Bool) (chunk out out₁ out₂ a₁ a₂ : List ℕ)
    → FrontsRead zeros skip three chunk out out₁ a₁ → FrontsRead zeros skip three chunk out out₂ a₂ → (a₁ ≡ a₂) × (out₁ ≡ out₂)
read_front_one zeros skip three chunk out out₁ out₂ a₁ a₂ =
    fronts_on (λ r₁ r₂ s₁ s₂ p q. let e = read_push_one (reader_of zeros skip three) s₁ s₂ chunk out out₁ out₂ r₁ r₂ p q in ((e.0, e.1), e.2))

pub write_front_one : (s : ByteWriter) (chunk out out₁ out₂ a₁ a₂ : List ℕ)
    → FrontsWrite s chunk out out₁ a₁ → FrontsWrite s chunk out out₂ a₂ → (a₁ ≡ a₂) × (out₁ ≡ out₂)
write_front_one s chunk out out₁ out₂ a₁ a₂ =
    fronts_on (λ r₁ r₂ s₁ s₂ p q. let e = write_push_one s s₁ s₂ chunk out out₁ out₂ r₁ r₂ p q in ((e.0, e.1), e.2))

pub decode_front_one : {nal room room₁ room₂ a₁ a₂ : List ℕ}
    → FrontsDecode nal room room₁ a₁ → FrontsDecode nal room room₂ a₂ → (a₁ ≡ a₂) × (room₁ ≡ room₂)
decode_front_one {nal} {room} {room₁} {room₂} = fronts (λ r₁ r₂ p q. decode_one nal room room₁ room₂ r₁ r₂ p q)

pub frame_front_one : {a : Answer AnnexBReader} {room marks room₁ room₂ marks₁ marks₂ a₁ a₂ : List ℕ}
    → FrontsFrame a room marks room₁ marks₁ a₁ → FrontsFrame a room marks room₂ marks₂ a₂
    → (a₁ ≡ a₂) × ((room₁ ≡ room₂) × (marks₁ ≡ marks₂))
frame_front_one = fronts_on (λ r₁ r₂ s₁ s₂ p q. let e = one_result p q in ((e.0, e.1), (e.2, e.3)))

-- ---- bits and rectangles

-- where the call's contract is an equation, its front leaves one answer
pub equal_front_one : {R : Type 0} {x : R} {numbers : R → List ℕ} {a₁ a₂ : List ℕ}
    → Fronts (λ (r : R). r ≡ x) numbers a₁ → Fronts (λ (r : R). r ≡ x) numbers a₂ → a₁ ≡ a₂
equal_front_one {numbers = numbers} f g = f.told ∙ ap numbers (f.call ∙ sym g.call) ∙ sym g.told

-- so does that of every read: read, read_ue, read_bit, skip, read_num_ref_idx and read_slice_rect
pub read_on_one : {A : Type 0} {from : BitReader} {a : Ans A} {numbers : Result A Refusal → BitReader → List ℕ} {a₁ a₂ : List ℕ}
    → FrontsOn (λ (r : Result A Refusal) after. Reads from after r a) numbers a₁
    → FrontsOn (λ (r : Result A Refusal) after. Reads from after r a) numbers a₂ → a₁ ≡ a₂
read_on_one f g = (fronts_on (λ r₁ r₂ s₁ s₂ p q. (read_one p q, tt {0})) f g).0

module _ (from : BitReader) where
  pub bits_front_one : (a : Ans ℕ) {a₁ a₂ : List ℕ} → FrontsBits from a a₁ → FrontsBits from a a₂ → a₁ ≡ a₂
  bits_front_one a = read_on_one

  pub bit_front_one : (a : Ans Bool) {a₁ a₂ : List ℕ} → FrontsBit from a a₁ → FrontsBit from a a₂ → a₁ ≡ a₂
  bit_front_one a = read_on_one

  pub moved_front_one : (a : Ans Unit) {a₁ a₂ : List ℕ} → FrontsMoved from a a₁ → FrontsMoved from a a₂ → a₁ ≡ a₂
  moved_front_one a = read_on_one

  pub rect_front_one : (a : Ans SliceRect) {a₁ a₂ : List ℕ} → FrontsRect from a a₁ → FrontsRect from a a₂ → a₁ ≡ a₂
  rect_front_one a = read_on_one

  pub signed_front_one : (a : Ans ℤ) (v : ℤ) {v₁ v₂ : ℤ} {a₁ a₂ : List ℕ}
      → FrontsSigned from a v v₁ a₁ → FrontsSigned from a v v₂ a₂ → (a₁ ≡ a₂) × (v₁ ≡ v₂)
  signed_front_one a v = fronts_on (λ r₁ r₂ s₁ s₂ p q. let e = read_one p.0 q.0 in (e, p.1 ∙ ap (lent_after (λ z. z) v) e.0 ∙ sym q.1))

pub more_front_one : (a : Told Bool) {a₁ a₂ : List ℕ} → FrontsMore a a₁ → FrontsMore a a₂ → a₁ ≡ a₂
more_front_one a f g = (fronts (λ r₁ r₂ p q. (told_one r₁ r₂ (p ∙ sym q), tt {0})) f g).0

pub aligned_front_one : (a : Option ℕ) {a₁ a₂ : List ℕ} → FrontsAligned a a₁ → FrontsAligned a a₂ → a₁ ≡ a₂
aligned_front_one a = equal_front_one

pub mapped_front_one : {a : Told ℤ} {v v₁ v₂ : ℤ} {n₁ n₂ : ℕ} → FrontsMapped a v v₁ n₁ → FrontsMapped a v v₂ n₂ → (n₁ ≡ n₂) × (v₁ ≡ v₂)
mapped_front_one {v = v} f g =
    let e = told_one f.r g.r (f.call ∙ sym g.call) in (
      f.number_is ∙ ap answered e ∙ sym g.number_is,
      f.value_is ∙ ap (lent_after (λ z. z) v) e ∙ sym g.value_is,
    )

pub put_front_one : {w p c : ℕ} {out₁ out₂ : List ℕ} {by : BitWriter → Wrote} {a₁ a₂ : List ℕ}
    → FrontsPut w p c out₁ by a₁ → FrontsPut w p c out₂ by a₂ → (a₁ ≡ a₂) × (out₁ ≡ out₂)
put_front_one f g = let e = write_one f.call g.call in (f.told ∙ ap₂ put_numbers e.0 e.1 ∙ sym g.told, e.2)

-- ---- slice groups: the ids, the answer and the three arrays beside it

pub groups_front_one : {s : List ℕ} {from : BitReader} {n : ℕ} {g : Geometry} {ids ids₁ ids₂ a₁ a₂ : List ℕ} {lent lent₁ lent₂ : Arrays}
    → FrontsGroups s from n g ids lent ids₁ a₁ lent₁ → FrontsGroups s from n g ids lent ids₂ a₂ lent₂
    → (ids₁ ≡ ids₂) × (a₁ ≡ a₂) × (lent₁ ≡ lent₂)
groups_front_one {s} {from} {n} {g} {ids} {ids₁} {ids₂} {lent = lent} x y =
    let e = one_groups s from n g ids x.after y.after x.r y.r ids₁ ids₂ x.call y.call in (
      e.2,
      x.told ∙ ap₂ groups_numbers e.0 e.1 ∙ sym y.told,
      x.filled ∙ ap (lent_after arrays_of lent) e.0 ∙ sym y.filled,
    )
