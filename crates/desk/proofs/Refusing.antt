-- A refusal's number is never 0, and fixes the refusal: so a contract that names the number leaves one answer.
use Rattle.std.specs.Prelude.{ℕ, zero, suc, ◌+◌, ◌-◌, ◌<◌, ◌≤◌, ◌≡◌, List, [], ◌∷◌, length, get_or, Result, Ok, Err}
use mathlib.Core.Path.{refl, ap, sym, ◌∙◌}
use native.Mathlib.Omega.{arith}
use Rattle.desk.specs.Refusing.{refusal_number, answered}
use Rattle.desk.specs.declared.refusal.Refusal.{Refusal}
use Rattle.desk.specs.declared.refusal.Refusal.TheVariants.{TooLong, BadState, BadWidth, BitsRunOut, ExpGolombTooLarge, RemainingData, ForbiddenByte}
use Rattle.desk.specs.declared.refusal.Refusal.TheVariants.{EmptyNal, NoCode, NoRoom, BadGeometry, BadMapType, BadRunLength, InvalidTopLeft}
use Rattle.desk.specs.declared.refusal.Refusal.TheVariants.{InvalidBottomRight, BadChangeRate, BadPicSize, BadNumRefIdx}

pub number_some : (e : Refusal) → 0 < refusal_number e
number_some TooLong = omega arith
number_some BadState = omega arith
number_some BadWidth = omega arith
number_some BitsRunOut = omega arith
number_some ExpGolombTooLarge = omega arith
number_some RemainingData = omega arith
number_some ForbiddenByte = omega arith
number_some EmptyNal = omega arith
number_some NoCode = omega arith
number_some NoRoom = omega arith
number_some BadGeometry = omega arith
number_some BadMapType = omega arith
number_some BadRunLength = omega arith
number_some InvalidTopLeft = omega arith
number_some InvalidBottomRight = omega arith
number_some BadChangeRate = omega arith
number_some BadPicSize = omega arith
number_some BadNumRefIdx = omega arith

-- the rows of the table, from 1 on
abbrev rows : List Refusal
rows =
    TooLong ∷ BadState ∷ BadWidth ∷ BitsRunOut ∷ ExpGolombTooLarge ∷ RemainingData ∷ ForbiddenByte ∷ EmptyNal ∷ NoCode ∷ NoRoom ∷ BadGeometry
    ∷ BadMapType ∷ BadRunLength ∷ InvalidTopLeft ∷ InvalidBottomRight ∷ BadChangeRate ∷ BadPicSize ∷ BadNumRefIdx ∷ []

abbrev row : ℕ → Refusal
row n = get_or rows (n - 1) TooLong

row_of : (e : Refusal) → row (refusal_number e) ≡ e
row_of TooLong = refl
row_of BadState = refl
row_of BadWidth = refl
row_of BitsRunOut = refl
row_of ExpGolombTooLarge = refl
row_of RemainingData = refl
row_of ForbiddenByte = refl
row_of EmptyNal = refl
row_of NoCode = refl
row_of NoRoom = refl
row_of BadGeometry = refl
row_of BadMapType = refl
row_of BadRunLength = refl
row_of InvalidTopLeft = refl
row_of InvalidBottomRight = refl
row_of BadChangeRate = refl
row_of BadPicSize = refl
row_of BadNumRefIdx = refl

pub number_one : {e f : Refusal} → refusal_number e ≡ refusal_number f → e ≡ f
number_one {e = e} {f = f} q = sym (row_of e) ∙ ap row q ∙ row_of f

-- an answer without a value is fixed by its number
pub answered_one : (r r' : Result Unit Refusal) → answered r ≡ answered r' → r ≡ r'
answered_one (Ok _) (Ok _) q = refl
answered_one (Ok _) (Err e) q = absurd (let z = number_some e in let y : ⊥ = omega arith in y)
answered_one (Err e) (Ok _) q = absurd (let z = number_some e in let y : ⊥ = omega arith in y)
answered_one (Err e) (Err f) q = ap (λ x. Err x) (number_one q)

-- and each number of the table is a refusal's: the rows' numbers count up from 1
abbrev Numbered : ℕ → List Refusal → Type 0
Numbered k [] = Unit
Numbered k (e ∷ l) = (refusal_number e ≡ k) × Numbered (suc k) l

numbered_at : (k i : ℕ) (l : List Refusal) → Numbered k l → i < length l → refusal_number (get_or l i TooLong) ≡ k + i
numbered_at k i [] h few = let z : ⊥ = omega arith in absurd z
numbered_at k zero (e ∷ l) h few = h.0 ∙ omega arith
numbered_at k (suc i) (e ∷ l) h few = numbered_at (suc k) i l h.1 (omega arith) ∙ omega arith

numbered : Numbered 1 rows
numbered =
    (refl, (refl, (refl, (refl, (refl, (refl, (refl, (refl, (refl, (refl, (refl, (refl, (refl, (refl, (refl, (refl, (refl, (refl, tt))))))))))))))))))

pub number_every : (n : ℕ) → 0 < n → n ≤ 18 → (e : Refusal) × (refusal_number e ≡ n)
number_every n some few = (row n, numbered_at 1 (n - 1) rows numbered (omega arith) ∙ omega arith)
