-- The numbers of the states and answers of `annexb`.
use Rattle.std.specs.Prelude.{ℕ, Bool, cond, List, [], ◌∷◌, length, Result}
use Rattle.desk.specs.Push.{Answer}
use Rattle.desk.specs.Refusing.{answered}
use Rattle.desk.specs.Steps.{Gave, pushed_of}
use Rattle.desk.specs.declared.push.Pushed.{Pushed}
use Rattle.desk.specs.declared.refusal.Refusal.{Refusal}
use Rattle.annexb.specs.declared.AnnexBReader.{AnnexBReader}
use Rattle.annexb.specs.Answer.{push_answer, reset_answer}
use Rattle.exports.specs.Fronts.{FrontsOn}

abbrev pub frame_of : Bool → ℕ → AnnexBReader
frame_of in_unit zeros = record { in_unit = in_unit; zeros = zeros }

-- the number, the bytes taken, the bytes and the marks written, and the state
abbrev pub frame_numbers : Result Pushed Refusal → AnnexBReader → List ℕ
frame_numbers r after =
    answered r ∷ (pushed_of r).taken ∷ (pushed_of r).written ∷ (pushed_of r).marked ∷ cond after.in_unit 1 0 ∷ after.zeros ∷ []

abbrev pub FrontsFrame : Answer AnnexBReader → List ℕ → List ℕ → List ℕ → List ℕ → List ℕ → Type 0
FrontsFrame a room marks room' marks' = FrontsOn (λ r after. Gave a room marks after room' marks' r) frame_numbers

abbrev pub FrontsPush : AnnexBReader → List ℕ → List ℕ → List ℕ → List ℕ → List ℕ → List ℕ → Type 0
FrontsPush s chunk room marks = FrontsFrame (push_answer s chunk (length room) (length marks)) room marks

abbrev pub FrontsReset : AnnexBReader → List ℕ → List ℕ → List ℕ → List ℕ → List ℕ → Type 0
FrontsReset s room marks = FrontsFrame (reset_answer s (length room) (length marks)) room marks
