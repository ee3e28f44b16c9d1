-- An exported call is the call that it fronts.
use Rattle.std.specs.Prelude.{ℕ, ◌≡◌, List, [], ◌∷◌, Result, Ok, Err}
use Rattle.desk.specs.Refusing.{answered}
use Rattle.desk.specs.Steps.{pushed_of}
use Rattle.desk.specs.declared.push.Pushed.{Pushed}
use Rattle.desk.specs.declared.refusal.Refusal.{Refusal}

-- some answer r meets the fronted call's own contract, and the lent array holds r's numbers
pub record Fronts {R : Type 0} (Call : R → Type 0) (numbers : R → List ℕ) (answer' : List ℕ) : Type 0 where
  pub r : R
  pub call : Call r
  pub told : answer' ≡ numbers r

-- the same of a call that is lent a state: some answer r and state that it leaves, and their numbers
pub record FrontsOn {R S : Type 0} (Call : R → S → Type 0) (numbers : R → S → List ℕ) (answer' : List ℕ) : Type 0 where
  pub r : R
  pub after : S
  pub call : Call r after
  pub told : answer' ≡ numbers r after

-- a number of an answer's value; of a refusal 0
abbrev pub value_of : {A : Type 0} → (A → ℕ) → Result A Refusal → ℕ
value_of value (Ok a) = value a
value_of value (Err e) = 0

-- what lent memory holds as a call returns: what the call's value gives, and what it held before where it is refused
abbrev pub lent_after : {A B : Type 0} → (A → B) → B → Result A Refusal → B
lent_after given before (Ok a) = given a
lent_after given before (Err e) = before

-- the number of a push, and what it took and wrote
abbrev pub push_numbers : Result Pushed Refusal → List ℕ
push_numbers r = answered r ∷ (pushed_of r).taken ∷ (pushed_of r).written ∷ (pushed_of r).marked ∷ []
