-- WHAT TIES THE CODE'S STEP AND PUSH to what a byte does and to a push's answer.
use Rattle.std.specs.Prelude.{ℕ, zero, suc, Bool, cond, List, [], ◌∷◌, ◌++◌, length, replicate, Option as RustOption, Some, None, Result, Ok, Err}
use Rattle.std.proofs.Math.Option.{Option, none, some}
use Rattle.desk.specs.Numbers.{done, forbidden_byte}
use Rattle.desk.specs.Refusing.{answered}
use Rattle.desk.specs.Push.{Out, Next, Answer, answers, run, Gives}
use Rattle.desk.specs.declared.push.Pushed.{Pushed}
use Rattle.desk.specs.declared.push.Step.{Step}
use Rattle.desk.specs.declared.refusal.Refusal.{Refusal}

-- what a byte releases, by their number: itself last, and `lead` so often before it
abbrev pub released : ℕ → ℕ → ℕ → List ℕ
released lead zero b = []
released lead (suc n) b = replicate n lead ++ b ∷ []

-- a mark, or none
abbrev pub mark_list : Bool → ℕ → List ℕ
mark_list c n = cond c (n ∷ []) []

-- what the code's step says of the byte b
abbrev pub out_of : {S : Type 0} → ℕ → ℕ → Step S → Out S
out_of lead b d = record { after = d.after; bytes = released lead d.count b; mark = d.ends }

abbrev pub step_out : {S : Type 0} → ℕ → ℕ → RustOption (Step S) → Option (Out S)
step_out lead b None = none
step_out lead b (Some d) = some (out_of lead b d)

-- THE CONTRACT OF A RUN: all that it leaves is the run's answer, and an Err is one that met a forbidden byte
abbrev pub Ran : {S : Type 0} → Answer S → List ℕ → List ℕ → S → List ℕ → List ℕ → Result Pushed Pushed → Type 0
Ran a room marks s' room' marks' (Ok p) = Gives a room marks room' marks' done p.taken p.written p.marked s'
Ran a room marks s' room' marks' (Err p) = Gives a room marks room' marks' forbidden_byte p.taken p.written p.marked s'

abbrev pub Runs : {S : Type 0} → Next S → S → List ℕ → List ℕ → List ℕ → S → List ℕ → List ℕ → Result Pushed Pushed → Type 0
Runs next s chunk room marks s' room' marks' r = Ran (run next (length room) (length marks) (answers done s) chunk) room marks s' room' marks' r

-- what a call says that it took and wrote: nothing, where it is refused
abbrev pub pushed_of : Result Pushed Refusal → Pushed
pushed_of (Ok p) = p
pushed_of (Err e) = record { taken = 0; written = 0; marked = 0 }

-- THE CONTRACT OF A CALL that answers `a` or refuses: all that it leaves is the answer
abbrev pub Gave : {S : Type 0} → Answer S → List ℕ → List ℕ → S → List ℕ → List ℕ → Result Pushed Refusal → Type 0
Gave a room marks s' room' marks' r =
    Gives a room marks room' marks' (answered r) (pushed_of r).taken (pushed_of r).written (pushed_of r).marked s'
