-- ONE OUTCOME: what a call's contract says leaves one.
use Prim.Native.Nat.{ℕ}
use mathlib.Core.Path.{◌≡◌, refl, ap, sym, ◌∙◌}
use lib.ListN.{length}
use mathlib.Core.List.{List}
use native.Mathlib.Omega.{arith}
use Rattle.std.specs.Prelude.{Result, Ok, Err, Option, Some, None}
use Rattle.desk.specs.Push.{Out, Answer, Gives}
use Rattle.desk.specs.Refusing.{answered}
use Rattle.desk.specs.Steps.{pushed_of, Gave, Ran, out_of, step_out}
use Rattle.desk.specs.declared.push.Pushed.{Pushed}
use Rattle.desk.specs.declared.push.Step.{Step}
use Rattle.desk.specs.declared.refusal.Refusal.{Refusal}
use Rattle.desk.proofs.Refusing.{number_some, number_one}
use Rattle.desk.proofs.Running.{released_count}

-- two outcomes that meet one contract
pub record Same {S : Type 0} (out₁ out₂ marks₁ marks₂ : List ℕ) (number₁ number₂ taken₁ taken₂ wrote₁ wrote₂ marked₁ marked₂ : ℕ)
    (state₁ state₂ : S) : Type 0 where
  pub out : out₁ ≡ out₂
  pub marks : marks₁ ≡ marks₂
  pub number : number₁ ≡ number₂
  pub taken : taken₁ ≡ taken₂
  pub wrote : wrote₁ ≡ wrote₂
  pub marked : marked₁ ≡ marked₂
  pub state : state₁ ≡ state₂

pub one_outcome : {S : Type 0} {a : Answer S} {out marks out₁ out₂ marks₁ marks₂ : List ℕ}
    {number₁ number₂ taken₁ taken₂ wrote₁ wrote₂ marked₁ marked₂ : ℕ} {state₁ state₂ : S}
    → Gives a out marks out₁ marks₁ number₁ taken₁ wrote₁ marked₁ state₁ → Gives a out marks out₂ marks₂ number₂ taken₂ wrote₂ marked₂ state₂
    → Same out₁ out₂ marks₁ marks₂ number₁ number₂ taken₁ taken₂ wrote₁ wrote₂ marked₁ marked₂ state₁ state₂
one_outcome p q =
    record {
      out = p.room ∙ sym q.room;
      marks = p.mark_room ∙ sym q.mark_room;
      number = p.number_is ∙ sym q.number_is;
      taken = p.taken_is ∙ sym q.taken_is;
      wrote = p.wrote_is ∙ sym q.wrote_is;
      marked = p.marked_is ∙ sym q.marked_is;
      state = p.state_is ∙ sym q.state_is;
    }

same_result : (r₁ r₂ : Result Pushed Refusal) → answered r₁ ≡ answered r₂ → pushed_of r₁ ≡ pushed_of r₂ → r₁ ≡ r₂
same_result (Ok p) (Ok q) n e = ap (λ (x : Pushed). Ok x) e
same_result (Ok p) (Err e) n _ = absurd (let z = number_some e in let x : ⊥ = omega arith in x)
same_result (Err e) (Ok p) n _ = absurd (let z = number_some e in let x : ⊥ = omega arith in x)
same_result (Err e) (Err f) n _ = ap (λ (x : Refusal). Err x) (number_one n)

-- so of a call that answers or refuses
pub one_gave : {S : Type 0} {a : Answer S} {room marks : List ℕ} {s₁ s₂ : S} {room₁ room₂ marks₁ marks₂ : List ℕ} {r₁ r₂ : Result Pushed Refusal}
    → Gave a room marks s₁ room₁ marks₁ r₁ → Gave a room marks s₂ room₂ marks₂ r₂ → (r₁ ≡ r₂) × (s₁ ≡ s₂) × (room₁ ≡ room₂) × (marks₁ ≡ marks₂)
one_gave {r₁ = r₁} {r₂ = r₂} p q =
    let same = one_outcome p q in (
      same_result r₁ r₂ same.number (λ i. record { taken = same.taken i; written = same.wrote i; marked = same.marked i }),
      same.state,
      same.out,
      same.marks,
    )

-- of a run, which forbids or not
pub one_run : {S : Type 0} (a : Answer S) (room marks : List ℕ) (s₁ s₂ : S) (room₁ room₂ marks₁ marks₂ : List ℕ) (r₁ r₂ : Result Pushed Pushed)
    → Ran a room marks s₁ room₁ marks₁ r₁ → Ran a room marks s₂ room₂ marks₂ r₂ → (r₁ ≡ r₂) × (s₁ ≡ s₂) × (room₁ ≡ room₂) × (marks₁ ≡ marks₂)
one_run a room marks s₁ s₂ room₁ room₂ marks₁ marks₂ (Ok p) (Ok q) f g =
    let same = one_outcome f g in
    (λ i. Ok (record { taken = same.taken i; written = same.wrote i; marked = same.marked i }), same.state, same.out, same.marks)
one_run a room marks s₁ s₂ room₁ room₂ marks₁ marks₂ (Ok p) (Err q) f g =
    absurd (let same = one_outcome f g in let x : ◌≡◌ {A = ℕ} 0 7 = same.number in let y : ⊥ = omega arith in y)
one_run a room marks s₁ s₂ room₁ room₂ marks₁ marks₂ (Err p) (Ok q) f g =
    absurd (let same = one_outcome f g in let x : ◌≡◌ {A = ℕ} 7 0 = same.number in let y : ⊥ = omega arith in y)
one_run a room marks s₁ s₂ room₁ room₂ marks₁ marks₂ (Err p) (Err q) f g =
    let same = one_outcome f g in
    (λ i. Err (record { taken = same.taken i; written = same.wrote i; marked = same.marked i }), same.state, same.out, same.marks)

-- and of a step: what it says of the byte fixes its answer
pub one_step : {S : Type 0} (lead b : ℕ) (r r' : Option (Step S)) → step_out lead b r ≡ step_out lead b r' → r ≡ r'
one_step lead b None None q = refl
one_step lead b None (Some d) q = cc
one_step lead b (Some d) None q = cc
one_step lead b (Some d) (Some d') q =
    let o : out_of lead b d ≡ out_of lead b d' = cc in
    let n : d.count ≡ d'.count = sym (released_count lead d.count b) ∙ ap (λ (x : Out _). length x.bytes) o ∙ released_count lead d'.count b in
    λ i. Some (record { after = ap (λ (x : Out _). x.after) o i; count = n i; ends = ap (λ (x : Out _). x.mark) o i })
