-- ONE OUTCOME for each public call: two results, the states left and the rooms that meet its contract are equal.
use Prim.Native.Nat.{ℕ}
use native.Mathlib.Omega.{arith}
use mathlib.Core.Path.{◌≡◌, refl, ap, sym, ◌∙◌}
use mathlib.Core.Bool.{cond}
use mathlib.Core.List.{List}
use mathlib.Core.Option.{Option, none, some}
use lib.Dec.{eqb}
use Rattle.std.specs.Prelude.{Result, Ok, Err}
use Rattle.desk.specs.declared.refusal.Refusal.{Refusal}
use Rattle.desk.specs.declared.refusal.Refusal.TheVariants.{ForbiddenByte}
use Rattle.desk.specs.declared.push.Pushed.{Pushed}
use Rattle.desk.proofs.Refusing.{number_some, number_one}
use Rattle.desk.proofs.Unique.{one_outcome, one_gave}
use Rattle.rbsp.specs.Answer.{ReadPush, read_number, read_counts, WritePush, number_of, value_of, Decodes}
use Rattle.rbsp.specs.declared.nal.Decoded.{Decoded}
use Rattle.rbsp.specs.declared.nal.Decoded.TheVariants.{Own, Filled}
use Rattle.rbsp.specs.declared.nal.Undecoded.{Undecoded}
use Rattle.rbsp.specs.declared.nal.Undecoded.TheVariants.{TooLong, Empty, Forbidden, NoRoom}
use Rattle.rbsp.specs.declared.reader.ParseState.{ParseState}
use Rattle.rbsp.specs.declared.reader.Stopped.{Stopped}
use Rattle.rbsp.specs.declared.reader.Stopped.TheVariants.{Refused, Forbidden as StoppedForbidden}
use Rattle.rbsp.specs.declared.writer.ByteWriter.{ByteWriter}

-- an answer is fixed by its number and its counts
read_same : (r₁ r₂ : Result Pushed Stopped) → (r₁ ≡ Err (Refused ForbiddenByte) → ⊥) → (r₂ ≡ Err (Refused ForbiddenByte) → ⊥)
    → read_number r₁ ≡ read_number r₂ → read_counts r₁ ≡ read_counts r₂ → r₁ ≡ r₂
read_same (Ok p) (Ok q) f g n c = ap (λ x. Ok x) c
read_same (Ok p) (Err (Refused e)) f g n c = absurd (let z = number_some e in let y : ⊥ = omega arith in y)
read_same (Ok p) (Err (StoppedForbidden q)) f g n c = absurd (omega arith)
read_same (Err (Refused e)) (Ok q) f g n c = absurd (let z = number_some e in let y : ⊥ = omega arith in y)
read_same (Err (Refused e)) (Err (Refused e')) f g n c = ap (λ x. Err (Refused x)) (number_one n)
read_same (Err (Refused e)) (Err (StoppedForbidden q)) f g n c = absurd (f (ap (λ x. Err (Refused x)) (number_one {e = e} {f = ForbiddenByte} n)))
read_same (Err (StoppedForbidden p)) (Ok q) f g n c = absurd (omega arith)
read_same (Err (StoppedForbidden p)) (Err (Refused e)) f g n c =
    absurd (g (ap (λ x. Err (Refused x)) (number_one {e = e} {f = ForbiddenByte} (sym n))))
read_same (Err (StoppedForbidden p)) (Err (StoppedForbidden q)) f g n c = ap (λ x. Err (StoppedForbidden x)) c

pub read_push_one : (s s₁ s₂ : ParseState) (chunk out out₁ out₂ : List ℕ) (r₁ r₂ : Result Pushed Stopped) → ReadPush s s₁ chunk out out₁ r₁
    → ReadPush s s₂ chunk out out₂ r₂ → (r₁ ≡ r₂) × (s₁ ≡ s₂) × (out₁ ≡ out₂)
read_push_one s s₁ s₂ chunk out out₁ out₂ r₁ r₂ p q =
    let e = one_outcome p.gives q.gives in (
      read_same r₁ r₂ p.delivers q.delivers e.number (λ i. record { taken = e.taken i; written = e.wrote i; marked = e.marked i }),
      e.state,
      e.out,
    )

pub write_push_one : (s s₁ s₂ : ByteWriter) (chunk out out₁ out₂ : List ℕ) (r₁ r₂ : Result Pushed Refusal) → WritePush s s₁ chunk out out₁ r₁
    → WritePush s s₂ chunk out out₂ r₂ → (r₁ ≡ r₂) × (s₁ ≡ s₂) × (out₁ ≡ out₂)
write_push_one s s₁ s₂ chunk out out₁ out₂ r₁ r₂ p q = let e = one_gave p q in (e.0, e.1, e.2)

-- the answer that a number and a value are of
abbrev back : ℕ → Option ℕ → Result Decoded Undecoded
back n none = cond (eqb n 0) (Ok Own) (cond (eqb n 1) (Err TooLong) (cond (eqb n 8) (Err Empty) (Err NoRoom)))
back n (some v) = cond (eqb n 0) (Ok (Filled v)) (Err (Forbidden v))

back_of : (r : Result Decoded Undecoded) → back (number_of r) (value_of r) ≡ r
back_of (Ok Own) = refl
back_of (Ok (Filled n)) = refl
back_of (Err TooLong) = refl
back_of (Err Empty) = refl
back_of (Err (Forbidden i)) = refl
back_of (Err NoRoom) = refl

pub decode_one : (nal room room₁ room₂ : List ℕ) (r₁ r₂ : Result Decoded Undecoded) → Decodes nal room room₁ r₁ → Decodes nal room room₂ r₂
    → (r₁ ≡ r₂) × (room₁ ≡ room₂)
decode_one nal room room₁ room₂ r₁ r₂ p q = (
  sym (back_of r₁) ∙ (λ i. back ((p.number_is ∙ sym q.number_is) i) ((p.value_is ∙ sym q.value_is) i)) ∙ back_of r₂,
  p.room_is ∙ sym q.room_is,
)
