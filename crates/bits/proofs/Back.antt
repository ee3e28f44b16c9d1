-- What a contract leaves: the answer that a call gives stands for what it was asked, and there is one outcome.
use Rattle.std.specs.Prelude.{ℕ, ◌≤◌, ◌<◌, ◌≡◌, List, Result, Ok, Err}
use mathlib.Core.Path.{refl, sym, ap, ap₂, ◌∙◌}
use mathlib.Core.Option.{Option, none, some}
use Rattle.desk.specs.Refusing.{refusal_number, answered}
use Rattle.desk.specs.declared.refusal.Refusal.{Refusal}
use Rattle.desk.proofs.Refusing.{number_one, number_every}
use Rattle.bits.specs.Step.{Wrote, wrote, kept}
use Rattle.bits.specs.Answer.{Ans, got, no, Told, told, denied, reader_at, answer, told_by, told_of, number, told_number, reader_back, Reads}
use Rattle.bits.specs.Answer.{aligned_answer, aligned_back, outcome, wrote_told, wrote_number, writer_back, room_back, Writes}
use Rattle.bits.specs.declared.BitReader.{BitReader}
use Rattle.bits.specs.declared.BitWriter.{BitWriter}

-- ---- what a call returns is fixed by what it tells, and its number is that of what it tells

pub told_one : {A : Type 0} (r r' : Result A Refusal) → told_by r ≡ told_by r' → r ≡ r'
told_one (Ok a) (Ok b) q = let e : a ≡ b = cc in ap (λ x. Ok x) e
told_one (Ok a) (Err f) q = cc
told_one (Err e) (Ok b) q = cc
told_one (Err e) (Err f) q = let n : refusal_number e ≡ refusal_number f = cc in ap (λ x. Err x) (number_one n)

pub told_is_number : {A : Type 0} (r : Result A Refusal) → answered r ≡ told_number (told_by r)
told_is_number (Ok a) = refl
told_is_number (Err e) = refl

-- a number that a question is denied by is of the table
abbrev pub ToldInTable : {A : Type 0} → Told A → Type 0
ToldInTable (told a) = Unit
ToldInTable (denied n) = (0 < n) × (n ≤ 18)

-- and each answer of a value, or of a number of the table, is one that some call gives
pub told_some : {A : Type 0} (t : Told A) → ToldInTable t → (r : Result A Refusal) × (told_by r ≡ t)
told_some (told a) h = (Ok a, refl)
told_some (denied n) h = let e = number_every n h.0 h.1 in (Err e.0, ap (λ (x : ℕ). denied x) e.1)

-- ---- reading

of_told : {A : Type 0} (a : Ans A) → told_number (told_of a) ≡ number a
of_told (got v q) = refl
of_told (no n) = refl

answer_of : {A : Type 0} (from after : BitReader) (r : Result A Refusal) (a : Ans A) → told_by r ≡ told_of a → after ≡ reader_back from a
    → answer r after ≡ a
answer_of {A} from after (Ok v) (got w q) t k = let e : v ≡ w = cc in ap₂ (λ (x : A) (s : BitReader). got x s.at.0) e k
answer_of from after (Ok v) (no n) t k = cc
answer_of from after (Err e) (got w q) t k = cc
answer_of from after (Err e) (no n) t k = let i : refusal_number e ≡ n = cc in ap (λ (x : ℕ). no x) i

-- a number that an answer refuses with is of the table
abbrev pub InTable : {A : Type 0} → Ans A → Type 0
InTable (got v q) = Unit
InTable (no n) = (0 < n) × (n ≤ 18)

module _ {A : Type 0} {from : BitReader} where
  pub answer_back : {after : BitReader} {r : Result A Refusal} {a : Ans A} → Reads from after r a → answer r after ≡ a
  answer_back {after} {r} {a} h = answer_of from after r a h.answers h.cursor

  -- so, of a call that met its contract, and whose result is known
  pub read_is : {after : BitReader} {r x : Result A Refusal} {a : Ans A} → Reads from after r a → r ≡ x → a ≡ answer x after
  read_is {after} h k = sym (answer_back h) ∙ ap (λ (z : Result A Refusal). answer z after) k

  pub refused_stays : {after : BitReader} {r : Result A Refusal} {a : Ans A} {e : Refusal} → Reads from after r a → r ≡ Err e → after ≡ from
  refused_stays {after} {r} {a} h k = h.cursor ∙ ap (reader_back from) (read_is h k)

  -- two results, and two readers, that meet the contract are one
  pub read_one : {x y : BitReader} {r r' : Result A Refusal} {a : Ans A} → Reads from x r a → Reads from y r' a → (r ≡ r') × (x ≡ y)
  read_one {r = r} {r' = r'} p q = (told_one r r' (p.answers ∙ sym q.answers), p.cursor ∙ sym q.cursor)

  pub read_number : {after : BitReader} {r : Result A Refusal} {a : Ans A} → Reads from after r a → answered r ≡ number a
  read_number {r = r} {a = a} h = told_is_number r ∙ ap told_number h.answers ∙ of_told a

  -- and a call that gives an answer meets the contract
  pub reads : {after : BitReader} {v : A} {a : Ans A} → a ≡ got v after.at.0 → Reads from after (Ok v) a
  reads e = record { answers = ap told_of (sym e); cursor = ap (reader_back from) (sym e) }

  pub refuses : {e : Refusal} {a : Ans A} → a ≡ no (refusal_number e) → Reads from from (Err e) a
  refuses e = record { answers = ap told_of (sym e); cursor = ap (reader_back from) (sym e) }

  -- and each answer of a value, or of a number of the table, is one that some call gives
  pub read_some : (a : Ans A) → InTable a → (r : Result A Refusal) × (after : BitReader) × Reads from after r a
  read_some (got v q) t = (Ok v, reader_at q, reads refl)
  read_some (no n) t = let e = number_every n t.0 t.1 in (Err e.0, from, refuses (ap (λ (x : ℕ). no x) (sym e.1)))

-- ---- places

pub aligned_answer_back : (a : Option ℕ) → aligned_answer (aligned_back a) ≡ a
aligned_answer_back (some b) = refl
aligned_answer_back none = refl

-- ---- writing

of_wrote : (a : Wrote) → told_number (wrote_told a) ≡ wrote_number a
of_wrote (wrote st o) = refl
of_wrote (kept n o) = refl

outcome_of : (from after : BitWriter) (r : Result Unit Refusal) (o : List ℕ) (a : Wrote) → told_by r ≡ wrote_told a → after ≡ writer_back from a
    → o ≡ room_back a → outcome r after o ≡ a
outcome_of from after (Ok v) o (wrote st l) t k m = ap₂ (λ (x : BitWriter) (y : List ℕ). wrote x y) k m
outcome_of from after (Ok v) o (kept n l) t k m = cc
outcome_of from after (Err e) o (wrote st l) t k m = cc
outcome_of from after (Err e) o (kept n l) t k m = let i : refusal_number e ≡ n = cc in ap₂ (λ (x : ℕ) (y : List ℕ). kept x y) i m

abbrev pub WroteInTable : Wrote → Type 0
WroteInTable (wrote st o) = Unit
WroteInTable (kept n o) = (0 < n) × (n ≤ 18)

module _ {from : BitWriter} where
  pub outcome_back : {after : BitWriter} {r : Result Unit Refusal} {o : List ℕ} {a : Wrote} → Writes from after r o a → outcome r after o ≡ a
  outcome_back {after} {r} {o} {a} w = outcome_of from after r o a w.answers w.writer w.memory

  pub write_number : {after : BitWriter} {r : Result Unit Refusal} {o : List ℕ} {a : Wrote} → Writes from after r o a → answered r ≡ wrote_number a
  write_number {r = r} {a = a} w = told_is_number r ∙ ap told_number w.answers ∙ of_wrote a

  pub writes : {st : BitWriter} {o : List ℕ} {a : Wrote} → wrote st o ≡ a → Writes from st (Ok tt) o a
  writes e = record { answers = ap wrote_told e; writer = ap (writer_back from) e; memory = ap room_back e }

  pub writes_as : {after : BitWriter} {r : Result Unit Refusal} {o : List ℕ} {a b : Wrote} → Writes from after r o a → a ≡ b → Writes from after r o b
  writes_as w e =
      record { answers = w.answers ∙ ap wrote_told e; writer = w.writer ∙ ap (writer_back from) e; memory = w.memory ∙ ap room_back e }

  -- each answer of a writer and a room, or of a number of the table, is one that some call gives
  pub write_some : (a : Wrote) → WroteInTable a → (r : Result Unit Refusal) × (after : BitWriter) × Writes from after r (room_back a) a
  write_some (wrote st o) t = (Ok tt, st, writes refl)
  write_some (kept n o) t =
      let e = number_every n t.0 t.1 in
      (Err e.0, from, record { answers = ap (λ (x : ℕ). denied x) e.1; writer = refl; memory = refl })

  -- two results, two writers and two rooms that meet the contract are one
  pub write_one : {x y : BitWriter} {r r' : Result Unit Refusal} {o o' : List ℕ} {a : Wrote} → Writes from x r o a → Writes from y r' o' a
      → (r ≡ r') × (x ≡ y) × (o ≡ o')
  write_one {r = r} {r' = r'} p q = (told_one r r' (p.answers ∙ sym q.answers), p.writer ∙ sym q.writer, p.memory ∙ sym q.memory)
