-- The entry checks of a reader and of a writer.
use mathlib.Core.Path.{◌≡◌, refl, sym, ap, subst, ◌∙◌}
use mathlib.Core.List.{List, [], ◌∷◌}
use mathlib.Core.Bool.{Bool, true, false, ◌||◌}
use Prim.Native.Nat.{ℕ, zero, suc, ◌+◌, ◌/◌, ◌%◌, ◌^◌, ◌≤◌, ◌<◌}
use native.Mathlib.Omega.{arith}
use native.Mathlib.Decide.{dec_lt}
use mathlib.Core.Logic.{dite, ◌⊎◌, inl, inr}
use borrow.Author.Tests.{lt-ltb, le-ltb, ltb-false, ltb-true, lt-leb, leb-false}
use lib.ListN.{length}
use lib.Dec.{ltb, leb}
use Rattle.desk.specs.Numbers.{most, entry_of}
use Rattle.desk.proofs.Entering.{entry_passed, entry_done, entry_long, entry_bad}
use Rattle.bits.specs.Rule.{size}
use Rattle.bits.specs.Answer.{past_end, entry_at, bad_writer, entry_on, unless}
use Rattle.bits.specs.Step.{Good}
use Rattle.bits.specs.declared.BitWriter.{BitWriter}
use Rattle.bits.specs.Reading.{Entered, WhyEntry, long, past}

-- what a number of the checks says, for one lent buffer
pub entry_numbers : (len : ℕ) (bad : Bool) (k : ℕ) → entry_of (len ∷ 0 ∷ 0 ∷ []) bad ≡ suc k
    → ((suc k ≡ 1) × (most < len)) ⊎ ((suc k ≡ 2) × (len ≤ most) × (bad ≡ true))
entry_numbers len bad k e = dite (dec_lt most len) over (λ h. within bad refl (omega arith))
  where
    over : most < len → ((suc k ≡ 1) × (most < len)) ⊎ ((suc k ≡ 2) × (len ≤ most) × (bad ≡ true))
    over h = inl (sym e ∙ entry_long (len ∷ 0 ∷ 0 ∷ []) bad (rw (lt-ltb most len h)), h)

    within : (b : Bool) → bad ≡ b → len ≤ most → ((suc k ≡ 1) × (most < len)) ⊎ ((suc k ≡ 2) × (len ≤ most) × (bad ≡ true))
    within true f h = inr (sym e ∙ entry_bad (len ∷ 0 ∷ 0 ∷ []) bad (h, (omega arith, (omega arith, tt))) f, h, f)
    within false f h = absurd (let z = entry_done (len ∷ 0 ∷ 0 ∷ []) bad (h, (omega arith, (omega arith, tt))) f in omega arith)

-- ---- a reader's

-- p bits take up more bytes than s has
pub past_bytes : (s : List ℕ) (p : ℕ) → ltb (length s) (p / 8 + (p % 8 + 7) / 8) ≡ past_end s p
unfolding past_end
past_bytes s p = dite (dec_lt (size s) p) past within
  where
    past : size s < p → ltb (length s) (p / 8 + (p % 8 + 7) / 8) ≡ past_end s p
    past h = lt-ltb (length s) (p / 8 + (p % 8 + 7) / 8) (omega arith) ∙ sym (lt-ltb (size s) p h)

    within : (size s < p → ⊥) → ltb (length s) (p / 8 + (p % 8 + 7) / 8) ≡ past_end s p
    within h = le-ltb (length s) (p / 8 + (p % 8 + 7) / 8) (omega arith) ∙ sym (le-ltb (size s) p (omega arith))

pub entered : (s : List ℕ) (p : ℕ) → entry_at s p ≡ 0 → Entered s p
unfolding past_end
entered s p e =
    let h = entry_passed (length s ∷ 0 ∷ 0 ∷ []) (past_end s p) e in
    record { small = h.0.0; within = ltb-false (size s) p h.1 }

pub enters : (s : List ℕ) (p : ℕ) → Entered s p → entry_at s p ≡ 0
unfolding past_end
enters s p h = entry_done (length s ∷ 0 ∷ 0 ∷ []) (past_end s p) (h.small, (omega arith, (omega arith, tt))) (le-ltb (size s) p h.within)

-- and what they do not
pub entry_why : (s : List ℕ) (p k : ℕ) → entry_at s p ≡ suc k → WhyEntry s p (suc k)
unfolding past_end
entry_why s p k e = go (entry_numbers (length s) (past_end s p) k e)
  where
    go : ((suc k ≡ 1) × (most < length s)) ⊎ ((suc k ≡ 2) × (length s ≤ most) × (ltb (size s) p ≡ true)) → WhyEntry s p (suc k)
    go (inl h) = subst (WhyEntry s p) (sym h.0) (long h.1)
    go (inr h) = subst (WhyEntry s p) (sym h.0) (past h.1 (ltb-true (size s) p h.2))

pub why_entry : {s : List ℕ} {p k : ℕ} → WhyEntry s p k → entry_at s p ≡ k
unfolding past_end
why_entry {s} {p} (long h) = entry_long (length s ∷ 0 ∷ 0 ∷ []) (ltb (size s) p) (rw (lt-ltb most (length s) h))
why_entry {s} {p} (past h l) = entry_bad (length s ∷ 0 ∷ 0 ∷ []) (ltb (size s) p) (h, (omega arith, (omega arith, tt))) (lt-ltb (size s) p l)

-- ---- a writer's

pub neither : (a b : Bool) → (a || b) ≡ false → (a ≡ false) × (b ≡ false)
neither false false h = (refl, refl)
neither false true h = cc
neither true b h = cc

module _ (len : ℕ) (st : BitWriter) where
  pub good : entry_on len st ≡ 0 → Good len st
  good e =
      let h = entry_passed (len ∷ 0 ∷ 0 ∷ []) (bad_writer len st) e in
      let a = neither (ltb len st.written.0) (ltb 7 st.count || leb (2 ^ st.count) st.pending) h.1 in
      let b = neither (ltb 7 st.count) (leb (2 ^ st.count) st.pending) a.1 in
      record {
        small = h.0.0;
        within = ltb-false len st.written.0 a.0;
        few = ltb-false 7 st.count b.0;
        below = leb-false (2 ^ st.count) st.pending b.1;
      }

  pub good_state : Good len st → bad_writer len st ≡ false
  good_state g = rw (le-ltb len st.written.0 g.within, le-ltb 7 st.count g.few, lt-leb (2 ^ st.count) st.pending g.below)

-- ---- a number of the checks is answered, and else what comes behind them
module _ {A : Type 0} (refuse : ℕ → A) (e k : ℕ) (is : e ≡ k) where
  pub refused : (x : A) → (e ≡ 0 → ⊥) → refuse e ≡ unless refuse k x
  refused x h = rw (← is) (go e h)
    where
      go : (n : ℕ) → (n ≡ 0 → ⊥) → refuse n ≡ unless refuse n x
      go zero g = absurd (g refl)
      go (suc n) g = refl

  pub passed : {x y : A} → e ≡ 0 → y ≡ x → y ≡ unless refuse k x
  passed {x} h q = q ∙ ap (λ (n : ℕ). unless refuse n x) (sym h ∙ is)

-- what holds of each number of the checks, and of what comes behind them, holds of the answer
pub unless_by : {A : Type 0} (P : A → Type 0) (refuse : ℕ → A) (n : ℕ) (x : A) → ((k : ℕ) → n ≡ suc k → P (refuse (suc k))) → (n ≡ 0 → P x)
    → P (unless refuse n x)
unless_by P refuse zero x f g = g refl
unless_by P refuse (suc k) x f g = f k refl
