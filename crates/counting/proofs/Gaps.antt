-- The loop that puts distances in place of marks.
use Rattle.std.proofs.Common.{◌≡◌, ℕ, suc, ◌+◌, ◌%◌, min, List, [], ◌∷◌, ◌++◌, length, take, drop}
use Rattle.std.proofs.Common.{sym, refl, ap, ◌∙◌, ap₂, arith, length-take}
use Rattle.std.proofs.lemmas.List.{take_min}
use Rattle.desk.specs.Room.{with_front}
use Rattle.counting.specs.declared.Tally.{Tally}
use Rattle.counting.specs.Tally.{wrap, gap, lengths, last_of, Tallied}

pub lengths_long : (s : ℕ) (l : List ℕ) → length (lengths s l) ≡ length l
lengths_long s [] = refl
lengths_long s (m ∷ l) = ap suc (lengths_long m l)

-- the loop's invariant, after i marks: the distances of the marks that are left stand behind those that are written
pub record Passed (marks₀ : List ℕ) (start : ℕ) (marks : List ℕ) (last i : ℕ) : Type 0 where
  pub written : lengths start marks₀ ≡ take i marks ++ lengths last (drop i marks)
  pub last_is : last_of start marks₀ ≡ last_of last (drop i marks)

-- a tally, by what the calls in it ensure
pub tallied : (t : Tally) (marks front : List ℕ) (marked wrote count start last bytes : ℕ) → count ≡ min marked (length marks) → start ≡ gap 0 t.bytes
    → front ≡ lengths start (take count marks) → last ≡ last_of start (take count marks)
    → bytes ≡ gap wrote last → Tallied t marks marked wrote (front ++ drop count marks) (record { units = (t.units + count) % wrap; bytes = bytes })
unfolding with_front
tallied t marks front marked wrote count start last bytes ec es ef el eb =
    let taken : take count marks ≡ take marked marks = ap (λ (n : ℕ). take n marks) ec ∙ take_min marked marks in
    let here : front ≡ lengths (gap 0 t.bytes) (take marked marks) = ef ∙ ap₂ lengths es taken in
    let long : count ≡ length front = omega (arith, ap length ef, lengths_long start (take count marks), length-take count marks, ec) in
    record {
      lengths_are = ap (λ (n : ℕ). front ++ drop n marks) long ∙ ap (λ (l : List ℕ). l ++ drop (length l) marks) here;
      units_is = ap (λ (n : ℕ). (t.units + n) % wrap) (ec ∙ sym (length-take marked marks));
      bytes_is = eb ∙ ap (gap wrote) (el ∙ ap₂ last_of es taken);
    }
