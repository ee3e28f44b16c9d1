-- Document 01's starred framing cases, proved together: by the rule, and by what push and reset answer.
use Prim.Native.Nat.{ℕ}
use mathlib.Core.Path.{◌≡◌, refl}
use mathlib.Core.Bool.{true}
use mathlib.Core.List.{List, [], ◌∷◌}
use Rattle.desk.specs.Numbers.{entry_of}
use Rattle.desk.specs.Push.{push_of, run}
use Rattle.annexb.specs.Rule.{frame, units_at_reset}
use Rattle.annexb.specs.Seen.{at, new}
use Rattle.annexb.specs.Answer.{push_answer, closing, reset_answer}

abbrev two_codes : List ℕ
two_codes = 0 ∷ 0 ∷ 1 ∷ 0 ∷ 0 ∷ 1 ∷ []

abbrev held_zeros : List ℕ
held_zeros = 0 ∷ 0 ∷ 1 ∷ 0x68 ∷ 0 ∷ 0 ∷ []

abbrev then_code : List ℕ
then_code = 0 ∷ 0 ∷ 1 ∷ 0x68 ∷ 0 ∷ 0 ∷ 0 ∷ 0 ∷ 1 ∷ []

pub record Starred : Type 0 where
  -- 00 00 01 00 00 01: one empty unit ended, one open
  pub empty_ended : frame two_codes ≡ record { closed = [] ∷ []; in_unit = true; rest = [] }
  pub empty_pushed : push_answer new two_codes 0 1 ≡ record { number = 0; taken = 6; bytes = []; marks = 0 ∷ []; after = at true 0 }
  -- 00 00 01 68 00 00, reset: unit 68 00 00
  pub zeros_at_reset : units_at_reset held_zeros ≡ (0x68 ∷ 0 ∷ 0 ∷ []) ∷ []
  pub zeros_pushed : push_answer new held_zeros 3 1 ≡ record { number = 0; taken = 6; bytes = 0x68 ∷ []; marks = []; after = at true 2 }
  pub zeros_reset : reset_answer (at true 2) 2 1 ≡ record { number = 0; taken = 0; bytes = 0 ∷ 0 ∷ []; marks = 2 ∷ []; after = new }
  -- the same with 00 00 01 for the reset: unit 68
  pub code_ended : frame then_code ≡ record { closed = (0x68 ∷ []) ∷ []; in_unit = true; rest = [] }
  pub code_pushed : push_answer new then_code 1 1 ≡ record { number = 0; taken = 9; bytes = 0x68 ∷ []; marks = 1 ∷ []; after = at true 0 }

pub starred : Starred
unfolding push_of run entry_of closing reset_answer
starred =
    record {
      empty_ended = refl;
      empty_pushed = refl;
      zeros_at_reset = refl;
      zeros_pushed = refl;
      zeros_reset = refl;
      code_ended = refl;
      code_pushed = refl;
    }
