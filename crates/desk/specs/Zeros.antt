-- WHAT A STEP KEEPS OF THE BYTES BEHIND IT: the zeros that end them, two at most. No rule cites this file.
use Rattle.std.specs.Prelude.{ℕ, zero, suc, Bool, true, false, cond}
use Rattle.desk.specs.Search.{is0}

-- two zeros end what has z of them, two at most
abbrev pub two : ℕ → Bool
two zero = false
two (suc zero) = false
two (suc (suc n)) = true

-- one zero more, two at most
abbrev pub one_more_zero : ℕ → ℕ
one_more_zero zero = 1
one_more_zero (suc n) = 2

-- the zeros that end what had z of them, after the byte b
abbrev pub zeros_after : ℕ → ℕ → ℕ
zeros_after z b = cond (is0 b) (one_more_zero z) 0
