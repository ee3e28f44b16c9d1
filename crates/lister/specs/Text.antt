-- THE LISTING'S TEXT, in ASCII: a line for each unit, with its index from 0 and its length in bytes, and a line with the total.
use Rattle.std.specs.Prelude.{ℕ, zero, suc, ◌/◌, ◌%◌, cond, List, [], ◌∷◌, ◌++◌, map, length, nat_lt}
use Rattle.io.specs.Digits.{last_digits}
use Rattle.counting.specs.Tally.{wrap}

-- how many decimal digits n has, by at most `most` divisions; n of them are enough, and `places n` is the fewest that hold n (proofs/Digits)
abbrev pub places_in : ℕ → ℕ → ℕ
places_in zero n = 1
places_in (suc most) n = cond (nat_lt n 10) 1 (suc (places_in most (n / 10)))

abbrev pub places : ℕ → ℕ
places n = places_in n n

-- a number in decimal, the most significant digit first
unfoldable pub decimal : ℕ → List ℕ
decimal n = last_digits 10 (places n) n

-- `unit I N`
abbrev pub unit_line : ℕ → ℕ → List ℕ
unit_line i n = (117 ∷ 110 ∷ 105 ∷ 116 ∷ 32 ∷ []) ++ decimal i ++ (32 ∷ []) ++ decimal n ++ (10 ∷ [])

-- `units N`
abbrev pub total_line : ℕ → List ℕ
total_line n = (117 ∷ 110 ∷ 105 ∷ 116 ∷ 115 ∷ 32 ∷ []) ++ decimal n ++ (10 ∷ [])

-- Numbers are told by m: as they are, or modulo 2^64. The lines of units of these lengths, the first of which has the index i.
abbrev pub lines_by : (ℕ → ℕ) → ℕ → List ℕ → List ℕ
lines_by m i [] = []
lines_by m i (n ∷ ns) = unit_line (m i) n ++ lines_by m (suc i) ns

abbrev pub unit_lines_by : (ℕ → ℕ) → List (List ℕ) → List ℕ
unit_lines_by m us = lines_by m 0 (map (λ (u : List ℕ). m (length u)) us)

abbrev pub text_by : (ℕ → ℕ) → List (List ℕ) → List ℕ
text_by m us = unit_lines_by m us ++ total_line (m (length us))

-- THE TEXT OF A LISTING OF THESE UNITS
abbrev pub listing_text : List (List ℕ) → List ℕ
listing_text us = text_by (λ (n : ℕ). n) us

-- what a program with counts of 64 bits tells: every number modulo 2^64, so the very text where each is below it (proofs/Exact)
abbrev pub modulo : ℕ → ℕ
modulo n = n % wrap

abbrev pub unit_lines_told : List (List ℕ) → List ℕ
unit_lines_told us = unit_lines_by modulo us

abbrev pub listing_told : List (List ℕ) → List ℕ
listing_told us = text_by modulo us
