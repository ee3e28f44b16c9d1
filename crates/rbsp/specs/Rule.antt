-- THE ESCAPING RULES, over whole lists of bytes, by the places where 00 00 and a third byte stand (Rec 7.3.1, 7.4.1).
-- Nothing here knows of a reader's or a writer's step.
use Rattle.std.specs.Prelude.{ℕ, zero, suc, ◌≡◌, Bool, false, cond, not, ◌&&◌, List, [], ◌∷◌, ◌++◌, length, take, drop}
use Rattle.std.proofs.Math.Option.{Option, none, some}
use Rattle.desk.specs.Search.{is3, up_to2, up_to3, stands, further, first}

-- ---- WRITING (Rec 7.4.1), two sentences: `Escapes s t` says that the RBSP s is written as t. Where 00 00 and a byte 00 to 03 stand nowhere, it is
-- written as it is; where they first stand at place i, 03 goes between, and the search goes on from the byte behind the 03, with nothing remembered.
pub data Escapes : List ℕ → List ℕ → Type 0 where
  nowhere : {s : List ℕ} → first up_to3 s ≡ none → Escapes s s
  at_place : {s t : List ℕ} {i : ℕ} → first up_to3 s ≡ some i → Escapes (drop 2 (drop i s)) t → Escapes s (take i s ++ 0 ∷ 0 ∷ 3 ∷ t)

-- the same, computed by at most n searches: `Escapes s t` says that t is `escape s`, and nothing else (proofs/Escaping)
abbrev pub escape_at : List ℕ → (List ℕ → List ℕ) → Option ℕ → List ℕ
escape_at s go none = s
escape_at s go (some i) = take i s ++ 0 ∷ 0 ∷ 3 ∷ go (drop 2 (drop i s))

abbrev pub escape_by : ℕ → List ℕ → List ℕ
escape_by zero s = s
escape_by (suc n) s = escape_at s (escape_by n) (first up_to3 s)

-- as many searches as there are bytes are enough
unfoldable pub escape : List ℕ → List ℕ
escape s = escape_by (length s) s

-- ---- READING (Rec 7.3.1), two sentences: where 00 00 03 stands nowhere, the bytes are the RBSP; where it first stands at place i, 00 00 is kept
-- and 03 dropped, and the search goes on behind the 03.
pub data Unescapes : List ℕ → List ℕ → Type 0 where
  nowhere : {s : List ℕ} → first is3 s ≡ none → Unescapes s s
  at_place : {s t : List ℕ} {i : ℕ} → first is3 s ≡ some i → Unescapes (drop 3 (drop i s)) t → Unescapes s (take i s ++ 0 ∷ 0 ∷ t)

-- the same, computed (proofs/Unescaping)
abbrev pub unescape_at : List ℕ → (List ℕ → List ℕ) → Option ℕ → List ℕ
unescape_at s go none = s
unescape_at s go (some i) = take i s ++ 0 ∷ 0 ∷ go (drop 3 (drop i s))

abbrev pub unescape_by : ℕ → List ℕ → List ℕ
unescape_by zero s = s
unescape_by (suc n) s = unescape_at s (unescape_by n) (first is3 s)

unfoldable pub unescape : List ℕ → List ℕ
unescape s = unescape_by (length s) s

-- ---- what shall not occur (Rec 7.4.1)

-- at the front of s stand 00 00 03 and a byte above 03
abbrev pub bad_four : List ℕ → Bool
bad_four [] = false
bad_four (x ∷ []) = false
bad_four (x ∷ y ∷ []) = false
bad_four (x ∷ y ∷ z ∷ []) = false
bad_four (x ∷ y ∷ z ∷ w ∷ s) = stands is3 (x ∷ y ∷ z ∷ []) && not (up_to3 w)

-- at no place stands 00 00 00, 00 00 01 or 00 00 02; and what follows 00 00 03 is 00 to 03, or the end
pub record Legal (s : List ℕ) : Type 0 where
  pub no_three : (i : ℕ) → stands up_to2 (drop i s) ≡ false
  pub no_four : (i : ℕ) → bad_four (drop i s) ≡ false

-- the place of the last byte of the first window of s that breaks a prohibition, if there is one
abbrev pub first_break : List ℕ → Option ℕ
first_break [] = none
first_break (x ∷ s) = cond (stands up_to2 (x ∷ s)) (some 2) (cond (bad_four (x ∷ s)) (some 3) (further (first_break s)))

-- the last byte of s is a removed 03
abbrev pub ends_three : List ℕ → Bool
ends_three [] = false
ends_three (x ∷ []) = false
ends_three (x ∷ y ∷ []) = false
ends_three (x ∷ y ∷ z ∷ []) = stands is3 (x ∷ y ∷ z ∷ [])
ends_three (x ∷ y ∷ z ∷ w ∷ s) = ends_three (y ∷ z ∷ w ∷ s)
