-- Below 2^64 the text told is the text: a stream has fewer units, and units of fewer bytes, than it has bytes.
use Rattle.std.proofs.Common.{◌≡◌, ℕ, suc, ◌+◌, ◌%◌, ◌<◌, ◌≤◌, Bool, false, cond, List, [], ◌∷◌, ◌++◌, map, length, take, drop, refl, ap, ap₂, arith, length-append, take-append-drop}
use Rattle.desk.specs.Search.{is1}
use Rattle.desk.proofs.Search.{stays}
use Rattle.annexb.specs.Rule.{Frame, Frames, joined, units_of, units_at_reset}
use Rattle.annexb.proofs.Framing.{frames}
use Rattle.counting.specs.Tally.{wrap}
use Rattle.lister.specs.Text.{unit_line, total_line, lines_by, modulo, listing_text, listing_told}

-- a unit's bytes and one more for each unit, which its start code has three of; the unit that is open at the start has none
fewer : {o : Bool} {s : List ℕ} {f : Frame} → Frames o s f → length (joined (units_of f)) + length (units_of f) ≤ length s + cond o 1 0
fewer (Frames.no_start e) = omega arith
fewer (Frames.start {s} {i} e p) = omega (arith, fewer p, (stays is1 s [] i e).shorter)
fewer (Frames.no_end {s} e) = simp length-append (omega arith)
fewer (Frames.end {s} {i} {f} e p) =
    let cut : length (take i s) + length (drop i s) ≡ length s = simp length-append at (ap length (take-append-drop i s)) in
    let later = joined (units_of f) in
    let sum : length (take i s ++ later) ≡ length (take i s) + length later = length-append (take i s) later in
    omega (arith, fewer p, cut, sum)

pub units_few : (b : List ℕ) → length (joined (units_at_reset b)) + length (units_at_reset b) ≤ length b
units_few b = omega (arith, fewer (frames false b))

lines_exact : (i : ℕ) (us : List (List ℕ)) → i + length us < wrap → length (joined us) < wrap
    → lines_by modulo i (map (λ (u : List ℕ). modulo (length u)) us) ≡ lines_by (λ (n : ℕ). n) i (map length us)
lines_exact i [] h k = refl
lines_exact i (u ∷ us) h k =
    let sum : length (u ++ joined us) ≡ length u + length (joined us) = length-append u (joined us) in
    let index : i % wrap ≡ i = omega arith in
    let size : length u % wrap ≡ length u = omega arith in
    ap₂ (λ (x y : List ℕ). x ++ y) (ap₂ unit_line index size) (lines_exact (suc i) us (omega arith) (omega arith))

-- A STREAM OF FEWER THAN 2^64 BYTES IS TOLD BY THE VERY TEXT
pub exact : (b : List ℕ) → length b < wrap → listing_told (units_at_reset b) ≡ listing_text (units_at_reset b)
exact b h =
    let us = units_at_reset b in
    let total : length us % wrap ≡ length us = omega (arith, units_few b) in
    ap₂ (λ (l : List ℕ) (n : ℕ). l ++ total_line n) (lines_exact 0 us (omega (arith, units_few b)) (omega (arith, units_few b))) total
