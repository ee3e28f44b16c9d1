-- The lines of more units.
use Rattle.std.proofs.Common.{◌≡◌, ℕ, suc, ◌+◌, ◌%◌, List, [], ◌∷◌, ◌++◌, length, sym, refl, ap, ◌∙◌, ap₂, append_assoc, add-zero, arith}
use Rattle.counting.specs.Tally.{wrap}
use Rattle.lister.specs.Text.{unit_line, lines_by, modulo}

pub lines_append : (m : ℕ → ℕ) (i : ℕ) (xs ys : List ℕ) → lines_by m i (xs ++ ys) ≡ lines_by m i xs ++ lines_by m (i + length xs) ys
lines_append m i [] ys = ap (λ (k : ℕ). lines_by m k ys) (sym (add-zero i))
lines_append m i (x ∷ xs) ys =
    let e : suc i + length xs ≡ i + suc (length xs) = omega arith in
    ap (λ (l : List ℕ). unit_line (m i) x ++ l) (lines_append m (suc i) xs ys ∙ ap (λ (k : ℕ). lines_by m (suc i) xs ++ lines_by m k ys) e)
    ∙ sym (append_assoc (unit_line (m i) x) (lines_by m (suc i) xs) (lines_by m (i + suc (length xs)) ys))

-- modulo 2^64 an index is as good as one that differs by a multiple of it
pub lines_modulo : (x y : ℕ) → x % wrap ≡ y % wrap → (ns : List ℕ) → lines_by modulo x ns ≡ lines_by modulo y ns
lines_modulo x y e [] = refl
lines_modulo x y e (n ∷ ns) = ap₂ (λ (i : ℕ) (l : List ℕ). unit_line i n ++ l) e (lines_modulo (suc x) (suc y) (omega arith) ns)
