-- The loop that writes lines.
use Rattle.std.proofs.Common.{◌≡◌, ℕ, ◌+◌, ◌*◌, ◌≤◌, List, ◌++◌, length, drop}
use Rattle.lister.specs.Text.{lines_by, modulo}

-- after i lines: those that are left stand behind those that are written
pub record Lined (text₀ lengths : List ℕ) (first : ℕ) (text : List ℕ) (i : ℕ) : Type 0 where
  pub few : length text ≤ length text₀ + i * 47
  pub lines : text₀ ++ lines_by modulo first lengths ≡ text ++ lines_by modulo (first + i) (drop i lengths)
