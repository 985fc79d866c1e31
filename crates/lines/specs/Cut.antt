-- Where a line and a field end. Assumes nothing: these are definitions.
use Rattle.std.specs.Prelude.{◌≡◌, cond, List, [], ◌∷◌, ℕ, suc, ◌≤◌, eqb, length, drop}
use Rattle.lines.specs.Lines.{Line, lines, line_at}

-- how many elements stand before the first b
unfoldable pub run : (b : ℕ) → List ℕ → ℕ
run b [] = 0
run b (x ∷ xs) = cond (eqb x b) 0 (suc (run b xs))

-- the line that begins at a place
unfoldable pub line_from : List ℕ → (at : ℕ) → Line
line_from bs at = line_at (lines (drop at bs)) 0

-- the next line begins at a place
pub record Next (bs : List ℕ) (at next : ℕ) : Type 0 where
  pub within : next ≤ length bs
  pub rest : lines (drop next bs) ≡ drop 1 (lines (drop at bs))
