-- The rows of a stack's table as an executable definition: every spread from the first one to the greatest position of a strip that is held and the lengths
-- together, with a row where the least total falls. Assumes nothing: these are definitions. They are proved to be Stack.antt's RowsAre; nobody has to believe them.
use Rattle.std.specs.Prelude.{cond, List, [], ◌∷◌, ℕ, zero, suc, ◌+◌, ◌-◌, ltb}
use Rattle.stack.specs.Stack.{Stack, Row, row, sum, first_spread}
use Rattle.stack.specs.Lengths.{lengths, last_position}
use Rattle.answer.specs.Solve.{answer_total, answer_separations, answer_positions}

unfoldable pub row_at : Stack → (s : ℕ) → Row
row_at k s = row s (answer_separations k s) (answer_positions k s)

-- the rows among the spreads s, s + 1, .., as many as are left, where v is the least total before them
unfoldable pub rows_walk : Stack → (left s v : ℕ) → List Row
rows_walk k zero s v = []
rows_walk k (suc n) s v =
    cond (ltb (answer_total k s) v) (row_at k s ∷ rows_walk k n (suc s) (answer_total k s)) (rows_walk k n (suc s) v)

-- the greatest spread at which a total can fall
unfoldable pub widest : Stack → ℕ
widest k = last_position k.strips + sum (lengths k.strips)

unfoldable pub rows_of : Stack → List Row
rows_of k =
    let s = first_spread k.strips in
    row_at k s ∷ rows_walk k (widest k - s) (suc s) (answer_total k s)
