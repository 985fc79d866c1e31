-- TRUSTED. The table's text: numbers, fields, rows and the first line; a total's line and a refusal's. Document 01, "Lines and tabs". Assumes nothing: these are
-- definitions.
use Rattle.std.specs.Prelude.{cond, List, [], ◌∷◌, ◌++◌, ℕ, zero, suc, ◌+◌, ◌/◌, ◌%◌, ltb}
use Rattle.stack.specs.Stack.{Row, total}

-- a NUMBER's digits, the last put in front of those got
unfoldable pub digits_from : (fuel v : ℕ) → (got : List ℕ) → List ℕ
digits_from zero v got = got
digits_from (suc k) v got = cond (ltb v 10) ((48 + v) ∷ got) (digits_from k (v / 10) ((48 + v % 10) ∷ got))

unfoldable pub digits : ℕ → List ℕ
digits v = digits_from 20 v []

-- numbers, each behind a tab
unfoldable pub tabbed : List ℕ → List ℕ
tabbed [] = []
tabbed (v ∷ vs) = (9 ∷ digits v) ++ tabbed vs

-- a ROW: the word ROW, spread, total, separations, positions
unfoldable pub row_text : Row → List ℕ
row_text r =
    (82 ∷ 79 ∷ 87 ∷ []) ++ tabbed ((r.spread ∷ total r ∷ r.separations) ++ r.positions) ++ (10 ∷ [])

unfoldable pub rows_text : List Row → List ℕ
rows_text [] = []
rows_text (r ∷ rs) = row_text r ++ rows_text rs

-- THE TABLE: the word TABLE and k, then the rows
unfoldable pub table_text : (k : ℕ) → List Row → List ℕ
table_text k rs = (84 ∷ 65 ∷ 66 ∷ 76 ∷ 69 ∷ []) ++ tabbed (k ∷ []) ++ (10 ∷ []) ++ rows_text rs

-- a TOTAL by itself
unfoldable pub total_text : ℕ → List ℕ
total_text v = digits v ++ (10 ∷ [])

-- a REFUSAL: its number, line and field
unfoldable pub refusal_text : (number line field : ℕ) → List ℕ
refusal_text n l f = digits n ++ tabbed (l ∷ f ∷ []) ++ (10 ∷ [])
