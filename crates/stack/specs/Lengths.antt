-- Lengths and greatest positions of strips, by which a table's end is found. Assumes nothing: these are definitions.
use Rattle.std.specs.Prelude.{List, [], ◌∷◌, ℕ}
use Rattle.stack.specs.Stack.{Window, free, held, Strip, greatest_of}

unfoldable pub lengths : List Strip → List ℕ
lengths [] = []
lengths (l ∷ ls) = l.length ∷ lengths ls

-- the greatest position of a window; 0 where the strip is free
unfoldable pub greatest_position : Window → ℕ
greatest_position free = 0
greatest_position (held a e) = e

unfoldable pub last_position : List Strip → ℕ
last_position ls = greatest_of (λ (l : Strip). greatest_position l.window) ls
