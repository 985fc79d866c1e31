-- The growing ends of a stack's windows in a spread. Assumes nothing: these are definitions.
use Rattle.std.specs.Prelude.{◌≡◌, List, [], ◌∷◌, ℕ, ◌<◌, get_or, drop}
use Rattle.stack.specs.Stack.{strip_in, Strip, no_strip, Stack}
use Rattle.arrays.specs.Arrays.{bias, entry}
use Rattle.answer.specs.Solve.{growth}

unfoldable pub growths_of : (b s : ℕ) → List Strip → List ℕ
growths_of b s [] = []
growths_of b s (l ∷ ls) = growth b s l ∷ growths_of b s ls

-- the bottom strip's, and those of the strips above it
abbrev pub bottom_growth : (b : ℕ) → Stack → (s : ℕ) → ℕ
bottom_growth b k s = growth b s (get_or k.strips 0 no_strip)

abbrev pub upper_growths : (b : ℕ) → Stack → (s : ℕ) → List ℕ
upper_growths b k s = growths_of b s (drop 1 k.strips)

-- the first n strips' growing ends in a list
abbrev pub GrowthsIn : Stack → (n s : ℕ) → (growths : List ℕ) → Type 0
GrowthsIn k n s growths = (i : ℕ) → i < n → entry growths i ≡ growth bias s (strip_in k i)
