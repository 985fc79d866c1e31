-- TRUSTED. What a trial says. Document 01, "Choosing among equals": numbers with anything but zero in an unused place are no placement of the stack,
-- and so not legal. Assumes nothing: these are definitions.
use Rattle.std.specs.Prelude.{Bool, true, ◌&&◌, List, [], ◌∷◌, ℕ, suc, eqb, length, take, drop}
use Rattle.stack.specs.Stack.{Stack, legal}

unfoldable pub all_zero : List ℕ → Bool
all_zero [] = true
all_zero (x ∷ xs) = eqb x 0 && all_zero xs

-- LEGAL with zeros in the unused places
unfoldable pub is_legal : Stack → (s : ℕ) → (ts xs : List ℕ) → Bool
is_legal k s ts xs =
    let n = length k.channels in
    (all_zero (drop n ts) && all_zero (drop (suc n) xs)) && legal k s (take n ts) (take (suc n) xs)
