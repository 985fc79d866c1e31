-- How the code tests whether pairs are wirable. Assumes nothing: these are definitions.
use Rattle.std.specs.Prelude.{Bool, ◌&&◌, List, ℕ, ◌+◌, leb}
use Rattle.stack.specs.Stack.{Pair, p_at, q_at}

-- the tests of feasibility at one i = j - t: pair i joins p to q, pair i + t joins pt to qt
unfoldable pub clear : (p q pt qt t lower upper : ℕ) → Bool
clear p q pt qt t a b = leb (p + t + a) (b + qt) && leb (b + t + q) (pt + a)

-- the test at i of a channel
unfoldable pub clear_at : List Pair → (t lower upper i : ℕ) → Bool
clear_at c t a b i = clear (p_at c i) (q_at c i) (p_at c (i + t)) (q_at c (i + t)) t a b
