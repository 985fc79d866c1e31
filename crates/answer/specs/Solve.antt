-- The least total of a stack in a spread and the placement for a total as executable definitions: the stack's windows and limits handed to the solver. Assumes
-- nothing: these are definitions. They are proved to be Stack.antt's LeastTotal and Placement; nobody has to believe them.
use Rattle.std.specs.Prelude.{cond, List, [], ◌∷◌, ℕ, suc, ◌+◌, ◌-◌, min, max, ltb, length, get_or, drop}
use Rattle.stack.specs.Stack.{Channel, Window, free, held, Strip, no_strip, Stack}
use Rattle.limits.specs.Limits.{low_floored, high_floored, open_from}
use Rattle.spans.specs.Spans.{span, Limit}
use Rattle.spans.specs.declared.Span.{Span}
use Rattle.spans.specs.Solver.{Level, level, least_total, separations, positions}
use Rattle.arrays.specs.Arrays.{limits_from}

-- the positions of a strip within the spread and inside its window
unfoldable pub window_span : (s length : ℕ) → Window → Span
window_span s l free = span 0 (suc s - l)
window_span s l (held a e) = span a (min (suc e) (suc s - l))

abbrev pub window : (s : ℕ) → Strip → Span
window s l = window_span s l.length l.window

-- the GROWING END of a window: its end, raised by b, where that moves on with the spread; none, 0, once the greatest position is within the spread
unfoldable pub window_growth : (b s length : ℕ) → Window → ℕ
window_growth b s l free = suc s - l + b
window_growth b s l (held a e) = cond (ltb e (suc s - l)) 0 (suc s - l + b)

abbrev pub growth : (b s : ℕ) → Strip → ℕ
growth b s l = window_growth b s l.length l.window

-- the last separation of use in a channel, the greater of its floor and of that from which on its pairs leave every offset open
abbrev pub last_use : Channel → ℕ
last_use c = max (open_from (length c.pairs)) c.floor

-- a channel's limits for the separations up to the last of use
unfoldable pub channel_limits : (b : ℕ) → Channel → List Limit
channel_limits b c = limits_from (low_floored b c) (high_floored b c) 0 (suc (last_use c))

-- each channel with the strip on top of it
unfoldable pub stack_levels : (b s : ℕ) → (upper_strips : List Strip) → List Channel → List Level
stack_levels b s [] cs = []
stack_levels b s (l ∷ ls) [] = []
stack_levels b s (l ∷ ls) (c ∷ cs) = level (channel_limits b c) (window s l) ∷ stack_levels b s ls cs

unfoldable pub bottom : Stack → (s : ℕ) → Span
bottom k s = window s (get_or k.strips 0 no_strip)

unfoldable pub levels_of : (b : ℕ) → Stack → (s : ℕ) → List Level
levels_of b k s = stack_levels b s (drop 1 k.strips) k.channels

-- total, separations and positions with a given bias: any that is at least s + 32 serves
unfoldable pub total_with : (b : ℕ) → Stack → (s : ℕ) → ℕ
total_with b k s = least_total b (bottom k s) (levels_of b k s)

unfoldable pub separations_with : (b : ℕ) → Stack → (s v : ℕ) → List ℕ
separations_with b k s v = separations b (bottom k s) (levels_of b k s) v

unfoldable pub positions_with : (b : ℕ) → Stack → (s : ℕ) → (ts : List ℕ) → List ℕ
positions_with b k s ts = positions b (bottom k s) (levels_of b k s) ts

-- THE LEAST TOTAL
unfoldable pub answer_total : Stack → (s : ℕ) → ℕ
answer_total k s = total_with (s + 32) k s

-- THE PLACEMENT FOR A TOTAL: separations, positions
unfoldable pub separations_for : Stack → (s v : ℕ) → List ℕ
separations_for k s v = separations_with (s + 32) k s v

unfoldable pub positions_for : Stack → (s v : ℕ) → List ℕ
positions_for k s v = positions_with (s + 32) k s (separations_for k s v)

-- THE ANSWER: the placement for the least total
abbrev pub answer_separations : Stack → (s : ℕ) → List ℕ
answer_separations k s = separations_for k s (answer_total k s)

abbrev pub answer_positions : Stack → (s : ℕ) → List ℕ
answer_positions k s = positions_for k s (answer_total k s)
