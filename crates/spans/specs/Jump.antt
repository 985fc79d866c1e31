-- By how much a span that is empty is short, if every window's end grows with the spread. Assumes nothing: these are definitions.
-- A cell of the solver is taken apart into its nearest start and its furthest end. See specs/Growth.antt for windows whose ends do not all grow.
use Rattle.std.specs.Prelude.{Bool, true, false, List, ℕ, zero, suc, ◌+◌, ◌*◌, ◌-◌, min, max}
use Rattle.spans.specs.Spans.{span, last, low_at, high_at, nonempty}
use Rattle.spans.specs.declared.Span.{Span}
use Rattle.spans.specs.Solver.{Level, least_open, most, start, stop, back}

abbrev pub min_if : Bool → (x t : ℕ) → ℕ
min_if true x t = min t x
min_if false x t = t

abbrev pub max_if : Bool → (x t : ℕ) → ℕ
max_if true x t = max t x
max_if false x t = t

-- the least of t and the starts of those of f q, f (q + 1), .., n of them, that are not empty, each shifted back
unfoldable pub nearest : (b : ℕ) → (high : ℕ → ℕ) → (ℕ → Span) → (q n t : ℕ) → ℕ
nearest b high f q zero t = t
nearest b high f q (suc n) t = nearest b high f (suc q) n (min_if (nonempty (f q)) ((f q).from + b - high q) t)

-- the greatest of t and their ends, raised by b once more, so that none is cut off at 0
unfoldable pub furthest : (b : ℕ) → (low : ℕ → ℕ) → (ℕ → Span) → (q n t : ℕ) → ℕ
furthest b low f q zero t = t
furthest b low f q (suc n) t = furthest b low f (suc q) n (max_if (nonempty (f q)) ((f q).upto + 2 * b - low q) t)

-- the span in the window w between these ends
abbrev pub between : (b : ℕ) → Span → (near reach : ℕ) → Span
between b w n r = span (max w.from (min w.upto n)) (min w.upto (r - b))

-- by how much that span is SHORT: 0 if it is not empty
abbrev pub shortfall : (b : ℕ) → Span → (near reach : ℕ) → ℕ
shortfall b w n r = max w.from n + 1 + b - min (w.upto + b) r

-- the ends and the shortfall of a cell, where far stands for no start at all
abbrev pub near_of : (b far : ℕ) → (high : ℕ → ℕ) → (least last above : ℕ) → (f : ℕ → Span) → (v : ℕ) → ℕ
near_of b far high o m a f v = nearest b high (λ q. f (v - q)) (start o m a v) (stop m v - start o m a v) far

abbrev pub reach_of : (b : ℕ) → (low : ℕ → ℕ) → (least last above : ℕ) → (f : ℕ → Span) → (v : ℕ) → ℕ
reach_of b low o m a f v = furthest b low (λ q. f (v - q)) (start o m a v) (stop m v - start o m a v) 0

unfoldable pub cell_short : (b far : ℕ) → (low high : ℕ → ℕ) → (least last above : ℕ) → (f : ℕ → Span) → (w : Span) → (v : ℕ) → ℕ
cell_short b far low high o m a f w v = shortfall b w (near_of b far high o m a f v) (reach_of b low o m a f v)

-- the same for the bottom strip of a stack
abbrev pub short_at : (b far : ℕ) → Span → Level → List Level → (v : ℕ) → ℕ
short_at b far w c cs v =
    cell_short b far (low_at c.limits) (high_at c.limits) (least_open c.limits) (last c.limits) (most cs) (λ u. back b c.window cs u) w v
