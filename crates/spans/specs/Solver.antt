-- The solver as executable definitions: how the least total and a placement are found. Assumes nothing: these are definitions.
-- They are proved to meet the relations of Placed.antt; nobody has to believe them.
-- From the top strip down, `back` is the span of the positions of a strip from which the strips above it can be placed with a total of at most v.
-- WARNING: the bottom strip's positions form one span; those of a strip between two others need not, see turned/proofs/MiddleStrip.antt. So the solver
-- never asks for the span of a middle strip: it places strips from the bottom up, each time treating the rest as a stack of its own.
use Rattle.std.specs.Prelude.{Bool, true, false, List, [], ◌∷◌, ℕ, zero, suc, ◌+◌, ◌-◌, min, max, leb}
use Rattle.spans.specs.Spans.{span, Limit, last, low_at, high_at, cut, shift_back, shift_on, nonempty, gather}
use Rattle.spans.specs.declared.Span.{Span}

-- a LEVEL: a channel's limits, and the window of the strip on top of that channel. A stack is its bottom strip's window and its levels
pub record Level : Type 0 where
  pub limits : List Limit
  pub window : Span

abbrev pub level : List Limit → Span → Level
level c w = record { limits = c; window = w }

-- the first of the n numbers q, q + 1, .. at which f is true; q + n if there is none
unfoldable pub first : (ℕ → Bool) → (q n : ℕ) → ℕ
first f q zero = q
first f q (suc n) = elim (f q) [ true ↦ q | false ↦ first f (suc q) n ]

abbrev pub opens : (low high : ℕ → ℕ) → (q : ℕ) → Bool
opens low high q = leb (low q) (high q)

-- the least separation whose limit is open (low ≤ high), up to the last of the list
unfoldable pub first_open : (low high : ℕ → ℕ) → (last : ℕ) → ℕ
first_open low high m = first (opens low high) 0 (suc m)

abbrev pub least_open : List Limit → ℕ
least_open c = first_open (low_at c) (high_at c) (last c)

-- the sum of the last separations: no greater total is of use
unfoldable pub most : List Level → ℕ
most [] = 0
most (c ∷ cs) = last c.limits + most cs

-- the separations of use at the total v: from the least open one, or the one that leaves what the levels above can use; to the last one, or v
abbrev pub start : (least last above v : ℕ) → ℕ
start o m a v = max o (min m (v - a))

abbrev pub stop : (last v : ℕ) → ℕ
stop m v = suc (min v m)

-- the positions in w from which the strip above is within the limits of some position in f u, where u is left of v by the separation
unfoldable pub cell : (b : ℕ) → (low high : ℕ → ℕ) → (least last above : ℕ) → (f : ℕ → Span) → (w : Span) → (v : ℕ) → Span
cell b low high o m a f w v =
    cut w (gather b low high (λ q. f (v - q)) (start o m a v) (stop m v - start o m a v) (span w.upto 0))

-- BACK: the bottom strip's positions from which the levels can be placed with a total of at most v
unfoldable pub back : (b : ℕ) → Span → List Level → (v : ℕ) → Span
back b w [] v = w
back b w (c ∷ cs) v =
    cell b (low_at c.limits) (high_at c.limits) (least_open c.limits) (last c.limits) (most cs) (λ u. back b c.window cs u) w v

-- the first total up to m whose span is not empty; m + 1 if there is none
unfoldable pub first_total : (ℕ → Span) → (m : ℕ) → ℕ
first_total f m = first (λ v. nonempty (f v)) 0 (suc m)

-- THE LEAST TOTAL; one more than the greatest of use if nothing can be placed
unfoldable pub least_total : (b : ℕ) → Span → List Level → ℕ
least_total b w cs = first_total (back b w cs) (most cs)

-- with the strip below in s: separation q leaves the strip above a position in the span f u, where u is what is left of v, or a if that is less
unfoldable pub serves : (b : ℕ) → (low high : ℕ → ℕ) → (above : ℕ) → (f : ℕ → Span) → Span → (v q : ℕ) → Bool
serves b low high a f s v q = nonempty (cut (f (min (v - q) a)) (shift_on b (low q) (high q) s))

-- the least separation that serves
unfoldable pub first_serving : (b : ℕ) → (low high : ℕ → ℕ) → (least last above : ℕ) → (f : ℕ → Span) → Span → (v : ℕ) → ℕ
first_serving b low high o m a f s v = first (serves b low high a f s v) o (stop m v - o)

abbrev pub least_serving : (b : ℕ) → Span → Level → List Level → (v : ℕ) → ℕ
least_serving b s c cs v =
    first_serving b (low_at c.limits) (high_at c.limits) (least_open c.limits) (last c.limits) (most cs) (λ u. back b c.window cs u) s v

-- the positions of the strip on top of the channel c, for the strip below in s and separation q
unfoldable pub forward : (b : ℕ) → Span → Level → (q : ℕ) → Span
forward b s c q = cut c.window (shift_on b (low_at c.limits q) (high_at c.limits q) s)

-- THE SEPARATIONS for the total v, channel 1 first: in each channel the least that serves, in the last one all that is left
unfoldable pub separations : (b : ℕ) → Span → List Level → (v : ℕ) → List ℕ
separations b s [] v = []
separations b s (c ∷ []) v = v ∷ []
separations b s (c ∷ d ∷ cs) v =
    let q = least_serving b s c (d ∷ cs) v in
    q ∷ separations b (forward b s c q) (d ∷ cs) (v - q)

-- the bottom strip's positions from which the levels can be placed with these separations
unfoldable pub fixed : (b : ℕ) → Span → List Level → (ts : List ℕ) → Span
fixed b w [] ts = w
fixed b w (c ∷ cs) [] = w
fixed b w (c ∷ cs) (t ∷ ts) =
    cut w (shift_back b (low_at c.limits t) (high_at c.limits t) (fixed b c.window cs ts))

-- the positions above the bottom strip at x for these separations: each strip as far left as it can be
unfoldable pub positions_on : (b x : ℕ) → List Level → (ts : List ℕ) → List ℕ
positions_on b x [] ts = []
positions_on b x (c ∷ cs) [] = []
positions_on b x (c ∷ cs) (t ∷ ts) =
    let y = max (fixed b c.window cs ts).from (x + low_at c.limits t - b) in
    y ∷ positions_on b y cs ts

-- the bottom strip as far left as can be
unfoldable pub lowest : (b : ℕ) → Span → List Level → (ts : List ℕ) → ℕ
lowest b w cs ts = (fixed b w cs ts).from

-- THE POSITIONS for these separations, bottom strip first
unfoldable pub positions : (b : ℕ) → Span → List Level → (ts : List ℕ) → List ℕ
positions b w cs ts = lowest b w cs ts ∷ positions_on b (lowest b w cs ts) cs ts
