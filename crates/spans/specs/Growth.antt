-- How far the spread may grow before a span that is empty can fill, where a window's end need not grow with the spread. Assumes nothing: these are definitions.
-- Each span has a GROWING END beside its end: in a spread wider by d its end is at most the greater of its end and the growing end moved on by d. Growing
-- ends are raised by the bias b; 0 stands for none. See proofs/Growths.antt.
use Rattle.std.specs.Prelude.{◌≡◌, Bool, true, false, List, [], ◌∷◌, ℕ, zero, suc, ◌+◌, ◌*◌, ◌-◌, ◌≤◌, ◌<◌, max, ltb}
use Rattle.spans.specs.Spans.{last, low_at, high_at, nonempty}
use Rattle.spans.specs.declared.Span.{Span}
use Rattle.spans.specs.Solver.{Level, least_open, most, start, stop, back}
use Rattle.spans.specs.Jump.{max_if, near_of, reach_of}

-- a growing end shifted back by the lower limit l; however far it comes to lie to the left, it does not turn into none
unfoldable pub shifted : (b l : ℕ) → (grow : ℕ) → ℕ
shifted b l zero = 0
shifted b l (suc g) = max 1 (suc g + b - l)

-- the greatest of t and the growing ends of those of f q, f (q + 1), .., n of them, that are not empty, each shifted back
unfoldable pub furthest_grow : (b : ℕ) → (low : ℕ → ℕ) → (ℕ → Span) → (grow : ℕ → ℕ) → (q n t : ℕ) → ℕ
furthest_grow b low f h q zero t = t
furthest_grow b low f h q (suc n) t = furthest_grow b low f h (suc q) n (max_if (nonempty (f q)) (shifted b (low q) (h q)) t)

-- of two ends x and y, whose growing ends are g and h, the lesser one's growing end; the first one's if they are equal
abbrev pub lesser_grow : (second : Bool) → (g h : ℕ) → ℕ
lesser_grow true g h = h
lesser_grow false g h = g

unfoldable pub growing : (x y g h : ℕ) → ℕ
growing x y g h = lesser_grow (ltb y x) g h

-- by how much an end e whose growing end is g LACKS the place x, all three raised: 0 if it reaches x
abbrev pub lack_if : (reached : Bool) → (x g : ℕ) → ℕ
lack_if true x g = 0
lack_if false x g = x - g

unfoldable pub end_lack : (x e g : ℕ) → ℕ
end_lack x e g = lack_if (ltb x (suc e)) x g

-- the growing end of a cell's furthest reach
abbrev pub grow_of : (b : ℕ) → (low : ℕ → ℕ) → (least last above : ℕ) → (f : ℕ → Span) → (grow : ℕ → ℕ) → (v : ℕ) → ℕ
grow_of b low o m a f h v = furthest_grow b low (λ q. f (v - q)) (λ q. h (v - q)) (start o m a v) (stop m v - start o m a v) 0

-- the growing end of a cell: of its window's end and its furthest reach, the lesser one's
unfoldable pub cell_grow : (b : ℕ) → (low : ℕ → ℕ) → (least last above : ℕ) → (f : ℕ → Span) → (grow : ℕ → ℕ) → (w : Span) → (g v : ℕ) → ℕ
cell_grow b low o m a f h w g v = growing (w.upto + b) (reach_of b low o m a f v) g (grow_of b low o m a f h v)

-- by how much a span lacks its first position: both ends have to come beyond its start
abbrev pub both_lack : (b : ℕ) → Span → (near reach : ℕ) → (g h : ℕ) → ℕ
both_lack b w n r g h = max (end_lack (max w.from n + 1 + b) (w.upto + b) g) (end_lack (max w.from n + 1 + b) r h)

-- the same of a cell, where far stands for no start at all
unfoldable pub cell_lack : (b far : ℕ) → (low high : ℕ → ℕ) → (least last above : ℕ) → (f : ℕ → Span) → (grow : ℕ → ℕ) → (w : Span) → (g v : ℕ) → ℕ
cell_lack b far low high o m a f h w g v =
    both_lack b w (near_of b far high o m a f v) (reach_of b low o m a f v) g (grow_of b low o m a f h v)

-- the growing end of the bottom strip's span: g and hs are the windows' growing ends
unfoldable pub back_grow : (b : ℕ) → Span → (g : ℕ) → List Level → (hs : List ℕ) → (v : ℕ) → ℕ
back_grow b w g [] hs v = g
back_grow b w g (c ∷ cs) [] v = g
back_grow b w g (c ∷ cs) (h ∷ hs) v =
    cell_grow b (low_at c.limits) (least_open c.limits) (last c.limits) (most cs) (λ u. back b c.window cs u) (λ u. back_grow b c.window h cs hs u) w g v

-- and what that span lacks
abbrev pub lack_at : (b far : ℕ) → Span → (g : ℕ) → Level → (h : ℕ) → List Level → (hs : List ℕ) → (v : ℕ) → ℕ
lack_at b far w g c h cs hs v =
    cell_lack b far (low_at c.limits) (high_at c.limits) (least_open c.limits) (last c.limits) (most cs) (λ u. back b c.window cs u) (λ u. back_grow b c.window h cs hs u) w g v

-- a span s with the growing end g, and what becomes of it in a spread wider by d
pub record Grows (b d g : ℕ) (s t : Span) : Type 0 where
  pub stays : t.from < t.upto → (s.from < s.upto) × (s.from ≤ t.from) × (t.upto + b ≤ max (s.upto + b) (g + d))

-- a window w with the growing end g, and the window z of the wider spread
pub record WindowGrows (b d far g : ℕ) (w z : Span) : Type 0 where
  pub start : z.from ≡ w.from
  pub wider : w.upto ≤ z.upto
  pub within : z.upto + b ≤ max (w.upto + b) (g + d)
  pub near : z.upto ≤ far

-- all windows, over the same limits; the top strip has a position
unfoldable pub Wider : (b d far : ℕ) → (w z : Span) → (g : ℕ) → (cs es : List Level) → (hs : List ℕ) → Type 0
Wider b d far w z g [] [] hs = WindowGrows b d far g w z × (w.from < w.upto)
Wider b d far w z g [] (e ∷ es) hs = ⊥
Wider b d far w z g (c ∷ cs) [] hs = ⊥
Wider b d far w z g (c ∷ cs) (e ∷ es) [] = ⊥
Wider b d far w z g (c ∷ cs) (e ∷ es) (h ∷ hs) =
    WindowGrows b d far g w z × (e.limits ≡ c.limits) × Wider b d far c.window e.window h cs es hs

-- no lower limit is above twice the bias
unfoldable pub Lows : (b : ℕ) → List Level → Type 0
Lows b [] = zero ≡ zero
Lows b (c ∷ cs) = ((q : ℕ) → low_at c.limits q ≤ 2 * b) × Lows b cs

-- no window ends beyond far
unfoldable pub Near : (far : ℕ) → Span → List Level → Type 0
Near far w [] = w.upto ≤ far
Near far w (c ∷ cs) = (w.upto ≤ far) × Near far c.window cs

-- no window's growing end is beyond its end
unfoldable pub GrowBelow : (b : ℕ) → Span → (g : ℕ) → List Level → (hs : List ℕ) → Type 0
GrowBelow b w g [] hs = g ≤ w.upto + b
GrowBelow b w g (c ∷ cs) [] = ⊥
GrowBelow b w g (c ∷ cs) (h ∷ hs) = (g ≤ w.upto + b) × GrowBelow b c.window h cs hs

-- every window's end grows
unfoldable pub AllGrow : (b : ℕ) → Span → (g : ℕ) → List Level → (hs : List ℕ) → Type 0
AllGrow b w g [] hs = g ≡ w.upto + b
AllGrow b w g (c ∷ cs) [] = ⊥
AllGrow b w g (c ∷ cs) (h ∷ hs) = (g ≡ w.upto + b) × AllGrow b c.window h cs hs

-- no empty span for a total of at most v lacks d or less
unfoldable pub NoneLacks : (b far d v : ℕ) → Span → (g : ℕ) → List Level → (hs : List ℕ) → Type 0
NoneLacks b far d v w g [] hs = zero ≡ zero
NoneLacks b far d v w g (c ∷ cs) [] = zero ≡ zero
NoneLacks b far d v w g (c ∷ cs) (h ∷ hs) =
    ((u : ℕ) → u ≤ v → u ≤ most (c ∷ cs) → (back b w (c ∷ cs) u).upto ≤ (back b w (c ∷ cs) u).from → d < lack_at b far w g c h cs hs u)
    × NoneLacks b far d v c.window h cs hs
