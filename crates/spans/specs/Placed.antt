-- What the solver is held to: placements of a stack of windows and limits, and which of them is the one for a total. Assumes nothing: these are definitions.
use Rattle.std.specs.Prelude.{◌≡◌, true, List, [], ◌∷◌, ℕ, ◌≤◌}
use Rattle.stack.specs.Stack.{sum, not_later}
use Rattle.spans.specs.Spans.{In, Fits, Limit, low_at, high_at}
use Rattle.spans.specs.declared.Span.{Span}
use Rattle.spans.specs.Solver.{Level}

-- a PLACEMENT of the bottom strip, whose window is w, and the levels: separations ts, the bottom strip at x, the strips above it at ys.
-- Each position is in its window, and each channel's offset is within its limit
pub data Placed (b : ℕ) : Span → List Level → (ts : List ℕ) → (x : ℕ) → (ys : List ℕ) → Type 0 where
  alone : {w : Span} {x : ℕ} → In w x → Placed b w [] [] x []
  under :
      {w : Span} {c : Level} {cs : List Level} {t x y : ℕ} {ts ys : List ℕ}
      → In w x
      → Fits b (low_at c.limits t) (high_at c.limits t) x y
      → Placed b c.window cs ts y ys
      → Placed b w (c ∷ cs) (t ∷ ts) x (y ∷ ys)

-- a placement with the bottom strip at x whose total is at most v
pub record Can (b : ℕ) (w : Span) (cs : List Level) (v x : ℕ) : Type 0 where
  pub ts : List ℕ
  pub ys : List ℕ
  pub placed : Placed b w cs ts x ys
  pub within : sum ts ≤ v

-- a placement with the total v
pub record Exactly (b : ℕ) (w : Span) (cs : List Level) (v : ℕ) : Type 0 where
  pub ts : List ℕ
  pub x : ℕ
  pub ys : List ℕ
  pub placed : Placed b w cs ts x ys
  pub total : sum ts ≡ v

-- limits widen as the separation grows
pub record Widens (c : List Limit) : Type 0 where
  pub lower : (q n : ℕ) → q ≤ n → low_at c n ≤ low_at c q
  pub higher : (q n : ℕ) → q ≤ n → high_at c q ≤ high_at c n

pub data Widening : List Level → Type 0 where
  none : Widening []
  more : {c : Level} {cs : List Level} → Widens c.limits → Widening cs → Widening (c ∷ cs)

-- THE PLACEMENT FOR THE TOTAL v: of the placements with exactly that total, the separations first in dictionary order, then the positions
pub record Chosen (b : ℕ) (w : Span) (cs : List Level) (v : ℕ) (ts : List ℕ) (x : ℕ) (ys : List ℕ) : Type 0 where
  pub is_placed : Placed b w cs ts x ys
  pub total : sum ts ≡ v
  pub first : (us : List ℕ) (y : ℕ) (zs : List ℕ) → Placed b w cs us y zs → sum us ≡ v → not_later ts us ≡ true
  pub first_places : (y : ℕ) (zs : List ℕ) → Placed b w cs ts y zs → not_later (x ∷ ys) (y ∷ zs) ≡ true
