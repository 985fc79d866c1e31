-- A cell taken apart: its span is the one between its nearest start and its furthest end. Assumes nothing.
use mathlib.Core.Path.{◌≡◌, refl, ap, ◌∙◌}
use mathlib.Core.Bool.{Bool, true, false}
use Prim.Native.Nat.{ℕ, zero, suc, ◌+◌, ◌*◌, ◌-◌, ◌≤◌, min}
use native.Mathlib.Omega.{arith}
use Rattle.spans.specs.Spans.{span, cut, nonempty, join_if, gather}
use Rattle.spans.specs.declared.Span.{Span}
use Rattle.spans.specs.Solver.{start, stop, cell}
use Rattle.spans.specs.Jump.{min_if, max_if, nearest, furthest, between, near_of, reach_of}

-- a start that is no more than another may be taken later
nearest_min : (b : ℕ) (high : ℕ → ℕ) (f : ℕ → Span) (q n a t : ℕ) → nearest b high f q n (min a t) ≡ min a (nearest b high f q n t)
unfolding nearest
nearest_min b high f q zero a t = refl
nearest_min b high f q (suc n) a t = rw (step (nonempty (f q))) (nearest_min b high f (suc q) n a (min_if (nonempty (f q)) ((f q).from + b - high q) t))
  where
    step : (v : Bool) → min_if v ((f q).from + b - high q) (min a t) ≡ min a (min_if v ((f q).from + b - high q) t)
    step true = omega arith
    step false = refl

-- what is gathered, by its ends
gather_ends : (b : ℕ) (low high : ℕ → ℕ) (f : ℕ → Span) (q n a e r : ℕ) → e ≡ r - b →
    gather b low high f q n (span a e) ≡ span (nearest b high f q n a) (furthest b low f q n r - b)
unfolding gather nearest furthest
gather_ends b low high f q zero a e r h = rw h
gather_ends b low high f q (suc n) a e r h =
    ap (gather b low high f (suc q) n) (step (nonempty (f q)))
    ∙ gather_ends b low high f (suc q) n _ _ (max_if (nonempty (f q)) ((f q).upto + 2 * b - low q) r) refl
  where
    step : (v : Bool) → join_if v b (low q) (high q) (f q) (span a e)
        ≡ span (min_if v ((f q).from + b - high q) a) (max_if v ((f q).upto + 2 * b - low q) r - b)
    step true = ap (span (min a ((f q).from + b - high q))) (omega arith)
    step false = rw h

-- A CELL BY ITS ENDS
pub cell_ends : (b far : ℕ) (low high : ℕ → ℕ) (o m a : ℕ) (f : ℕ → Span) (w : Span) (v : ℕ) → w.upto ≤ far →
    cell b low high o m a f w v ≡ between b w (near_of b far high o m a f v) (reach_of b low o m a f v)
unfolding cell
cell_ends b far low high o m a f w v h =
    let e : w.upto ≡ min w.upto far = omega arith in
    ap (cut w)
    (gather_ends b low high (λ q. f (v - q)) (start o m a v) (stop m v - start o m a v) w.upto 0 0 (omega arith)
    ∙ ap (λ (x : ℕ). span x (reach_of b low o m a f v - b))
    (ap (nearest b high (λ q. f (v - q)) (start o m a v) (stop m v - start o m a v)) e
    ∙ nearest_min b high (λ q. f (v - q)) (start o m a v) (stop m v - start o m a v) w.upto far))
