-- The placement for a stated total is the first of those with just that total, for every total that a placement has. Assumes nothing but limits that widen
-- with the separation.
use mathlib.Core.Path.{◌≡◌, refl}
use mathlib.Core.List.{List, [], ◌∷◌}
use Prim.Native.Nat.{ℕ}
use native.Mathlib.Omega.{arith}
use Rattle.stack.specs.Stack.{sum, not_later}
use Rattle.spans.specs.declared.Span.{Span}
use Rattle.spans.specs.Solver.{Level, separations, lowest, positions_on}
use Rattle.spans.specs.Placed.{Placed, alone, Exactly, Widening, Chosen}
use Rattle.spans.proofs.Separations.{FirstWith, separations_first}
use Rattle.spans.proofs.Positions.{lowest_placed, lowest_first}

module _ (b : ℕ) (w : Span) where
  -- first separations with some placement become the chosen placement
  chosen_from : (cs : List Level) (v : ℕ) (ts : List ℕ) → FirstWith b w cs v ts → Chosen b w cs v ts (lowest b w cs ts) (positions_on b (lowest b w cs ts) cs ts)
  chosen_from cs v ts f =
      record {
        is_placed = lowest_placed b w cs ts f.x f.ys f.placed;
        total = f.total;
        first = f.first;
        first_places = λ y zs p. lowest_first b w cs ts y zs p;
      }

  -- one strip alone
  alone_first : (us ts : List ℕ) (v y : ℕ) (zs : List ℕ) → Placed b w [] us y zs → sum us ≡ v → FirstWith b w [] v []
  unfolding sum not_later
  alone_first us ts v y zs (alone i) e = record { x = y; ys = []; placed = alone i; total = e; first = λ us y zs p e. refl }

  -- THE PLACEMENT FOR A STATED TOTAL
  pub chosen : (cs : List Level) (v : ℕ) → Widening cs → Exactly b w cs v → Chosen b w cs v (separations b w cs v) (lowest b w cs (separations b w cs v)) (positions_on b (lowest b w cs (separations b w cs v)) cs (separations b w cs v))
  unfolding separations
  chosen [] v wide e = chosen_from [] v [] (alone_first e.ts [] v e.x e.ys e.placed e.total)
  chosen (c ∷ cs) v wide e =
      chosen_from (c ∷ cs) v _ (separations_first b c cs w v e.x wide (record { ts = e.ts; ys = e.ys; placed = e.placed; within = omega (arith, e.total) }))
