-- The loop that places the strips from the bottom up. Assumes nothing.
use mathlib.Core.Path.{◌≡◌}
use mathlib.Core.List.{List, ◌∷◌}
use Prim.Native.Nat.{ℕ, suc, ◌+◌, ◌-◌, ◌≤◌, ◌<◌, min, max}
use native.Mathlib.Numerals.{add-one}
use native.Mathlib.Omega.{arith}
use lib.ListN.{set, replicate}
use Rattle.stack.specs.Sizes.{strips_held}
use Rattle.spans.specs.Spans.{low_at}
use Rattle.spans.specs.declared.Span.{Span}
use Rattle.spans.specs.Solver.{Level, lowest, positions_on, positions}
use Rattle.spans.specs.Placed.{Placed, under}
use Rattle.arrays.specs.Arrays.{bias, entry, low_of, high_of, last_of, window_of, level_of, levels, store, taken, limits_of}
use Rattle.arrays.specs.declared.Given.{Given}
use Rattle.positions.specs.Positions.{fixed_from, StartsAre, NextAsks, PositionAsks}
use Rattle.positions.specs.Positions.{Positioning}
use Rattle.spans.proofs.Separations.{bottom_in}
use Rattle.spans.proofs.Positions.{lowest_placed}
use Rattle.arrays.proofs.Levels.{low_at_any}

above_placed : {b : ℕ} {w : Span} {c : Level} {cs : List Level} {t x y : ℕ} {ts ys : List ℕ} → Placed b w (c ∷ cs) (t ∷ ts) x (y ∷ ys) → Placed b c.window cs ts y ys
above_placed (under i f r) = r

module _ (g : Given) (ts : List ℕ) (a : PositionAsks g ts) (starts : List ℕ) (s : StartsAre g ts 0 starts) where
  lowest_is : entry starts 0 ≡ lowest bias (window_of g 0) (levels g 0 g.channels) (taken ts 0 g.channels)
  unfolding lowest
  lowest_is = s.written 0 g.channels (omega arith) (omega arith)

  pub positioning_start : Positioning g ts 0 (entry starts 0) (set (replicate strips_held 0) 0 (entry starts 0))
  unfolding store positions
  positioning_start =
      record {
        inside = omega arith;
        left = λ n e. let z : n ≡ g.channels = omega arith in rw (z, lowest_is);
        placed = λ n e. let z : n ≡ g.channels = omega arith in rw (z, lowest_is) (lowest_placed bias _ _ _ a.x a.ys a.placed);
      }

  module _ (i x : ℕ) (xs : List ℕ) (p : Positioning g ts i x xs) where
    pub position_small : x < 4294967296
    position_small =
        omega (arith, (bottom_in (p.placed (g.channels - i) (omega (arith, p.inside)))).below, a.narrow i p.inside)

    pub next_asks : i < g.channels → NextAsks (limits_of g.limits i) (last_of g i) x
    next_asks h =
        record {
          listed = a.stack.listed i h;
          position = omega (arith, position_small);
          lows_small = λ q m. a.stack.lows i q h m;
        }

    module _ (h : i < g.channels) (q y : ℕ) (qe : q ≡ entry ts i) (ye : y ≡ max (entry starts (i + 1)) (x + low_of g i (min q (last_of g i)) - bias)) where
      y_is : (n : ℕ) → suc i + n ≡ g.channels → y ≡ max (fixed_from g ts (suc i) n).from (x + low_at (level_of g i).limits (entry ts i) - bias)
      y_is n e =
          rw (low_at_any (low_of g i) (high_of g i) (last_of g i) (entry ts i), ← s.written (suc i) n (omega arith) e, ← qe, ← add-one i) ye

      step_left : (n : ℕ) → suc i + n ≡ g.channels → store (set xs (suc i) y) (suc (suc i)) (positions_on bias y (levels g (suc i) n) (taken ts (suc i) n)) ≡ store (replicate strips_held 0) 0 (positions bias (window_of g 0) (levels g 0 g.channels) (taken ts 0 g.channels))
      unfolding store positions_on levels taken
      step_left n e = rw (y_is n e) (p.left (suc n) (omega arith))

      step_placed : (n : ℕ) → suc i + n ≡ g.channels → Placed bias (window_of g (suc i)) (levels g (suc i) n) (taken ts (suc i) n) y (positions_on bias y (levels g (suc i) n) (taken ts (suc i) n))
      unfolding positions_on levels taken
      step_placed n e = rw (y_is n e) (above_placed (p.placed (suc n) (omega arith)))

      pub positioning_step : Positioning g ts (i + 1) y (set xs (i + 1) y)
      positioning_step =
          rw (add-one i) (record { inside = h; left = step_left; placed = step_placed })

  pub positioning_end : (i x : ℕ) (xs : List ℕ) → Positioning g ts i x xs → g.channels ≤ i → xs ≡ store (replicate strips_held 0) 0 (positions bias (window_of g 0) (levels g 0 g.channels) (taken ts 0 g.channels))
  unfolding store positions_on levels
  positioning_end i x xs p h = p.left 0 (omega (arith, p.inside))
