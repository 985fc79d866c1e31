-- The loop that finds the separations, from the bottom channel up. Assumes nothing.
use mathlib.Core.Path.{◌≡◌, ◌∙◌}
use mathlib.Core.Logic.{◌⊎◌, inl, inr}
use mathlib.Core.List.{List}
use Prim.Native.Nat.{ℕ, zero, suc, ◌+◌, ◌-◌, ◌≤◌, ◌<◌, min, max}
use native.Mathlib.Numerals.{add-one}
use native.Mathlib.Omega.{arith}
use lib.ListN.{set, replicate}
use Rattle.stack.specs.Sizes.{channels_held, separations_held}
use Rattle.spans.specs.Spans.{cut, shift_on}
use Rattle.spans.specs.declared.Span.{Span}
use Rattle.spans.specs.Solver.{opens, first_open, most, stop, back, serves, first_serving, least_serving, forward, separations}
use Rattle.arrays.specs.Arrays.{bias, entry, low_of, high_of, last_of, window_of, level_of, levels, span_in, store, InBand}
use Rattle.arrays.specs.declared.StripSpans.{StripSpans}
use Rattle.arrays.specs.declared.Given.{Given}
use Rattle.separations.specs.Separations.{SeparateAsks}
use Rattle.separations.specs.Separations.{Separating}
use Rattle.numbers.proofs.Orders.{le_or_lt}
use Rattle.spans.proofs.First.{first_upto}
use Rattle.arrays.proofs.Levels.{most_step, least_at, above_at, serving_back, forward_back}

-- what is found is at most one past the last separation
pub open_bound : (low high : ℕ → ℕ) (m : ℕ) → first_open low high m ≤ suc m
unfolding first_open
open_bound low high m = omega (arith, first_upto (opens low high) 0 (suc m))

pub serving_bound : (b : ℕ) (low high : ℕ → ℕ) (o m a : ℕ) (f : ℕ → Span) (s : Span) (v : ℕ) → o ≤ suc m → first_serving b low high o m a f s v ≤ suc m
unfolding first_serving
serving_bound b low high o m a f s v h = omega (arith, first_upto (serves b low high a f s v) o (stop m v - o))

module _ (g : Given) (total : ℕ) where
  module _ (i v : ℕ) (s : Span) (ts : List ℕ) (table : List StripSpans) (a : SeparateAsks g total table) (h : Separating g total i v s ts) (next : i + 1 < g.channels) where
    abbrev least : ℕ
    least = entry g.plan.leasts i

    abbrev above : ℕ
    above = entry g.plan.above (i + 1)

    least_is : least ≡ first_open (low_of g i) (high_of g i) (last_of g i)
    least_is = least_at g a.stack.planned i h.inside

    above_is : (n : ℕ) → suc i + n ≡ g.channels → above ≡ most (levels g (suc i) n)
    above_is n e = rw (add-one i) (above_at g a.stack.planned (suc i) n e)

    abbrev f : ℕ → Span
    f = span_in table (i + 1)

    -- what a separation leaves is in the band of the strip above
    band_is : (n q : ℕ) → suc i + n ≡ g.channels → q ≤ last_of g i → InBand g total (suc i) n (min (v - q) (most (levels g (suc i) n)))
    band_is n q e l = (omega (arith, h.at_most), omega arith, go (le_or_lt (most (levels g (suc i) n)) (v - q)))
      where
        go : (most (levels g (suc i) n) ≤ v - q) ⊎ (v - q < most (levels g (suc i) n)) →
            (min (v - q) (most (levels g (suc i) n)) ≡ most (levels g (suc i) n))
            ⊎ (total + most (levels g (suc i) n) ≤ min (v - q) (most (levels g (suc i) n)) + (most (levels g 0 g.channels) + suc i))
        go (inl p) = inl (omega arith)
        go (inr p) = inr (omega (arith, h.at_least (suc n) (omega arith), most_step g i n))

    row_is : (n q : ℕ) → suc i + n ≡ g.channels → q ≤ last_of g i → f (min (v - q) (most (levels g (suc i) n))) ≡ back bias (window_of g (suc i)) (levels g (suc i) n) (min (v - q) (most (levels g (suc i) n)))
    row_is n q e l = rw (add-one i) (a.table.banded (suc i) n _ (omega arith) e (band_is n q e l))

    separation_bound : (q : ℕ) → q ≡ first_serving bias (low_of g i) (high_of g i) least (last_of g i) above f s v → q ≤ suc (last_of g i)
    separation_bound q e =
        omega (arith, e, serving_bound bias (low_of g i) (high_of g i) least (last_of g i) above f s v (omega (arith, least_is, open_bound (low_of g i) (high_of g i) (last_of g i))))

    pub separation_small : (q : ℕ) → q ≡ first_serving bias (low_of g i) (high_of g i) least (last_of g i) above f s v → q ≤ separations_held
    separation_small q e = omega (arith, separation_bound q e, a.stack.listed i h.inside)

    module _ (q : ℕ) (t : Span) (v₁ : ℕ) (qe : q ≡ first_serving bias (low_of g i) (high_of g i) least (last_of g i) above f s v) (te : t ≡ cut (window_of g (i + 1)) (shift_on bias (low_of g i (min q (last_of g i))) (high_of g i (min q (last_of g i))) s)) (ve : v₁ ≡ v - q) where
      q_is : (n : ℕ) → suc i + n ≡ g.channels → q ≡ least_serving bias s (level_of g i) (levels g (suc i) n) v
      q_is n e = qe ∙ rw (least_is, above_is n e) (serving_back g i n f s v (λ p m l. row_is n p e m))

      t_is : t ≡ forward bias s (level_of g i) q
      t_is = te ∙ rw (add-one i) (forward_back g i 0 f s v q)

      step_left : (n : ℕ) → suc i + n ≡ g.channels → store (set ts i q) (suc i) (separations bias t (levels g (suc i) n) v₁) ≡ store (replicate channels_held 0) 0 (separations bias (window_of g 0) (levels g 0 g.channels) total)
      unfolding store separations levels
      step_left zero e = absurd (omega arith)
      step_left (suc n) e = rw (ve, t_is, q_is (suc n) e) (h.left (suc (suc n)) (omega arith))

      t_ends : (t.from ≤ max (window_of g (i + 1)).from (s.from + low_of g i (min q (last_of g i)) - bias)) × (t.upto ≤ (window_of g (i + 1)).upto)
      t_ends = (rw te (omega arith), rw te (omega arith))

      pub separating_step : Separating g total (i + 1) v₁ t (set ts i q)
      separating_step =
          rw (add-one i)
          (record {
            inside = omega arith;
            left = λ n e. step_left n e;
            at_most = omega (arith, h.at_most);
            at_least = λ n e. omega (arith, h.at_least (suc n) (omega arith), most_step g i n, separation_bound q qe);
            starts = omega (arith, t_ends, h.starts, a.stack.starts (i + 1) (omega arith), a.stack.lows i (min q (last_of g i)) h.inside (omega arith));
            ends = omega (arith, t_ends, a.stack.ends (i + 1) (omega arith));
          })

  -- the last channel takes what is left
  pub separating_end : (i v : ℕ) (s : Span) (ts : List ℕ) → Separating g total i v s ts → g.channels ≤ i + 1 → set ts i v ≡ store (replicate channels_held 0) 0 (separations bias (window_of g 0) (levels g 0 g.channels) total)
  unfolding store separations levels
  separating_end i v s ts h e = h.left 1 (omega (arith, h.inside))
