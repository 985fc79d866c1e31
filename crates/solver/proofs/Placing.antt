-- The tables, the least total and the placement put together. Assumes nothing.
use mathlib.Core.Path.{◌≡◌, refl, ap, ◌∙◌}
use mathlib.Core.List.{List, [], ◌∷◌}
use Prim.Native.Nat.{ℕ, zero, suc, ◌+◌, ◌-◌, max}
use native.Mathlib.Omega.{arith}
use lib.ListN.{length, replicate}
use Rattle.numbers.specs.Lists.{padded}
use Rattle.stack.specs.Value.{tracks_of, columns_of}
use Rattle.stack.specs.Sizes.{channels_held, strips_held}
use Rattle.spans.specs.Spans.{low_at}
use Rattle.spans.specs.declared.Span.{Span}
use Rattle.spans.specs.Solver.{forward, least_serving, fixed, Level, separations, positions_on, positions}
use Rattle.spans.specs.Placed.{Chosen}
use Rattle.arrays.specs.Arrays.{bias, window_of, levels, store, taken}
use Rattle.arrays.specs.declared.Given.{Given}
use Rattle.positions.specs.Positions.{PositionAsks}
use Rattle.solver.specs.Placing.{separations_of, PlaceAsks, PlacementIs}
use Rattle.stack.specs.declared.Placement.{Placement}
use Rattle.solver.proofs.Stored.{store_padded, taken_padded}
use Rattle.spans.proofs.Chosen.{chosen}

-- a separation for each channel, a position for each strip
levels_length : (g : Given) (i n : ℕ) → length (levels g i n) ≡ n
unfolding levels
levels_length g i zero = refl
levels_length g i (suc n) = ap suc (levels_length g (suc i) n)

separations_length : (b : ℕ) (s : Span) (cs : List Level) (v : ℕ) → length (separations b s cs v) ≡ length cs
unfolding separations
separations_length b s [] v = refl
separations_length b s (c ∷ []) v = refl
separations_length b s (c ∷ d ∷ cs) v = ap suc (separations_length b (forward b s c (least_serving b s c (d ∷ cs) v)) (d ∷ cs) _)

positions_on_length : (b x : ℕ) (cs : List Level) (ts : List ℕ) → length ts ≡ length cs → length (positions_on b x cs ts) ≡ length cs
unfolding positions_on
positions_on_length b x [] ts e = refl
positions_on_length b x (c ∷ cs) [] e = absurd (omega arith)
positions_on_length b x (c ∷ cs) (t ∷ ts) e = ap suc (positions_on_length b (max (fixed b c.window cs ts).from (x + low_at c.limits t - b)) cs ts (omega arith))

module _ (g : Given) (total : ℕ) (a : PlaceAsks g total) where
  separations_count : length (separations_of g total) ≡ g.channels
  separations_count = separations_length bias (window_of g 0) (levels g 0 g.channels) total ∙ levels_length g 0 g.channels

  stored : (ts : List ℕ) → ts ≡ store (replicate channels_held 0) 0 (separations_of g total) → ts ≡ padded channels_held (separations_of g total)
  stored ts e = e ∙ store_padded channels_held (separations_of g total) (omega (arith, separations_count, a.stack.channels))

  read_back : (ts : List ℕ) → ts ≡ store (replicate channels_held 0) 0 (separations_of g total) → taken ts 0 g.channels ≡ separations_of g total
  read_back ts e = rw (stored ts e) (taken_padded channels_held g.channels (separations_of g total) separations_count)

  pub position_asks : (ts : List ℕ) → ts ≡ store (replicate channels_held 0) 0 (separations_of g total) → PositionAsks g ts
  position_asks ts e = go (chosen bias (window_of g 0) (levels g 0 g.channels) total a.widening a.exactly)
    where
      go : {x : ℕ} {ys : List ℕ} → Chosen bias (window_of g 0) (levels g 0 g.channels) total (separations_of g total) x ys → PositionAsks g ts
      go {x} {ys} c = record { stack = a.stack; narrow = a.narrow; x = x; ys = ys; placed = rw (read_back ts e) c.is_placed }

  positions_count : length (positions bias (window_of g 0) (levels g 0 g.channels) (separations_of g total)) ≡ suc g.channels
  unfolding positions
  positions_count = ap suc (positions_on_length bias _ (levels g 0 g.channels) (separations_of g total) (separations_length bias (window_of g 0) (levels g 0 g.channels) total) ∙ levels_length g 0 g.channels)

  pub placement_is : (r : Placement) → r.total.0 ≡ total → tracks_of r.separations ≡ store (replicate channels_held 0) 0 (separations_of g total) → columns_of r.positions ≡ store (replicate strips_held 0) 0 (positions bias (window_of g 0) (levels g 0 g.channels) (taken (tracks_of r.separations) 0 g.channels)) → PlacementIs g total r
  placement_is r t s p =
      record {
        total_is = t;
        separations_are = stored (tracks_of r.separations) s;
        positions_are = (rw (read_back (tracks_of r.separations) s) at p) ∙ store_padded strips_held _ (omega (arith, positions_count, a.stack.channels));
      }
