-- The scan for the least total: total after total from 0 on, each strip's span from the top down, until the bottom strip's is not empty; and how far the
-- spread may grow before a total below it can be had. Assumes nothing: these are definitions.
use Rattle.std.specs.Prelude.{◌≡◌, true, ◌⊎◌, Option, None, Some, is_some, List, ℕ, suc, ◌+◌, ◌-◌, ◌*◌, ◌≤◌, ◌<◌, min, max, length, set}
use Rattle.stack.specs.Sizes.{channels_held, strips_held, separations_held, totals_held}
use Rattle.spans.specs.Spans.{span}
use Rattle.spans.specs.declared.Span.{Span}
use Rattle.spans.specs.Solver.{most, cell, back, first_total}
use Rattle.spans.specs.Jump.{nearest, furthest, between, shortfall, cell_short, short_at}
use Rattle.arrays.specs.Arrays.{bias, greatest_end, unless_zero, entry, low_in, high_in, spans_of, span_at, span_put, window_at, last_of, window_of, level_of, levels, TwoRows, Sized, span_in, StackAsks, Filled}
use Rattle.arrays.specs.declared.ChannelLimits.{ChannelLimits}
use Rattle.arrays.specs.declared.StripSpans.{StripSpans}
use Rattle.arrays.specs.declared.Given.{Given}
use Rattle.scan.specs.declared.Cell.{Cell}
use Rattle.scan.specs.declared.Ends.{Ends}
use Rattle.scan.specs.declared.Scan.{Scan}

-- a table with the span w for strip i at the total v
abbrev pub put_span : List StripSpans → (i v : ℕ) → Span → List StripSpans
put_span t i v w = set t i (span_put (spans_of t i) v w)

-- what the loop over a channel's separations asks: indices within the arrays, ends and limits that leave room for the bias
pub record EndsAsk (limits : ChannelLimits) (spans : StripSpans) (v start stop : ℕ) : Type 0 where
  pub total : v < totals_held
  pub listed : stop ≤ separations_held
  pub within : stop ≤ suc v
  pub lows_small : (q : ℕ) → q < stop → low_in limits q ≤ 2 * bias
  pub highs_small : (q : ℕ) → q < stop → high_in limits q ≤ 2 * bias
  pub starts : (u : ℕ) → u + start ≤ v → (span_at spans u).from ≤ bias
  pub ends : (u : ℕ) → u + start ≤ v → (span_at spans u).upto ≤ bias

-- the ends s stretched by separations from start to below stop
pub record EndsAre (limits : ChannelLimits) (spans : StripSpans) (v start stop : ℕ) (s r : Ends) : Type 0 where
  pub small : r.near ≤ 2 * bias
  pub near_is : r.near - bias ≡ nearest bias (high_in limits) (λ q. span_at spans (v - q)) start (stop - start) (s.near - bias)
  pub reach_is : r.reach ≡ furthest bias (low_in limits) (λ q. span_at spans (v - q)) start (stop - start) s.reach

-- ends that give the same span in the window w, and the same shortfall, as those of separations from start to below stop
pub record EndsServe (limits : ChannelLimits) (spans : StripSpans) (v start stop : ℕ) (w : Span) (r : Ends) : Type 0 where
  pub small : r.near ≤ 2 * bias
  pub span_is :
      between bias w (r.near - bias) r.reach
      ≡ between bias w (nearest bias (high_in limits) (λ q. span_at spans (v - q)) start (stop - start) bias) (furthest bias (low_in limits) (λ q. span_at spans (v - q)) start (stop - start) 0)
  pub short_is :
      shortfall bias w (r.near - bias) r.reach
      ≡ shortfall bias w (nearest bias (high_in limits) (λ q. span_at spans (v - q)) start (stop - start) bias) (furthest bias (low_in limits) (λ q. span_at spans (v - q)) start (stop - start) 0)

-- strip i at the total v
abbrev pub cell_of : Given → (i v least above empty : ℕ) → Cell
cell_of g i v least above empty = record { i = i; v = v; least = least; last = last_of g i; above = above; empty = empty; window = window_of g i }

abbrev pub cell_in : Given → (i v empty : ℕ) → Cell
cell_in g i v empty = cell_of g i v (entry g.plan.leasts i) (entry g.plan.above (i + 1)) empty

-- the cell of the same strip at total v
abbrev pub cell_at : Cell → (v : ℕ) → Cell
cell_at c v = record { i = c.i; v = v; least = c.least; last = c.last; above = c.above; empty = c.empty; window = c.window }

-- what one cell asks; in the strip above the totals below empty have empty spans
pub record StripAsks (limits : ChannelLimits) (c : Cell) (t : List StripSpans) : Type 0 where
  pub channel : c.i < channels_held
  pub total : c.v < totals_held
  pub listed : c.last < separations_held
  pub of_use : c.v ≤ c.last + c.above
  pub start : c.window.from ≤ greatest_end
  pub end : c.window.upto ≤ greatest_end
  pub lows_small : (q : ℕ) → q ≤ c.last → low_in limits q ≤ 2 * bias
  pub highs_small : (q : ℕ) → q ≤ c.last → high_in limits q ≤ 2 * bias
  pub starts : (u : ℕ) → u ≤ c.v → u ≤ c.above → (span_in t (c.i + 1) u).from ≤ bias
  pub ends : (u : ℕ) → u ≤ c.v → u ≤ c.above → (span_in t (c.i + 1) u).upto ≤ bias
  pub empties : (u : ℕ) → u < c.empty → u ≤ c.above → (span_in t (c.i + 1) u).upto ≤ (span_in t (c.i + 1) u).from

-- the cell written, and its shortfall, if it is short
pub record StripDone (limits : ChannelLimits) (c : Cell) (t t' : List StripSpans) (short : Option ℕ) : Type 0 where
  pub put_is : t' ≡ put_span t c.i c.v (cell bias (low_in limits) (high_in limits) c.least c.last c.above (span_in t (c.i + 1)) c.window c.v)
  pub short_is : short ≡ unless_zero (cell_short bias bias (low_in limits) (high_in limits) c.least c.last c.above (span_in t (c.i + 1)) c.window c.v)

-- the lesser of a jump and a shortfall, if there is a shortfall
abbrev pub jump_if : (short : Option ℕ) → (jump : ℕ) → ℕ
jump_if None j = j
jump_if (Some s) j = min j s

-- totals below r are known to have empty spans, if those below n are, and v is if its span is short
pub record EmptyOn (n v : ℕ) (short : Option ℕ) (r : ℕ) : Type 0 where
  pub known : (u : ℕ) → u < r → (u < n) ⊎ ((u ≡ v) × (is_some short ≡ true))
  pub at_most : n ≤ v → r ≤ suc v

-- the span in the window w of a strip for which nothing is left above
abbrev pub none_in : Span → Span
none_in w = span (max w.from w.upto) 0

-- two rows with the span w for the first n totals
pub record RowIs (w : Span) (n : ℕ) (r : StripSpans) : Type 0 where
  pub sized : TwoRows r
  pub written : (u : ℕ) → u < n → span_at r u ≡ w

-- the windows of the first n strips fit the table's numbers
pub record EndsFit (windows : List Span) (n : ℕ) : Type 0 where
  pub starts : (i : ℕ) → i < n → (window_at windows i).from ≤ greatest_end
  pub ends : (i : ℕ) → i < n → (window_at windows i).upto ≤ greatest_end

-- each strip below strip i has that span for the totals from v to cap
pub record Cleared (windows : List Span) (i v cap : ℕ) (t : List StripSpans) : Type 0 where
  pub sized : Sized t
  pub cleared : (j u : ℕ) → j < i → v ≤ u → u ≤ cap → span_in t j u ≡ none_in (window_at windows j)

-- tables that differ only for strips from i on, at total v
pub record OnlyAt (v i : ℕ) (t₀ t : List StripSpans) : Type 0 where
  pub kept : (j u : ℕ) → (i ≤ j → u ≡ v → ⊥) → span_in t j u ≡ span_in t₀ j u

-- for each strip so many first totals with an empty span: of totals below v, and for strips from i on of total v
pub record EmptiesAre (k v i : ℕ) (t : List StripSpans) (r : List ℕ) : Type 0 where
  pub size : length r ≡ strips_held
  pub empty : (j u : ℕ) → j ≤ k → u < entry r j → (span_in t j u).upto ≤ (span_in t j u).from
  pub earlier : (j : ℕ) → j < i → entry r j ≤ v
  pub here : (j : ℕ) → j ≤ k → entry r j ≤ suc v

-- the shortfall of strip j's span at the total u, with n + 1 channels above it
abbrev pub short_of : Given → (j n u : ℕ) → ℕ
short_of g j n u = short_at bias bias (window_of g j) (level_of g j) (levels g (suc j) n) u

-- the spans for totals below v, and at v for strips from i on; no such span is short by less than the jump, the bottom strip's included
pub record Scanning (g : Given) (v i : ℕ) (t : List StripSpans) (jump : ℕ) : Type 0 where
  pub sized : Sized t
  pub earlier : (j n u : ℕ) → j + n ≡ g.channels → u < v → u ≤ most (levels g j n) → span_in t j u ≡ back bias (window_of g j) (levels g j n) u
  pub here : (j n : ℕ) → i ≤ j → j + n ≡ g.channels → v ≤ most (levels g j n) → span_in t j v ≡ back bias (window_of g j) (levels g j n) v
  pub jump_some : 0 < jump
  pub jump_small : jump ≤ bias
  pub earlier_jump : (j n u : ℕ) → j + suc n ≡ g.channels → u < v → u ≤ most (levels g j (suc n)) → 0 < short_of g j n u → jump ≤ short_of g j n u
  pub here_jump : (j n : ℕ) → i ≤ j → j + suc n ≡ g.channels → v ≤ most (levels g j (suc n)) → 0 < short_of g j n v → jump ≤ short_of g j n v

-- THE SCAN for totals up to cap: the first that can be had, or cap + 1; the table for totals up to it; no span for a total below it is short by less than the jump
pub record ScanIs (g : Given) (cap : ℕ) (t : List StripSpans) (r : Scan) : Type 0 where
  pub table : Filled g (min r.total cap) 0 t
  pub total_is : r.total ≡ first_total (back bias (window_of g 0) (levels g 0 g.channels)) cap
  pub jump_some : 0 < r.jump
  pub jump_is : (j n u : ℕ) → j + suc n ≡ g.channels → u < r.total → u ≤ most (levels g j (suc n)) → 0 < short_of g j n u → r.jump ≤ short_of g j n u

-- what the scan asks of one total
pub record TotalAsks (g : Given) (v : ℕ) (es : List ℕ) (t : List StripSpans) (jump : ℕ) : Type 0 where
  pub stack : StackAsks g
  pub total : v < totals_held
  pub tables : Scanning g v g.channels t jump
  pub empties : EmptiesAre g.channels v g.channels t es
  pub clear : Cleared g.windows g.channels v v t

-- what the scan asks: totals up to cap are of use and within the table
pub record ScanAsks (g : Given) (cap : ℕ) (t : List StripSpans) : Type 0 where
  pub stack : StackAsks g
  pub total : cap < totals_held
  pub of_use : cap ≤ most (levels g 0 g.channels)
  pub sized : Sized t
