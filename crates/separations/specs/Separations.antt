-- What the search for the separations asks, and the invariant of its loop over channels. Assumes nothing: these are definitions.
use Rattle.std.specs.Prelude.{◌≡◌, List, ℕ, suc, ◌+◌, ◌*◌, ◌≤◌, ◌<◌, replicate}
use Rattle.stack.specs.Sizes.{channels_held, strips_held, separations_held, totals_held}
use Rattle.spans.specs.declared.Span.{Span}
use Rattle.spans.specs.Solver.{most, separations}
use Rattle.arrays.specs.Arrays.{bias, low_in, high_in, window_of, levels, StackAsks, Banded, store}
use Rattle.arrays.specs.declared.ChannelLimits.{ChannelLimits}
use Rattle.arrays.specs.declared.StripSpans.{StripSpans}
use Rattle.arrays.specs.declared.Given.{Given}

-- what the search for a separation asks of a channel, for the strip below in the span s
pub record ServeAsks (c : ChannelLimits) (last above : ℕ) (s : Span) : Type 0 where
  pub listed : last < separations_held
  pub total : above < totals_held
  pub starts : s.from ≤ strips_held * bias
  pub ends : s.upto ≤ bias
  pub lows_small : (q : ℕ) → q ≤ last → low_in c q ≤ 2 * bias
  pub highs_small : (q : ℕ) → q ≤ last → high_in c q ≤ 2 * bias

-- what the search for all separations asks: the table holds what can be left of the total in every channel but the last
pub record SeparateAsks (g : Given) (total : ℕ) (t : List StripSpans) : Type 0 where
  pub stack : StackAsks g
  pub table : Banded g total 1 t
  pub fits : total < 4294967296

-- the separations of the channels below i written, strip i in the span s, the total v left for the channels from i on
pub record Separating (g : Given) (total i v : ℕ) (s : Span) (ts : List ℕ) : Type 0 where
  pub inside : i < g.channels
  pub left :
      (n : ℕ)
      → i + n ≡ g.channels
      → store ts i (separations bias s (levels g i n) v)
      ≡ store (replicate channels_held 0) 0 (separations bias (window_of g 0) (levels g 0 g.channels) total)
  pub at_most : v ≤ total
  pub at_least : (n : ℕ) → i + n ≡ g.channels → total + most (levels g i n) ≤ v + (most (levels g 0 g.channels) + i)
  pub starts : s.from ≤ bias * suc i
  pub ends : s.upto ≤ bias
