-- The table filled for the totals in the bands of a stated total, strip by strip from the top down. Assumes nothing: these are definitions.
use Rattle.std.specs.Prelude.{◌≡◌, List, ℕ, ◌+◌, ◌≤◌, ◌<◌}
use Rattle.stack.specs.Sizes.{strips_held, totals_held}
use Rattle.spans.specs.Spans.{span}
use Rattle.spans.specs.Solver.{cell}
use Rattle.arrays.specs.Arrays.{bias, greatest_end, low_in, high_in, Sized, span_in, StackAsks, Banded, spans_of}
use Rattle.arrays.specs.declared.ChannelLimits.{ChannelLimits}
use Rattle.arrays.specs.declared.StripSpans.{StripSpans}
use Rattle.arrays.specs.declared.Given.{Given}
use Rattle.scan.specs.Scan.{cell_at, StripAsks}
use Rattle.scan.specs.declared.Cell.{Cell}

-- what one strip asks for the totals from the cell's to last: each cell of it can be worked out, and the totals before have empty spans
pub record StripAsked (limits : ChannelLimits) (c : Cell) (last : ℕ) (t : List StripSpans) : Type 0 where
  pub sized : Sized t
  pub strip : c.i + 1 < strips_held
  pub total : last < totals_held
  pub some : c.v ≤ last
  pub asks : (v : ℕ) → c.v ≤ v → v ≤ last → StripAsks limits (cell_at c v) t
  pub before : (u : ℕ) → u < c.v → (span_in t c.i u).upto ≤ (span_in t c.i u).from

-- the strip's spans for the totals from the cell's to below end; totals below e have empty spans
pub record StripFilled (limits : ChannelLimits) (c : Cell) (end : ℕ) (t t' : List StripSpans) (e : ℕ) : Type 0 where
  pub sized : Sized t'
  pub few : e ≤ end
  pub others : (j : ℕ) → (j ≡ c.i → ⊥) → spans_of t' j ≡ spans_of t j
  pub outside : (u : ℕ) → (c.v ≤ u → u < end → ⊥) → span_in t' c.i u ≡ span_in t c.i u
  pub cells :
      (v : ℕ)
      → c.v ≤ v
      → v < end
      → span_in t' c.i v ≡ cell bias (low_in limits) (high_in limits) c.least c.last c.above (span_in t (c.i + 1)) c.window v
  pub empties : (u : ℕ) → u < e → (span_in t' c.i u).upto ≤ (span_in t' c.i u).from

-- what the bands ask: an empty table
pub record BandAsks (g : Given) (total : ℕ) (t : List StripSpans) : Type 0 where
  pub stack : StackAsks g
  pub fits : total < 4294967296
  pub sized : Sized t
  pub empty : (j u : ℕ) → span_in t j u ≡ span 0 0

-- rows i to the top one are filled, the rows below are empty; the totals below e have empty spans in row i
pub record Banding (g : Given) (total i : ℕ) (t : List StripSpans) (e : ℕ) : Type 0 where
  pub inside : i ≤ g.channels
  pub table : Banded g total i t
  pub small : (j u : ℕ) → ((span_in t j u).from ≤ greatest_end) × ((span_in t j u).upto ≤ greatest_end)
  pub below : (j u : ℕ) → j < i → span_in t j u ≡ span 0 0
  pub empties : (u : ℕ) → u < e → (span_in t i u).upto ≤ (span_in t i u).from
