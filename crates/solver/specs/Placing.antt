-- What the placement for a total asks, and what it is. Assumes nothing: these are definitions.
use Rattle.std.specs.Prelude.{◌≡◌, List, ℕ, ◌<◌}
use Rattle.numbers.specs.Lists.{padded}
use Rattle.stack.specs.Sizes.{channels_held, strips_held}
use Rattle.stack.specs.Value.{tracks_of, columns_of}
use Rattle.spans.specs.Solver.{separations, positions}
use Rattle.spans.specs.Placed.{Exactly, Widening}
use Rattle.arrays.specs.Arrays.{bias, window_of, levels, StackAsks}
use Rattle.arrays.specs.declared.Given.{Given}
use Rattle.positions.specs.Positions.{Narrow}
use Rattle.stack.specs.declared.Placement.{Placement}

abbrev pub separations_of : Given → (total : ℕ) → List ℕ
separations_of g v = separations bias (window_of g 0) (levels g 0 g.channels) v

-- what a placement for a stated total asks: limits that widen, positions that fit their type, and some placement with that total
pub record PlaceAsks (g : Given) (total : ℕ) : Type 0 where
  pub stack : StackAsks g
  pub narrow : Narrow g
  pub widening : Widening (levels g 0 g.channels)
  pub fits : total < 4294967296
  pub exactly : Exactly bias (window_of g 0) (levels g 0 g.channels) total

-- THE PLACEMENT for a total, as the code gives it
pub record PlacementIs (g : Given) (total : ℕ) (r : Placement) : Type 0 where
  pub total_is : r.total.0 ≡ total
  pub separations_are : tracks_of r.separations ≡ padded channels_held (separations_of g total)
  pub positions_are : columns_of r.positions ≡ padded strips_held (positions bias (window_of g 0) (levels g 0 g.channels) (separations_of g total))
