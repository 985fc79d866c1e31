-- place_in meets its contract: the placement for a stated total. Assumes nothing.
use mathlib.Core.Path.{refl}
use Rattle.solver.proofs.Placing.{position_asks, placement_is}
use Rattle.solver.proofs.place_in.Goals as goal

pub positions_for-positions-requires : goal.positions_for-positions-requires
positions_for-positions-requires c = position_asks _ _ c.requires.0 _ c.separations_for-separations.ensures

pub returns : goal.returns
returns c = placement_is _ _ c.requires.0 _ refl c.separations_for-separations.ensures c.positions_for-positions.ensures
