-- positions_for meets its contract: the positions, bottom strip first. Assumes nothing.
use Rattle.stack.specs.Value.{tracks_of, columns_of}
use Rattle.positions.specs.Positions.{Positioning}
use Rattle.positions.proofs.positions_for.Given as goal

abbrev pub invariant-loop-i : goal.invariant-loop-i
invariant-loop-i l = Positioning l.given (tracks_of l.ts) l.i l.x (columns_of l.xs)
