-- starts_for meets its contract: the first positions under the separations chosen. Assumes nothing.
use Rattle.stack.specs.Value.{tracks_of}
use Rattle.positions.specs.Positions.{Fixing}
use Rattle.positions.proofs.starts_for.Given as goal

abbrev pub invariant-loop-i : goal.invariant-loop-i
invariant-loop-i l = Fixing l.given (tracks_of l.ts) l.i l.s l.starts
