-- separations_for meets its contract: the separations, channel 1 first. Assumes nothing.
use Rattle.stack.specs.Value.{tracks_of}
use Rattle.separations.specs.Separations.{Separating}
use Rattle.separations.proofs.separations_for.Given as goal

abbrev pub invariant-loop-i : goal.invariant-loop-i
invariant-loop-i l = Separating l.given l.total l.i l.v l.s (tracks_of l.ts)
