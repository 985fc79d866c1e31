-- greatest meets its contract: the loop keeps GreatestSoFar. Assumes nothing.
use Rattle.std.specs.Fn.{FnReturnsAt}
use Rattle.extent.specs.Extent.{GreatestSoFar}
use Rattle.extent.proofs.greatest.Given as goal

abbrev pub invariant-loop-strip : goal.invariant-loop-strip
invariant-loop-strip g l = GreatestSoFar (FnReturnsAt g.F.Fn l.number) l.strips l.strip-index l.most
