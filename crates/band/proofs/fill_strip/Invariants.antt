-- fill_strip meets its contract: the loop keeps StripFilled. Assumes nothing.
use Rattle.band.specs.Band.{StripFilled}
use Rattle.band.proofs.fill_strip.Given as goal

abbrev pub invariant-loop-v : goal.invariant-loop-v
invariant-loop-v l = StripFilled l.limits l.first l.v l.initial.table l.table l.empty
