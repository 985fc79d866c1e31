-- fill_band meets its contract: the loop keeps Banding. Assumes nothing.
use Rattle.band.specs.Band.{Banding}
use Rattle.band.proofs.fill_band.Given as goal

abbrev pub invariant-loop-i : goal.invariant-loop-i
invariant-loop-i l = Banding l.given l.total l.i l.table l.empty
