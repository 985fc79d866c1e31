-- take_gaps meets its contract: the loop keeps Gapping, so that there are at most as many GAP lines as channels. Assumes nothing.
use Prim.Native.Nat.{◌-◌}
use Rattle.std.specs.Prelude.{unwrap_or}
use Rattle.reading.specs.Driver.{Gapping}
use Rattle.reading.proofs.Progress.take_gaps.Given as goal

abbrev pub invariant-loop-self : goal.invariant-loop-self
invariant-loop-self l = Gapping l.initial.self.text.now l.g (unwrap_or l.before 0) l.self

abbrev pub decreases-loop-self : goal.decreases-loop-self
decreases-loop-self l = 9 - l.g
