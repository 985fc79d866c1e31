-- take_parts meets its contract: the loop keeps Parting. Assumes nothing.
use Rattle.reading.specs.Driver.{Parting}
use Rattle.reading.proofs.Progress.take_parts.Given as goal

abbrev pub invariant-loop-i : goal.invariant-loop-i
invariant-loop-i l = Parting l.initial.self.text.now l.i l.self
