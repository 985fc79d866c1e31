-- take_all_nets meets its contract: the loop keeps Wiring. Assumes nothing.
use Rattle.reading.specs.Driver.{Wiring}
use Rattle.reading.proofs.Progress.take_all_nets.Given as goal

abbrev pub invariant-loop-c : goal.invariant-loop-c
invariant-loop-c l = Wiring l.initial.self.text.now l.c l.self
