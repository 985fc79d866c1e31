-- At every turn the next line begins among what is read, and what is held steps have made. Assumes nothing.
use Rattle.program.specs.Input.{Running}
use Rattle.program.proofs.run_steps.Given as goal

abbrev pub invariant-loop-n : goal.invariant-loop-n
invariant-loop-n l = Running l.space.filled l.replay l.at
