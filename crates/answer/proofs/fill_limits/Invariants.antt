-- fill_limits meets its contract: the loop keeps LimitsIn. Assumes nothing.
use Rattle.stack.specs.Value.{stack_of}
use Rattle.answer.specs.Arrays.{LimitsIn}
use Rattle.answer.proofs.fill_limits.Given as goal

abbrev pub invariant-loop-i : goal.invariant-loop-i
invariant-loop-i l = LimitsIn (stack_of l.stack) l.i l.limits l.lasts
