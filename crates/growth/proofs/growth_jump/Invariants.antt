-- growth_jump meets its contract: the loop keeps Growing. Assumes nothing.
use Rattle.arrays.specs.Arrays.{ends_of}
use Rattle.growth.specs.Growth.{Growing}
use Rattle.growth.proofs.growth_jump.Given as goal

abbrev pub invariant-loop-i : goal.invariant-loop-i
invariant-loop-i l = Growing l.given (ends_of l.growths) l.total l.i l.table l.grows l.empty l.jump
