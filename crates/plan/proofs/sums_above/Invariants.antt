-- sums_above meets its contract: the loop keeps SumsAre. Assumes nothing.

use Rattle.arrays.specs.Arrays.{SumsAre}
use Rattle.plan.proofs.sums_above.Given as goal

abbrev pub invariant-loop-i : goal.invariant-loop-i
invariant-loop-i l = SumsAre l.lasts l.k l.i l.sums
