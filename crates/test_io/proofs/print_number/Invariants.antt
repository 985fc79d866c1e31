-- The place stays within the digits. Assumes nothing.
use Rattle.std.proofs.Common.{◌≤◌}
use Rattle.test_io.proofs.print_number.Given as goal

abbrev pub invariant-loop-at : goal.invariant-loop-at
invariant-loop-at g l = l.at ≤ 20

abbrev pub decreases-loop-at : goal.decreases-loop-at
decreases-loop-at g l = l.at
