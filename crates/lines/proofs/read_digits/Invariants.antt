-- read_digits meets its contract: the loop keeps Counting. Assumes nothing.
use Rattle.lines.specs.Numbers.{Counting}
use Rattle.lines.proofs.read_digits.Given as goal

abbrev pub invariant-loop-x : goal.invariant-loop-x
invariant-loop-x l = Counting l.bytes l.x-index l.value
