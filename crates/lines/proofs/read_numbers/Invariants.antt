-- read_numbers meets its contract: the fields yielded so far are read. Assumes nothing.
use Rattle.std.proofs.Common.{map}
use Rattle.lines.specs.Numbers.{NumbersRead}
use Rattle.lines.proofs.read_numbers.Given as goal

abbrev pub invariant-loop-field : goal.invariant-loop-field
invariant-loop-field l = NumbersRead (map (λ x. x.now) l.yielded) (record { ill = l.ill; count = l.count }) l.values
