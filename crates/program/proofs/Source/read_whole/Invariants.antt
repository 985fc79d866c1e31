-- The count grows at every turn, within the space. Assumes nothing.
use Rattle.std.proofs.Common.{◌-◌}
use Rattle.program.proofs.Source.read_whole.Given as goal

abbrev pub decreases-loop-space : goal.decreases-loop-space
decreases-loop-space l = 8193 - l.space.filled
