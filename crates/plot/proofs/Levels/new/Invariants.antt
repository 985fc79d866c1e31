-- Pair by pair. Assumes nothing.
use Rattle.plot.specs.Drawing.{LevelsFilled}
use Rattle.plot.proofs.Levels.new.Given as goal

abbrev pub invariant-loop-j : goal.invariant-loop-j
invariant-loop-j l = LevelsFilled l.terminals l.lower.0 l.upper.0 l.j l.levels
