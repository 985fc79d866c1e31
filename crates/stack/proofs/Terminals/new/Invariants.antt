-- Terminals::new meets its contract: the loop keeps Making. Assumes nothing.
use Rattle.stack.specs.Made.{Making}
use Rattle.stack.proofs.Terminals.new.Given as goal

abbrev pub invariant-loop-p : goal.invariant-loop-p
invariant-loop-p l = Making l.values l.pairs l.lower.0 l.upper.0 l.terminals l.p-index
