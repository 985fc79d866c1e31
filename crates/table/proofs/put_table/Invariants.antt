-- put_table meets its contract: the walk from event to event up to the greatest spread of use. Assumes nothing.
use Prim.Native.Nat.{suc, ◌+◌, ◌-◌}
use Rattle.table.specs.Walking.{Stepping}
use Rattle.table.proofs.put_table.Given as goal

abbrev pub invariant-loop-w : goal.invariant-loop-w
invariant-loop-w l = Stepping l.stack l.given l.table l.out l.w

abbrev pub decreases-loop-w : goal.decreases-loop-w
decreases-loop-w l = suc l.widest - (l.w.spread + l.w.jump)
