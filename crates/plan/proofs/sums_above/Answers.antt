use Rattle.std.proofs.Common.{◌-◌, arith}
use Rattle.plan.proofs.Sums.{sums_start, sums_step}
use Rattle.plan.proofs.sums_above.Goals as goal

pub loop-i-init : goal.loop-i-init
loop-i-init c = sums_start c.args.lasts.now c.args.k c.requires

pub loop-i-preserved : goal.loop-i-preserved
loop-i-preserved c = sums_step c.args.lasts.now c.args.k c.loop-i.i (c.loop-i.i - 1) c.loop-i.sums c.requires c.loop-i.invariant (omega arith) (omega arith)
