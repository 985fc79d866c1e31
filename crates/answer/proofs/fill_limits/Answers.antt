use Rattle.stack.proofs.Within.{few_channels}
use Rattle.answer.proofs.Standing.{limits_step}
use Rattle.answer.proofs.fill_limits.Goals as goal

pub loop-i-preserved : goal.loop-i-preserved
loop-i-preserved c =
    limits_step c.args.stack.now c.loop-i.i _ _ _ c.channel_limits.result c.loop-i-test.true (few_channels c.args.stack.now c.requires) c.loop-i.invariant c.channel_limits.ensures c.last_use.ensures
