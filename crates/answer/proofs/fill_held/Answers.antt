-- fill_held meets its contract: limits and plan; the windows are not touched. Assumes nothing.
use Rattle.answer.proofs.Standing.{filled_lasts}
use Rattle.answer.proofs.fill_held.Goals as goal

pub plan_for-given-requires : goal.plan_for-given-requires
plan_for-given-requires c = filled_lasts c.args.stack.now _ _ c.requires c.fill_limits.ensures
