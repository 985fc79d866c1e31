-- page_outcome meets its contract: the refusals in their order. Assumes nothing.
use native.Mathlib.Omega.{arith}
use Rattle.stack.proofs.Within.{stack_channels}
use Rattle.reply.proofs.Outcomes.{asked_none, asked_past, asked_next, and_refused}
use Rattle.reply.proofs.page_outcome.Goals as goal
use Rattle.reply.proofs.page_outcome.Goals.{then-channel-lt1-via-then-channel-lt1, then-channel-lt1-via-else-channel-lt1+then-stack-channel}

pub returns-then-channel-lt1 : goal.returns-then-channel-lt1
returns-then-channel-lt1 c = rw c.new.ensures (elim c.then-channel-lt1.branch [
  | then-channel-lt1-via-then-channel-lt1 w ↦ asked_none _ _ _ (omega arith)
  | then-channel-lt1-via-else-channel-lt1+then-stack-channel w ↦ asked_past _ _ _ (omega (arith, stack_channels c.args.stack.now))
])

pub returns : goal.returns
returns c = asked_next _ _ _ (omega arith) (omega (arith, stack_channels c.args.stack.now)) _ (rw c.and.ensures (and_refused _ _ _ _ c.spread_outcome.ensures (λ e. c.broad_outcome.ensures)))
