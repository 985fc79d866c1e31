-- spread_outcome meets its contract: a narrow spread, or none. Assumes nothing.
use Rattle.stack.proofs.Within.{few_channels}
use Rattle.reply.specs.Refusals.{narrow_refusal}
use Rattle.reply.proofs.spread_outcome.Goals as goal

pub first_spread-requires : goal.first_spread-requires
first_spread-requires c = few_channels c.args.stack.now c.requires

pub returns : goal.returns
unfolding narrow_refusal
returns c = rw (← c.first_spread.ensures.is) c.narrow_outcome.ensures
