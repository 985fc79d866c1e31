-- total_of meets its contract: a narrow spread, or the least total. Assumes nothing.
use Rattle.text.proofs.Refusals.{exit_is}
use Rattle.spread.proofs.Spreads.{narrow_wide}
use Rattle.spread.proofs.Totals.{total_refused, total_answered}
use Rattle.spread.proofs.total_of.Goals as goal

pub returns-in_err-spread_outcome : goal.returns-in_err-spread_outcome
returns-in_err-spread_outcome c = rw (exit_is c.from_residual.result _ c.from_residual.ensures.1) (total_refused _ _ _ _ c.in_err-spread_outcome.ensures)

pub total_in-requires : goal.total_in-requires
total_in-requires c = record { within = c.requires; wide = narrow_wide _ _ c.in_ok-spread_outcome.ensures }

pub returns : goal.returns
returns c = total_answered _ _ _ c.total_in.result c.in_ok-spread_outcome.ensures c.requires (narrow_wide _ _ c.in_ok-spread_outcome.ensures) c.total_in.ensures
