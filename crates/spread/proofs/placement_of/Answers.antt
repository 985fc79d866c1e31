-- placement_of meets its contract: a narrow spread, a total that is not met, or the placement. Assumes nothing.
use Rattle.text.proofs.Refusals.{exit_is}
use Rattle.spread.proofs.Spreads.{narrow_wide}
use Rattle.spread.proofs.Placements.{placement_refused, stated_answered}
use Rattle.spread.proofs.placement_of.Goals as goal

pub returns-in_err-spread_outcome : goal.returns-in_err-spread_outcome
returns-in_err-spread_outcome c = rw (exit_is c.from_residual.result _ c.from_residual.ensures.1) (placement_refused _ _ _ _ _ c.in_err-spread_outcome.ensures)

pub placement_in-requires : goal.placement_in-requires
placement_in-requires c = record { within = c.requires; wide = narrow_wide _ _ c.in_ok-spread_outcome.ensures }

pub returns : goal.returns
returns c = let q = c.in_ok-spread_outcome.ensures in
    rw c.ok_or.ensures.value (stated_answered _ _ _ _ q c.requires (narrow_wide _ _ q) c.placement_in.result _ c.new.ensures c.placement_in.ensures)
