-- single_placement meets its contract. Assumes nothing.
use mathlib.Core.Path.{refl}
use Rattle.text.proofs.Refusals.{exit_is}
use Rattle.spread.proofs.Placements.{placement_refused}
use Rattle.spread.proofs.Single.{single_unmet, single_placed}
use Rattle.spread.proofs.single_placement.Goals as goal

pub returns-in_err-single_outcome : goal.returns-in_err-single_outcome
returns-in_err-single_outcome c = rw (exit_is c.from_residual.result _ c.from_residual.ensures.1) (placement_refused _ _ _ _ _ c.in_err-single_outcome.ensures)

pub returns-then-total-ne0 : goal.returns-then-total-ne0
returns-then-total-ne0 c = single_unmet _ _ c.in_ok-single_outcome.ensures _ c.new.result c.if-total-ne0.true c.new.ensures

pub returns : goal.returns
returns c = single_placed _ _ c.in_ok-single_outcome.ensures _ _ c.if-total-ne0.false refl refl refl
