-- place_total meets its contract: a refused text, or that of the stack which is read in it; and the third demand of it. Assumes nothing.
use Rattle.text.proofs.Refusals.{exit_is}
use Rattle.nabetsu.proofs.Spreads.{placement_refused, placement_read, placement_best}
use Rattle.nabetsu.proofs.place_total.Goals as goal

pub returns-in_err-stack : goal.returns-in_err-stack
returns-in_err-stack c = rw (exit_is c.from_residual.result _ c.from_residual.ensures.1)
    (let says = placement_refused _ _ _ _ c.in_err-stack.ensures.outcome in record { placement_says = says; placement_best = placement_best _ _ _ _ says })

pub returns : goal.returns
returns c = let says = placement_read _ _ c.in_ok-stack.stack c.in_ok-stack.ensures _ _ c.placement_of.ensures in
    record { placement_says = says; placement_best = placement_best _ _ _ _ says }
