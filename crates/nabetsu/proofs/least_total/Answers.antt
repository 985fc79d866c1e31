-- least_total meets its contract: a refused text, or that of the stack which is read in it; and the third demand of it. Assumes nothing.
use Rattle.text.proofs.Refusals.{exit_is}
use Rattle.nabetsu.proofs.Spreads.{total_refused, total_read, total_best}
use Rattle.nabetsu.proofs.least_total.Goals as goal

pub returns-in_err-stack : goal.returns-in_err-stack
returns-in_err-stack c = rw (exit_is c.from_residual.result _ c.from_residual.ensures.1)
    (let says = total_refused _ _ _ c.in_err-stack.ensures.outcome in record { total_says = says; total_best = total_best _ _ _ says })

pub returns : goal.returns
returns c = let says = total_read _ _ c.in_ok-stack.stack c.in_ok-stack.ensures _ c.total_of.ensures in
    record { total_says = says; total_best = total_best _ _ _ says }
