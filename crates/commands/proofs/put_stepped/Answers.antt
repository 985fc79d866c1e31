-- put_stepped meets its contract: the step's refusal, the spread's, or the row. Assumes nothing.
use Rattle.text.proofs.Refusals.{exit_is}
use Rattle.commands.proofs.Steps.{step_refused, total_refused, place_refused, step_put, strip_there, step_asked}
use Rattle.commands.proofs.put_stepped.Goals as goal

pub returns-in_err-outcome : goal.returns-in_err-outcome
returns-in_err-outcome c = rw (exit_is c.from_residual.result _ c.from_residual.ensures.1) (step_refused _ _ _ _ _ _ (rw c.in_err-outcome.was))

pub returns-in_err-total : goal.returns-in_err-total
returns-in_err-total c = rw (exit_is c.from_residual-in_err-total.result _ c.from_residual-in_err-total.ensures.1)
    (total_refused _ _ _ (rw c.in_ok-outcome.was) _ _ _ c.in_err-total.ensures.session_total_says)

pub returns-in_err-placement : goal.returns-in_err-placement
returns-in_err-placement c = rw (exit_is c.from_residual-in_err-placement.result _ c.from_residual-in_err-placement.ensures.1)
    (place_refused _ _ _ (rw c.in_ok-outcome.was) _ c.in_ok-total.ensures.session_total_says _ _ _ c.in_err-placement.ensures.session_placement_says)

pub overflow_sub-session : goal.overflow_sub-session
overflow_sub-session c = strip_there c.args.session.now _ _ _ c.in_ok-placement.ensures.session_placement_says

pub put_row-requires : goal.put_row-requires
put_row-requires c = step_asked c.args.session.now _ _ _ c.in_ok-placement.ensures.session_placement_says c.requires

pub returns : goal.returns
returns c = step_put c.args.session.now _ _ (rw c.in_ok-outcome.was) _ c.in_ok-total.ensures.session_total_says _ c.in_ok-placement.ensures.session_placement_says _ _ _ c.put_row.ensures
