-- try_placement meets its contract: a refused text, or the verdict. Assumes nothing.
use Rattle.text.proofs.Refusals.{exit_is}
use Rattle.nabetsu.proofs.Trials.{trial_refused, trial_verdict}
use Rattle.nabetsu.proofs.try_placement.Goals as goal

pub returns-in_err-stack : goal.returns-in_err-stack
returns-in_err-stack c = rw (exit_is c.from_residual.result _ c.from_residual.ensures.1) (trial_refused _ _ _ _ _ c.in_err-stack.ensures.outcome)

pub returns : goal.returns
returns c = trial_verdict _ _ _ _ c.in_ok-stack.stack _ c.in_ok-stack.ensures c.is_placement_legal.ensures
