-- session_total meets its contract: a refused text or step, or what the session answers. Assumes nothing.
use Rattle.text.proofs.Refusals.{exit_is}
use Rattle.nabetsu.proofs.Sessions.{steps_total_refused, steps_total_refused_best, steps_total, steps_total_best}
use Rattle.nabetsu.proofs.session_total.Goals as goal

pub returns-in_err-replay : goal.returns-in_err-replay
returns-in_err-replay c = let p = c.replay_steps-replay in
    rw (exit_is c.from_residual.result _ c.from_residual.ensures.1) (record {
      steps_total_says = steps_total_refused _ _ p.result p.ensures.is_replayed _ (rw c.in_err-replay.was);
      steps_total_best = steps_total_refused_best _ _ p.result p.ensures.is_replayed _ (rw c.in_err-replay.was);
    })

pub returns : goal.returns
returns c = let p = c.replay_steps-replay in record {
  steps_total_says = steps_total _ _ p.result p.ensures.is_replayed (rw c.in_ok-replay.was) _ c.least_total.ensures.session_total_says;
  steps_total_best = steps_total_best _ _ p.result p.ensures.is_replayed (rw c.in_ok-replay.was) _ c.least_total.ensures.best_total;
}
