-- session_place meets its contract: a refused text or step, or what the session answers. Assumes nothing.
use Rattle.text.proofs.Refusals.{exit_is}
use Rattle.nabetsu.proofs.Sessions.{steps_placement_refused, steps_placement_refused_best, steps_placement, steps_placement_best}
use Rattle.nabetsu.proofs.session_place.Goals as goal

pub returns-in_err-replay : goal.returns-in_err-replay
returns-in_err-replay c = let p = c.replay_steps-replay in
    rw (exit_is c.from_residual.result _ c.from_residual.ensures.1) (record {
      steps_placement_says = steps_placement_refused _ _ p.result p.ensures.is_replayed _ (rw c.in_err-replay.was) _;
      steps_placement_best = steps_placement_refused_best _ _ p.result p.ensures.is_replayed _ (rw c.in_err-replay.was) _;
    })

pub returns : goal.returns
returns c = let p = c.replay_steps-replay in record {
  steps_placement_says = steps_placement _ _ p.result p.ensures.is_replayed (rw c.in_ok-replay.was) _ _ c.place_total.ensures.session_placement_says;
  steps_placement_best = steps_placement_best _ _ p.result p.ensures.is_replayed (rw c.in_ok-replay.was) _ _ c.place_total.ensures.best_placement;
}
