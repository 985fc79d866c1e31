-- single_total meets its contract. Assumes nothing.
use mathlib.Core.Path.{refl}
use Rattle.text.proofs.Refusals.{exit_is}
use Rattle.spread.proofs.Totals.{total_refused}
use Rattle.spread.proofs.Single.{single_totalled}
use Rattle.spread.proofs.single_total.Goals as goal

pub returns-in_err-single_outcome : goal.returns-in_err-single_outcome
returns-in_err-single_outcome c = rw (exit_is c.from_residual.result _ c.from_residual.ensures.1) (total_refused _ _ _ _ c.in_err-single_outcome.ensures)

pub returns : goal.returns
returns c = single_totalled _ _ c.in_ok-single_outcome.ensures _ refl
