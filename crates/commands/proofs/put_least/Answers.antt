-- put_least meets its contract: the row of both together, or the refusal. Assumes nothing.
use Rattle.text.proofs.Refusals.{exit_is}
use Rattle.commands.proofs.Printing.{spread_unput, spread_put}
use Rattle.commands.proofs.put_least.Goals as goal

pub returns-in_err-total : goal.returns-in_err-total
returns-in_err-total c = rw (exit_is c.from_residual.result _ c.from_residual.ensures.1) (spread_unput _ _ _ _ _ c.in_err-total.ensures.total_says)

pub returns : goal.returns
returns c = spread_put _ _ _ c.in_ok-total.ensures.total_says _ _ _ c.put_placed.ensures
