-- put_digits meets its contract: the total's digits, or the refusal. Assumes nothing.
use mathlib.Core.Path.{refl}
use Rattle.text.proofs.Refusals.{exit_is}
use Rattle.commands.proofs.Printing.{total_put}
use Rattle.commands.proofs.put_digits.Goals as goal

pub returns-in_err-total : goal.returns-in_err-total
returns-in_err-total c = rw (exit_is c.from_residual.result _ c.from_residual.ensures.1) (total_put _ _ _ c.in_err-total.ensures.total_says _ _ _ refl tt)

pub returns : goal.returns
returns c = total_put _ _ _ c.in_ok-total.ensures.total_says _ _ _ refl c.put_total.ensures
