-- put_trial meets its contract: none for numbers that do not fit, the refusal's line, or the verdict. Assumes nothing.
use mathlib.Core.Path.{sym, ◌∙◌}
use borrow.Author.Rules.{rules}
use Rattle.commands.proofs.Printing.{trial_printed}
use Rattle.commands.proofs.put_trial.Goals as goal

pub returns : goal.returns
returns c = trial_printed _ _ _ c.args.output.now _ _ c.put_tried.result c.in_ok-put.put _ (search rules) c.put_tried.ensures (sym c.transpose.ensures ∙ c.in_ok-put.was) c.of.ensures
