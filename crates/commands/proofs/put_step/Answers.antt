-- put_step meets its contract: the row, or the refusal's line. Assumes nothing.
use borrow.Author.Rules.{rules}
use Rattle.commands.proofs.Steps.{step_printed}
use Rattle.commands.proofs.put_step.Goals as goal

pub returns : goal.returns
returns c = step_printed _ _ _ c.args.output.now _ _ c.put_stepped-put.result _ (search rules) c.put_stepped-put.ensures c.of.ensures
