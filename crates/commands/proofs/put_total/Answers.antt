-- put_total meets its contract: the total's digits, or the refusal's line. Assumes nothing.
use borrow.Author.Rules.{rules}
use Rattle.commands.proofs.Printing.{total_printed}
use Rattle.commands.proofs.put_total.Goals as goal

pub returns : goal.returns
returns c = total_printed _ _ c.args.output.now _ _ c.put_digits-put.result _ (search rules) c.put_digits-put.ensures c.of.ensures
