-- put_spread meets its contract: the row of both together, or the refusal's line. Assumes nothing.
use borrow.Author.Rules.{rules}
use Rattle.commands.proofs.Printing.{spread_printed}
use Rattle.commands.proofs.put_spread.Goals as goal

pub returns : goal.returns
returns c = spread_printed _ _ c.args.output.now _ _ c.put_least-put.result _ (search rules) c.put_least-put.ensures c.of.ensures
