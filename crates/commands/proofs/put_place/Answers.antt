-- put_place meets its contract: the placement's row, or the refusal's line. Assumes nothing.
use borrow.Author.Rules.{rules}
use Rattle.commands.proofs.Printing.{placement_printed}
use Rattle.commands.proofs.put_place.Goals as goal

pub returns : goal.returns
returns c = placement_printed _ _ _ c.args.output.now _ _ c.put_placed-put.result _ (search rules) c.put_placed-put.ensures c.of.ensures
