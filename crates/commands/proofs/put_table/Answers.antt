-- put_table meets its contract: the table written, or the refusal's line over it. Assumes nothing.
use Prim.Native.Nat.{◌≤◌}
use lib.ListN.{length}
use borrow.Author.Rules.{rules}
use Rattle.nabetsu.specs.Space.{SpaceEnough}
use Rattle.commands.proofs.Printing.{concluded_written, table_within, table_printed}
use Rattle.commands.proofs.put_table.Goals as goal

pub returns : goal.returns
unfolding SpaceEnough
returns c = let put = c.write_table-put in
    let space : 24388 ≤ length c.args.output.now = search rules in
    table_printed c.args.text.now put.result _ _ (λ z. put.ensures.space_enough z space) _ _ put.ensures.table_says
    (concluded_written put.result _ _ _ (table_within c.args.text.now put.result _ _ put.ensures.table_says) c.of.ensures)
