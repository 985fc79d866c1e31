-- put_placed meets its contract. Assumes nothing.
use Rattle.table.proofs.Placed.{placed_row_asks, placed_row}
use Rattle.table.proofs.put_placed.Goals as goal

pub put_row_at-requires : goal.put_row_at-requires
put_row_at-requires c = (c.requires.0, placed_row_asks c.args.stack.now c.args.spread c.args.placement.now c.requires.1 c.requires.2 c.requires.3)

pub returns : goal.returns
returns c = rw (placed_row c.args.stack.now c.args.spread c.args.placement.now c.requires.1 c.requires.2 c.requires.3) at c.put_row_at.ensures
