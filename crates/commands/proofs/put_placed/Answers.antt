-- put_placed meets its contract: the placement's row, or the refusal. Assumes nothing.
use Rattle.commands.proofs.Printing.{placed_read, row_asked, placement_put}
use Rattle.commands.proofs.put_placed.Goals as goal

pub returns-in_err-stack : goal.returns-in_err-stack
returns-in_err-stack c = absurd (placed_read _ _ _ _ c.in_ok-placement.ensures.placement_says _ c.in_err-stack.ensures)

pub put_row-requires : goal.put_row-requires
put_row-requires c = row_asked _ _ _ _ c.in_ok-placement.ensures.placement_says c.in_ok-stack.stack c.in_ok-stack.ensures

pub returns : goal.returns
returns c = placement_put _ _ _ _ c.in_ok-placement.ensures.placement_says c.in_ok-stack.stack c.in_ok-stack.ensures _ _ _ c.put_row.ensures
