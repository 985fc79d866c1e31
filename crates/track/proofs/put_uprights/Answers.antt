use lib.ListN.{get_or}
use Rattle.track.proofs.Rows.{marks_start, marks_step}
use Rattle.track.proofs.put_uprights.Goals as goal

pub loop-column-init : goal.loop-column-init
loop-column-init c = marks_start (λ j. get_or c.args.columns.now j 0) c.args.character c.args.row.now c.requires.0

pub loop-column-preserved : goal.loop-column-preserved
loop-column-preserved c = marks_step (λ j. get_or c.args.columns.now j 0) c.args.character c.loop-column.column-index c.args.row.now c.loop-column.row c.loop-column.invariant
