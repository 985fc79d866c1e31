-- One character, or a run. Assumes nothing.
use Rattle.track.proofs.Rows.{point_drawn}
use Rattle.track.proofs.put_path.Goals as goal

pub returns-then-s-e : goal.returns-then-s-e
returns-then-s-e c = point_drawn _ _ _ _ c.args.row.now _ c.requires.0 c.if-s-e.true c.requires.3
