-- A line's bytes from the left. Assumes nothing.
use Rattle.plot.proofs.Lines.{line_put}
use Rattle.plot.proofs.put_track.Goals as goal

pub returns : goal.returns
returns c = line_put _ _ c.args.out.now _ _ _ _ c.requires.3 c.requires.4 c.place.ensures c.place-2.ensures c.place-3.ensures c.put_row.ensures
