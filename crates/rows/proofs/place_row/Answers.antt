-- place_row meets its contract. Assumes nothing.
use Rattle.rows.proofs.Evaluating.{ready_row, row_place_asks, row_answers}
use Rattle.rows.proofs.place_row.Goals as goal

pub place_in-requires : goal.place_in-requires
place_in-requires c = row_place_asks _ _ _ (ready_row _ _ _ _ _ c.ranges.spread.fits c.requires) c.requires.cap _ _ c.requires.evaluated.scanned c.requires.capped c.requires.found

pub returns : goal.returns
returns c = row_answers _ _ _ (ready_row _ _ _ _ _ c.ranges.spread.fits c.requires) c.requires.cap _ _ c.requires.evaluated.scanned c.requires.capped c.requires.found c.place_in.result c.place_in.ensures
