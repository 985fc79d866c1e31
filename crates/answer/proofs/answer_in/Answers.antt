-- answer_in meets its contract: the scan finds the least total, and what the solver places in its table is the answer. Assumes nothing.
use mathlib.Core.Path.{refl}
use Rattle.answer.proofs.Standing.{whole_place_asks, whole_placed}
use Rattle.answer.proofs.answer_in.Goals as goal

pub place_in-requires : goal.place_in-requires
place_in-requires c = whole_place_asks _ _ _ c.scan_in-scan.ensures.ready _ _ c.scan_in-scan.result c.scan_in-scan.ensures.scanned refl

pub returns : goal.returns
returns c = whole_placed _ _ _ c.scan_in-scan.ensures.ready _ _ c.scan_in-scan.result c.scan_in-scan.ensures.scanned refl c.place_in.result c.place_in.ensures
