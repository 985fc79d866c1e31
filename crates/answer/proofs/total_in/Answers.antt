-- total_in meets its contract: the arrays stand for the stack, and the scan finds its least total. Assumes nothing.
use mathlib.Core.Path.{refl}
use Rattle.answer.proofs.Standing.{whole_least, whole_small}
use Rattle.answer.proofs.total_in.Goals as goal

pub overflow_cast-result : goal.overflow_cast-result
overflow_cast-result c = record { fits = whole_small _ _ _ c.scan_in-scan.ensures.ready _ _ c.scan_in-scan.result c.scan_in-scan.ensures.scanned refl }

pub returns : goal.returns
returns c = whole_least _ _ _ c.scan_in-scan.ensures.ready _ _ c.scan_in-scan.result c.scan_in-scan.ensures.scanned refl
