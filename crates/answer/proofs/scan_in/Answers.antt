-- scan_in meets its contract: what is given stands for the stack, and so it is what the scan asks. Assumes nothing.
use native.Mathlib.Omega.{arith}
use Rattle.answer.proofs.Standing.{held_scan_asks}
use Rattle.answer.proofs.scan_in.Goals as goal

pub scan_totals-requires : goal.scan_totals-requires
scan_totals-requires c = held_scan_asks _ _ _ c.fill_given.ensures _ _ (omega arith) c.requires.sized
