-- scan_total meets its contract: the loop keeps Scanning, EmptiesAre and OnlyAt. Assumes nothing.
use Rattle.scan.specs.Scan.{Scanning, EmptiesAre, OnlyAt}
use Rattle.scan.proofs.scan_total.Given as goal

abbrev pub invariant-loop-i : goal.invariant-loop-i
invariant-loop-i l =
    Scanning l.given l.v l.i l.table l.jump
    × EmptiesAre l.given.channels l.v l.i l.table l.empties
    × OnlyAt l.v l.i l.initial.table l.table
