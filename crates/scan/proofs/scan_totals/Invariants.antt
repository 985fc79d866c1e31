-- scan_totals meets its contract: the loop keeps Scanning, EmptiesAre, Cleared and the search for the first total. Assumes nothing.
use Rattle.std.proofs.Common.{suc}
use Rattle.spans.specs.Spans.{nonempty}
use Rattle.spans.specs.Solver.{back, first_total}
use Rattle.arrays.specs.Arrays.{bias, window_of, levels}
use Rattle.arrays.specs.Search.{Searching}
use Rattle.scan.specs.Scan.{Scanning, EmptiesAre, Cleared}
use Rattle.scan.proofs.scan_totals.Given as goal

abbrev pub invariant-loop-v : goal.invariant-loop-v
invariant-loop-v l =
    let k = l.given.channels in
    let bottom = back bias (window_of l.given 0) (levels l.given 0 k) in
    Scanning l.given l.v k l.table l.jump
    × Searching (λ u. nonempty (bottom u)) (suc l.cap) l.v (first_total bottom l.cap)
    × EmptiesAre k l.v k l.table l.empties
    × Cleared l.given.windows k l.v l.cap l.table
