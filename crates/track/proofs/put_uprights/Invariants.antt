-- One store for each of eight paths. Assumes nothing.
use mathlib.Core.Path.{◌≡◌}
use lib.ListN.{get_or}
use Rattle.numbers.specs.Lists.{tabulate}
use Rattle.track.specs.Rows.{marked}
use Rattle.track.proofs.put_uprights.Given as goal

abbrev pub invariant-loop-column : goal.invariant-loop-column
invariant-loop-column l = l.row ≡ tabulate 64 0 (λ c. marked (λ j. get_or l.columns j 0) l.character l.column-index c (get_or l.initial.row c 0))
