-- Path by path. Assumes nothing.
use mathlib.Core.Path.{◌≡◌}
use lib.ListN.{length, get_or}
use Rattle.numbers.specs.Lists.{tabulate}
use Rattle.page.specs.Arrivals.{painted}
use Rattle.track.proofs.put_paths.Given as goal

abbrev pub invariant-loop-start : goal.invariant-loop-start
invariant-loop-start l = l.row ≡ tabulate 64 0 (λ c. painted (λ i. get_or l.starts i 0) (λ i. get_or l.ends i 0) l.arms.up l.arms.down (length l.yielded) c (get_or l.initial.row c 0))
