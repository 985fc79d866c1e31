-- narrowed meets its contract: the first j places are filled. Assumes nothing.
use mathlib.Core.Path.{◌≡◌}
use lib.ListN.{get_or}
use Rattle.numbers.specs.Lists.{filled}
use Rattle.stack.specs.Value.{columns}
use Rattle.channel.specs.Seeking.{places_held}
use Rattle.channel.proofs.narrowed.Given as goal

abbrev pub invariant-loop-j : goal.invariant-loop-j
invariant-loop-j l = l.narrow ≡ filled places_held l.j (λ i. (get_or l.edge i (columns 0)).0) l.rest
