-- put_numbers meets its contract: the first i numbers are put. Assumes nothing.
use Rattle.std.proofs.Common.{◌≡◌, ℕ, ◌<◌, get_or}
use Rattle.nabetsu.specs.Entry.{numbers_placed}
use Rattle.nabetsu.proofs.put_numbers.Given as goal

abbrev pub invariant-loop-i : goal.invariant-loop-i
invariant-loop-i l = (k : ℕ) → k < l.i → get_or l.output k 0 ≡ get_or (numbers_placed l.placement) k 0
