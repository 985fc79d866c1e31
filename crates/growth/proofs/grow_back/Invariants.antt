-- grow_back meets its contract: what is still to be looked at gives the same growing end. Assumes nothing.
use mathlib.Core.Path.{◌≡◌}
use Prim.Native.Nat.{◌-◌}
use Rattle.spans.specs.Growth.{furthest_grow}
use Rattle.arrays.specs.Arrays.{bias, entry, low_in, span_at}
use Rattle.growth.proofs.grow_back.Given as goal

abbrev pub invariant-loop-q : goal.invariant-loop-q
invariant-loop-q l =
    furthest_grow bias (low_in l.limits) (λ i. span_at l.spans (l.v - i)) (λ i. entry l.grows (l.v - i)) l.q (l.stop - l.q) l.grow
    ≡ furthest_grow bias (low_in l.limits) (λ i. span_at l.spans (l.v - i)) (λ i. entry l.grows (l.v - i)) l.start (l.stop - l.start) 0
