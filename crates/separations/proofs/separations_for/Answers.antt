use Rattle.std.proofs.Common.{◌≡◌, ◌-◌, arith}
use Rattle.numbers.proofs.Lists.{map_set}
use Rattle.separations.proofs.Separating.{separation_small, separating_step, separating_end}
use Rattle.separations.proofs.separations_for.Goals as goal

pub overflow_cast-ts : goal.overflow_cast-ts
overflow_cast-ts c = omega (arith, separation_small _ _ _ _ _ _ _ c.requires c.loop-i.invariant (omega arith) _ c.serving-q.ensures)

pub loop-i-preserved : goal.loop-i-preserved
loop-i-preserved c = rw map_set
    (separating_step _ _ _ _ _ _ _ c.requires c.loop-i.invariant (omega arith) _ _ _ c.serving-q.ensures (rw c.min.ensures at c.forward-s.ensures) c.saturating_sub-v.ensures)

pub returns : goal.returns
returns c =
    let e : c.args.given.now.channels - 1 ≡ c.loop-i.i = omega arith in
    rw (map_set, e) (separating_end _ _ _ _ _ _ c.loop-i.invariant (omega arith))
