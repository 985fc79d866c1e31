use Rattle.std.proofs.Common.{arith}
use Rattle.numbers.proofs.Lists.{map_set}
use Rattle.positions.proofs.Fixing.{track_at}
use Rattle.positions.proofs.Positioning.{positioning_start, position_small, next_asks, positioning_step, positioning_end}
use Rattle.positions.proofs.positions_for.Goals as goal

pub overflow_cast-xs : goal.overflow_cast-xs
overflow_cast-xs c = omega (arith, position_small _ _ c.requires _ c.starts_for-starts.ensures _ _ _ (positioning_start _ _ c.requires _ c.starts_for-starts.ensures))

pub loop-i-init : goal.loop-i-init
loop-i-init c = positioning_start _ _ c.requires _ c.starts_for-starts.ensures

pub next-x-requires : goal.next-x-requires
next-x-requires c = next_asks _ _ c.requires _ c.starts_for-starts.ensures _ _ _ c.loop-i.invariant (omega arith)

pub overflow_cast-xs-in-loop-i : goal.overflow_cast-xs-in-loop-i
overflow_cast-xs-in-loop-i c = omega (
  arith,
  position_small _ _ c.requires _ c.starts_for-starts.ensures _ _ _
      (positioning_step _ _ c.requires _ c.starts_for-starts.ensures _ _ _ c.loop-i.invariant (omega arith) _ _ (track_at c.args.ts.now c.loop-i.i) c.next-x.ensures),
)

pub loop-i-preserved : goal.loop-i-preserved
loop-i-preserved c = rw map_set
    (positioning_step _ _ c.requires _ c.starts_for-starts.ensures _ _ _ c.loop-i.invariant (omega arith) _ _ (track_at c.args.ts.now c.loop-i.i) c.next-x.ensures)

pub returns : goal.returns
returns c = positioning_end _ _ c.requires _ c.starts_for-starts.ensures _ _ _ c.loop-i.invariant (omega arith)
