use Rattle.std.proofs.Common.{◌-◌, refl, replicate, arith}
use Rattle.stack.specs.Sizes.{strips_held}
use Rattle.positions.proofs.Fixing.{track_at, fixing_start, fixing_step}
use Rattle.positions.proofs.starts_for.Goals as goal

pub loop-i-init : goal.loop-i-init
loop-i-init c = fixing_start _ _ c.requires (replicate strips_held 0) refl

pub loop-i-preserved : goal.loop-i-preserved
loop-i-preserved c = fixing_step _ _ c.requires _ _ _ _ _ _ c.loop-i.invariant (omega arith) (track_at c.args.ts.now (c.loop-i.i - 1)) (rw c.min-q.ensures at c.backward-s.ensures)
