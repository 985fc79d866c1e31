use Rattle.std.proofs.Common.{arith}
use Rattle.scan.proofs.Scans.{total_strip_asks, bound_room, total_strip, total_skip, total_none}
use Rattle.scan.proofs.scan_total.Goals as goal

pub overflow_add-bound : goal.overflow_add-bound
overflow_add-bound c = omega (arith, bound_room _ _ _ _ _ c.requires c.loop-i.i _ _ _ (omega arith) (omega arith) c.loop-i.invariant.0 c.loop-i.invariant.1 c.loop-i.invariant.2)

pub returns-then-v-bound : goal.returns-then-v-bound
returns-then-v-bound c =
    let p = total_none _ _ _ _ _ c.requires c.loop-i.i _ _ _ (omega arith) (omega arith) c.loop-i.invariant.0 c.loop-i.invariant.1 c.loop-i.invariant.2 c.if-v-bound.true in
    record { scanned = p.0; empties = p.1; others = p.2 }

pub scan_strip-short-requires : goal.scan_strip-short-requires
scan_strip-short-requires c =
    rw c.of-cell.ensures (total_strip_asks _ _ _ _ _ c.requires c.loop-i.i _ _ _ (omega arith) (omega arith) c.loop-i.invariant.0 c.loop-i.invariant.1 c.loop-i.invariant.2 c.if-v-given.true)

pub loop-i-preserved-then-v-given : goal.loop-i-preserved-then-v-given
loop-i-preserved-then-v-given c =
    total_strip _ _ _ _ _ c.requires c.loop-i.i _ _ _ (omega arith) (omega arith) c.loop-i.invariant.0 c.loop-i.invariant.1 c.loop-i.invariant.2 c.if-v-given.true c.if-v-bound.false _ c.scan_strip-short.result c.shorter-jump.result c.count_empty.result (rw c.of-cell.ensures at c.scan_strip-short.ensures) c.count_empty.ensures c.shorter-jump.ensures

pub loop-i-preserved : goal.loop-i-preserved
loop-i-preserved c = total_skip _ _ _ _ _ c.requires c.loop-i.i _ _ _ (omega arith) (omega arith) c.loop-i.invariant.0 c.loop-i.invariant.1 c.loop-i.invariant.2 c.if-v-given.false
