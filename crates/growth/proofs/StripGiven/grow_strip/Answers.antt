use Rattle.std.proofs.Common.{ℕ, ◌-◌, arith}
use Rattle.growth.proofs.Strips.{strip_full, kept_full, strip_empty}
use Rattle.growth.proofs.StripGiven.grow_strip.Goals as goal

pub loop-v-preserved-then-spans-v : goal.loop-v-preserved-then-spans-v
loop-v-preserved-then-spans-v c = let b = c.loop-v in
    let v : ℕ = b.v - 1 in
    let x = c.cell_grow in
    let full = c.if-spans-v.true in (
      strip_full _ c.args.first c.args.end c.args.self.now.own c.args.self.now.table.now _ _ c.requires b.v v (omega arith) (omega arith) (omega arith) b.grows b.empty b.jump b.invariant.0 b.invariant.1 x.result full (rw c.at-cell.ensures at x.ensures),
      kept_full _ c.args.first c.args.end c.args.self.now.own c.args.self.now.table.now _ _ c.requires b.v v (omega arith) (omega arith) (omega arith) b.grows b.empty b.jump b.invariant.0 b.invariant.1 x.result full (rw c.at-cell.ensures at x.ensures),
    )

pub loop-v-preserved : goal.loop-v-preserved
loop-v-preserved c = let b = c.loop-v in
    let v : ℕ = b.v - 1 in
    let x = c.cell_lack in (
      strip_empty _ c.args.first c.args.end c.args.self.now.own c.args.self.now.table.now _ _ c.requires b.v v (omega arith) (omega arith) (omega arith) b.grows b.empty b.jump b.invariant.0 b.invariant.1 x.result c.min-jump.result c.if-spans-v.false (rw c.at-cell.ensures at x.ensures) c.min-jump.ensures,
      λ u i. b.invariant.1 u (omega arith),
    )
