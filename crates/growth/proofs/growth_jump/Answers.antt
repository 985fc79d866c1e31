use Rattle.std.proofs.Common.{◌≡◌, ℕ, suc, ◌-◌, arith}
use Rattle.arrays.proofs.Options.{end_there}
use Rattle.growth.proofs.Stacks.{growing_start, bound_room, strip_asks, growing_strip}
use Rattle.growth.proofs.growth_jump.Goals as goal

pub loop-i-init : goal.loop-i-init
loop-i-init c = rw (c.unwrap_or.ensures, ← end_there c.args.growths.now c.args.given.now.channels) (growing_start _ _ _ _ c.requires)

pub overflow_add-given : goal.overflow_add-given
overflow_add-given c = let b = c.loop-i in
    let j : ℕ = b.i - 1 in
    let z : b.i ≡ suc j = omega arith in
    omega (arith, bound_room _ _ c.args.total _ c.requires j (c.args.given.now.channels - b.i) b.grows b.empty b.jump (omega arith) (rw z at b.invariant))

pub grow_strip-grown-requires : goal.grow_strip-grown-requires
grow_strip-grown-requires c = let b = c.loop-i in
    let j : ℕ = b.i - 1 in
    let z : b.i ≡ suc j = omega arith in
    rw (c.min-end.ensures, c.of-first.ensures, c.unwrap_or-own.ensures, ← end_there c.args.growths.now j) (strip_asks _ _ c.args.total _ c.requires j (c.args.given.now.channels - b.i) b.grows b.empty b.jump (omega arith) (rw z at b.invariant))

pub loop-i-preserved : goal.loop-i-preserved
loop-i-preserved c = let b = c.loop-i in
    let j : ℕ = b.i - 1 in
    let z : b.i ≡ suc j = omega arith in
    growing_strip _ _ c.args.total _ c.requires j (c.args.given.now.channels - b.i) b.grows b.empty b.jump (omega arith) (rw z at b.invariant) _ _ _ (rw (c.min-end.ensures, c.of-first.ensures, c.unwrap_or-own.ensures, ← end_there c.args.growths.now j) at c.grow_strip-grown.ensures)
