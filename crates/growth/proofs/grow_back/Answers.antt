use Rattle.std.proofs.Common.{◌-◌, arith}
use Rattle.arrays.specs.Arrays.{bias, entry, low_in, span_at}
use Rattle.growth.proofs.Cells.{grow_taken, grow_left, grow_ends}
use Rattle.growth.proofs.grow_back.Goals as goal
use Rattle.growth.proofs.grow_back.Goals.{then-spans-u, else-spans-u}

pub loop-q-preserved : goal.loop-q-preserved
loop-q-preserved c = let a = c.args in
    let b = c.loop-q in
    elim c.if-spans-u.branch [
      | then-spans-u w ↦
          rw w.grow-is
          (grow_taken bias (low_in a.limits.now) (λ i. span_at a.spans.now (a.v - i)) (λ i. entry a.grows.now (a.v - i)) a.stop b.q b.grow _ b.invariant _ c.loop-q-test.true w.if-spans-u.true (omega arith))
      | else-spans-u w ↦
          rw w.grow-is
          (grow_left bias (low_in a.limits.now) (λ i. span_at a.spans.now (a.v - i)) (λ i. entry a.grows.now (a.v - i)) a.stop b.q b.grow _ b.invariant c.loop-q-test.true w.if-spans-u.false)
    ]

pub returns : goal.returns
returns c = let a = c.args in
    let b = c.loop-q in
    grow_ends bias (low_in a.limits.now) (λ i. span_at a.spans.now (a.v - i)) (λ i. entry a.grows.now (a.v - i)) a.stop b.q b.grow _ b.invariant (omega arith)
