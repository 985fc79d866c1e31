use Rattle.std.proofs.lemmas.Result.{err_from_is_err_and}
use native.Mathlib.Omega.{arith}
use Rattle.reading.proofs.Whole.{parts_start, parts_step, parts_refuse, parts_end}
use Rattle.reading.proofs.Progress.take_parts.Goals as goal

pub loop-i-init : goal.loop-i-init
loop-i-init c = parts_start c.args.self.now.text.now c.args.self.now c.requires

pub returns-in_err-take_part : goal.returns-in_err-take_part
returns-in_err-take_part c =
    let p = err_from_is_err_and c.from_residual.result c.from_residual.ensures.1 in
    let m = c.loop-i.invariant in
    rw (p.1, p.2) (parts_refuse c.args.self.now.text.now c.loop-i.i c.loop-i.self m _ (omega (arith, c.requires.count)) _ (rw m.going.text at c.in_err-take_part.ensures))

pub loop-i-preserved : goal.loop-i-preserved
loop-i-preserved c =
    let m = c.loop-i.invariant in
    parts_step c.args.self.now.text.now c.loop-i.i c.loop-i.self m _ (omega (arith, c.requires.count)) _ (rw m.going.text at c.in_ok-take_part.ensures)

pub returns : goal.returns
returns c = parts_end c.args.self.now.text.now c.loop-i.i c.loop-i.self c.loop-i.invariant (omega (arith, c.requires.count))
