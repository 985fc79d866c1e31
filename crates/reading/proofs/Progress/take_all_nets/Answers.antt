use Rattle.std.proofs.lemmas.Result.{err_from_is_err_and}
use native.Mathlib.Omega.{arith}
use Rattle.reading.proofs.Whole.{nets_step, nets_refuse, nets_end}
use Rattle.reading.proofs.Progress.take_all_nets.Goals as goal

pub returns-in_err-take_nets : goal.returns-in_err-take_nets
returns-in_err-take_nets c =
    let p = err_from_is_err_and c.from_residual.result c.from_residual.ensures.1 in
    let m = c.loop-c.invariant in
    rw (p.1, p.2) (nets_refuse c.args.self.now.text.now c.loop-c.c c.loop-c.self m _ (omega (arith, c.requires.count)) _ (rw m.going.text at c.in_err-take_nets.ensures))

pub loop-c-preserved : goal.loop-c-preserved
loop-c-preserved c =
    let m = c.loop-c.invariant in
    nets_step c.args.self.now.text.now c.loop-c.c c.loop-c.self m _ (omega (arith, c.requires.count)) _ (rw m.going.text at c.in_ok-take_nets.ensures)

pub returns : goal.returns
returns c = nets_end c.args.self.now.text.now c.loop-c.c c.loop-c.self c.loop-c.invariant (omega (arith, c.requires.count))
