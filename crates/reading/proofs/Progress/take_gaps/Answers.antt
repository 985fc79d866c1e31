use Rattle.std.proofs.lemmas.Result.{err_from_is_err_and}
use Rattle.std.specs.Prelude.{unwrap_or}
use Rattle.reading.proofs.Whole.{gaps_start, gaps_step, gaps_refuse, gaps_end}
use Rattle.reading.proofs.Progress.take_gaps.Goals as goal

pub loop-self-init : goal.loop-self-init
loop-self-init c = gaps_start c.args.self.now.text.now c.args.self.now c.requires

pub returns-in_err-take_gap : goal.returns-in_err-take_gap
returns-in_err-take_gap c =
    let p = err_from_is_err_and c.from_residual.result c.from_residual.ensures.1 in
    let m = c.loop-self.invariant in
    rw (p.1, p.2) (gaps_refuse c.args.self.now.text.now c.loop-self.g (unwrap_or c.loop-self.before 0) c.loop-self.self m _ (rw m.read.going.text at c.loop-self-test.true) _ (rw m.read.going.text at c.in_err-take_gap.ensures))

pub loop-self-preserved : goal.loop-self-preserved
loop-self-preserved c =
    let m = c.loop-self.invariant in
    gaps_step c.args.self.now.text.now c.loop-self.g (unwrap_or c.loop-self.before 0) c.loop-self.self m _ (rw m.read.going.text at c.loop-self-test.true) c.in_ok-take_gap.field-0 (rw m.read.going.text at c.in_ok-take_gap.ensures)

pub returns : goal.returns
returns c =
    let m = c.loop-self.invariant in
    gaps_end c.args.self.now.text.now c.loop-self.g (unwrap_or c.loop-self.before 0) c.loop-self.self m (rw m.read.going.text at c.loop-self-test.false)
