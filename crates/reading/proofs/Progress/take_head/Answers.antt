-- take_head meets its contract. Assumes nothing.
use mathlib.Core.Path.{refl}
use Rattle.std.proofs.lemmas.Result.{err_from_is_err_and}
use Rattle.reading.proofs.Places.{head_short, head_refused, head_taken}
use Rattle.reading.proofs.Progress.take_head.Goals as goal

pub read_head-requires : goal.read_head-requires
read_head-requires c = head_short c.args.text.now c.requires c.line_from-line.result c.line_from-line.ensures

pub returns-in_err-stack : goal.returns-in_err-stack
returns-in_err-stack c =
    let p = err_from_is_err_and c.from_residual.result c.from_residual.ensures.1 in
    rw (p.1, p.2) (head_refused c.args.text.now c.requires c.line_from-line.result c.line_from-line.ensures _ c.in_err-stack.ensures)

pub returns : goal.returns
returns c = head_taken c.args.text.now c.requires c.line_from-line.result c.line_from-line.ensures c.args.text refl _ c.in_ok-stack.ensures
