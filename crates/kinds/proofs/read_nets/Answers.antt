-- read_nets meets its contract. Assumes nothing.
use Rattle.std.proofs.lemmas.Result.{err_from_is_err_and}
use Rattle.lines.specs.Lines.{line_of}
use Rattle.text.specs.Text.{nets_word}
use Rattle.kinds.proofs.Nets.{nets_ill, line_kept, nets_found}
use Rattle.kinds.proofs.read_nets.Goals as goal

pub returns-in_err-count : goal.returns-in_err-count
unfolding nets_word
returns-in_err-count c =
    let p = err_from_is_err_and c.from_residual.result c.from_residual.ensures.1 in
    rw (p.1, p.2) (nets_ill c.args.lower.0 c.args.upper.0 c.args.n (line_of c.args.line) _ _ (rw (← c.in_err-count.ensures) at c.read_kind.ensures.read))

pub returns : goal.returns
unfolding nets_word
returns c = let lo = c.args.lower.0 in
    let hi = c.args.upper.0 in
    let there = line_of c.args.line in
    nets_found lo hi c.args.n there _ c.in_ok-count.count (rw (← c.in_ok-count.ensures) at c.read_kind.ensures.read) c.nets_content.result
    (c.nets_content.ensures _ (line_kept lo hi c.args.n there _ c.in_ok-count.count (rw (← c.in_ok-count.ensures) at c.read_kind.ensures.read)))
