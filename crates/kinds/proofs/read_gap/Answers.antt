-- read_gap meets its contract. Assumes nothing.
use Rattle.std.proofs.lemmas.Result.{err_from_is_err_and}
use Rattle.std.specs.Prelude.{unwrap_or}
use Rattle.lines.specs.Lines.{line_of}
use Rattle.text.specs.Text.{gap_word}
use Rattle.kinds.proofs.Gaps.{gap_ill, gap_there}
use Rattle.kinds.proofs.read_gap.Goals as goal

pub returns-in_err-accepted : goal.returns-in_err-accepted
unfolding gap_word
returns-in_err-accepted c =
    let p = err_from_is_err_and c.from_residual.result c.from_residual.ensures.1 in
    rw (p.1, p.2) (gap_ill c.args.k (unwrap_or c.args.before 0) c.args.n (line_of c.args.line) _ _ (rw (← c.in_err-accepted.ensures) at c.read_kind.ensures.read))

pub returns : goal.returns
unfolding gap_word
returns c = gap_there c.args.k (unwrap_or c.args.before 0) c.args.n (line_of c.args.line) _ _ (rw (← c.in_ok-accepted.ensures) at c.read_kind.ensures.read) c.gap_content.result c.gap_content.ensures.outcome c.gap_content.ensures.content
