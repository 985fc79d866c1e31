-- read_part meets its contract. Assumes nothing.
use mathlib.Core.Path.{◌∙◌}
use Rattle.std.proofs.lemmas.Result.{err_from_is_err_and}
use Rattle.lines.specs.Lines.{line_of}
use Rattle.text.specs.Text.{part_word}
use Rattle.kinds.proofs.Parts.{part_ill, part_free, part_held}
use Rattle.kinds.proofs.read_part.Goals as goal

pub returns-in_err-count : goal.returns-in_err-count
unfolding part_word
returns-in_err-count c =
    let p = err_from_is_err_and c.from_residual.result c.from_residual.ensures.1 in
    rw (p.1, p.2) (part_ill c.args.n (line_of c.args.line) _ _ (rw (← c.in_err-count.ensures) at c.read_kind.ensures.read))

pub returns-then-count-eq1 : goal.returns-then-count-eq1
unfolding part_word
returns-then-count-eq1 c = part_free c.args.n (line_of c.args.line) _ c.in_ok-count.count (rw (← c.in_ok-count.ensures) at c.read_kind.ensures.read) c.part_content.result c.if-count-eq1.true c.part_content.ensures

pub returns : goal.returns
unfolding part_word
returns c = part_held c.args.n (line_of c.args.line) _ c.in_ok-count.count (rw (← c.in_ok-count.ensures) at c.read_kind.ensures.read) c.part_made.result c.if-count-eq1.false (c.part_made.ensures ∙ rw (c.held.ensures))
