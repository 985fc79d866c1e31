-- read_head meets its contract. Assumes nothing.
use mathlib.Core.Path.{◌∙◌}
use Rattle.std.proofs.lemmas.Result.{err_from_is_err_and}
use Rattle.lines.specs.Lines.{line_of}
use Rattle.text.specs.Text.{stack_word}
use Rattle.kinds.proofs.Heads.{head_ill, head_there}
use Rattle.kinds.proofs.read_head.Goals as goal

pub returns-in_err-accepted : goal.returns-in_err-accepted
unfolding stack_word
returns-in_err-accepted c =
    let p = err_from_is_err_and c.from_residual.result c.from_residual.ensures.1 in
    rw (p.1, p.2) (head_ill (line_of c.args.line) _ _ (rw (← c.in_err-accepted.ensures) at c.read_kind.ensures.read))

pub returns : goal.returns
unfolding stack_word
returns c = head_there (line_of c.args.line) _ _ (rw (← c.in_ok-accepted.ensures) at c.read_kind.ensures.read) c.new.result c.ok_or.result c.new.ensures (c.ok_or.ensures.value ∙ rw (c.new-2.ensures))
