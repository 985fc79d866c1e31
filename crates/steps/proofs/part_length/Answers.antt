-- part_length meets its contract. Assumes nothing.
use Rattle.lines.specs.Lines.{line_of}
use Rattle.text.specs.Text.{part_word}
use Rattle.steps.proofs.Answers.{part_ill, part_told}
use Rattle.steps.proofs.part_length.Goals as goal

pub returns-in_err-ok : goal.returns-in_err-ok
unfolding part_word
returns-in_err-ok c = rw (c.from_residual.ensures) (part_ill (line_of c.args.line) _ c.accepted.result (rw (← c.accepted.ensures) at c.read_kind.ensures.read) c.in_err-ok.ensures.value)

pub returns : goal.returns
unfolding part_word
returns c = part_told (line_of c.args.line) _ c.accepted.result _ (rw (← c.accepted.ensures) at c.read_kind.ensures.read) c.in_ok-ok.ensures.value
