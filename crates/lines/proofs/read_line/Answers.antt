-- read_line meets its contract. Assumes nothing.
use mathlib.Core.Path.{◌∙◌}
use lib.ListN.{take}
use Rattle.lines.proofs.Digits.{same_pointwise}
use Rattle.lines.proofs.Fields.{read_behind, line_reads}
use Rattle.lines.proofs.read_line.Goals as goal

pub returns-then-line : goal.returns-then-line
returns-then-line c =
    line_reads c.args.line.bytes.now c.args.word.now c.args.line.ended _ c.run-end.result c.read_numbers-numbers.result _ c.run-end.ensures (read_behind _ _ _ _ c.run-end.ensures c.read_numbers-numbers.ensures) (c.eq.ensures ∙ rw (c.if-line.true) (same_pointwise (take c.run-end.result c.args.line.bytes.now) c.args.word.now))

pub returns-else-line : goal.returns-else-line
returns-else-line c =
    line_reads c.args.line.bytes.now c.args.word.now c.args.line.ended _ c.run-end.result c.read_numbers-numbers.result _ c.run-end.ensures (read_behind _ _ _ _ c.run-end.ensures c.read_numbers-numbers.ensures) (rw (c.if-line.false))
