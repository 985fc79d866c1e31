-- list_count meets its contract. Assumes nothing.
use native.Mathlib.Omega.{arith}
use Rattle.lines.specs.Lines.{line_of}
use Rattle.text.specs.Text.{nets_word}
use Rattle.steps.proofs.Answers.{list_ill, list_told, list_kept, list_fits}
use Rattle.steps.proofs.list_count.Goals as goal

pub returns-in_err-count : goal.returns-in_err-count
unfolding nets_word
returns-in_err-count c = rw (c.from_residual.ensures) (record { count = list_ill (line_of c.args.line) _ c.accepted.result (rw (← c.accepted.ensures) at c.read_kind.ensures.read) c.in_err-count.ensures.value; kept = tt })

pub overflow_cast-result : goal.overflow_cast-result
unfolding nets_word
overflow_cast-result c = omega (arith, list_fits c.args.line.bytes.now c.args.line.ended _ c.accepted.result c.in_ok-count.count c.requires.0 (rw (← c.accepted.ensures) at c.read_kind.ensures.read) c.in_ok-count.ensures.value)

pub returns : goal.returns
unfolding nets_word
returns c = record {
  count = list_told (line_of c.args.line) _ c.accepted.result c.in_ok-count.count (rw (← c.accepted.ensures) at c.read_kind.ensures.read) c.in_ok-count.ensures.value;
  kept = list_kept (line_of c.args.line) _ c.accepted.result c.in_ok-count.count (rw (← c.accepted.ensures) at c.read_kind.ensures.read) c.in_ok-count.ensures.value;
}
