use mathlib.Core.Path.{sym, ◌∙◌}
use Rattle.lines.specs.Lines.{is_digit}
use Rattle.lines.proofs.Digits.{counting_steps}
use Rattle.lines.proofs.read_digits.Goals as goal

pub loop-x-preserved : goal.loop-x-preserved
unfolding is_digit
loop-x-preserved c = rw c.from.ensures (counting_steps c.args.bytes.now _ _ c.loop-x.invariant c.loop-x-test.true (sym c.is_ascii_digit.ensures.value ∙ c.if-not-is_ascii_digit.false))
