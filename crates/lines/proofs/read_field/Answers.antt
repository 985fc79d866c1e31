-- read_field meets its contract: four digits fit. Assumes nothing.
use mathlib.Core.Path.{sym, ◌∙◌}
use native.Mathlib.Omega.{arith}
use Rattle.lines.proofs.Digits.{value_small}
use Rattle.lines.proofs.read_field.Goals as goal

pub overflow_cast-result : goal.overflow_cast-result
overflow_cast-result c = omega (arith, value_small c.args.field.now _ (sym c.is_sized.ensures ∙ c.if-not-is_sized.false) c.in_ok-value.ensures.small)
