use native.Mathlib.Omega.{arith}
use mathlib.Core.Path.{refl}
use borrow.Author.Rules.{rules}
use Rattle.stack.proofs.Within.{few_channels}
use Rattle.arrays.specs.Arrays.{bias}
use Rattle.arrays.proofs.Options.{some_number, lesser_end}
use Rattle.answer.proofs.Standing.{windows_step, below_step}
use Rattle.answer.proofs.fill_windows.Goals as goal

pub loop-i-init : goal.loop-i-init
loop-i-init c = (search rules, (bias, some_number bias bias (omega arith) refl, λ i h. absurd (omega arith)))

pub loop-i-preserved : goal.loop-i-preserved
loop-i-preserved c =
    let few = few_channels c.args.stack.now c.requires in
    let b = c.loop-i.invariant in (
      windows_step c.args.stack.now c.loop-i.i c.args.spread c.window.result _ (omega arith) few b.0 c.window.ensures,
      (_, rw (c.min-least.ensures, b.1.1, c.growing_end.ensures) (lesser_end _ _), below_step c.args.stack.now c.loop-i.i c.args.spread b.1.0 _ _ (omega arith) b.1.2 refl refl),
    )
