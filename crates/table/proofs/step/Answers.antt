-- step meets its contract: an event at which the total stays, or falls with its row. Assumes nothing.
use mathlib.Core.Path.{refl}
use native.Mathlib.Omega.{arith}
use Rattle.stack.specs.Value.{stack_of}
use Rattle.table.proofs.Steps.{step_fits, step_on, step_down}
use Rattle.table.proofs.Walks.{at_fits}
use Rattle.table.proofs.step.Goals as goal

pub overflow_add-next : goal.overflow_add-next
overflow_add-next c = omega (arith, step_fits _ _ _ _ _ c.requires)

pub overflow_cast-next-2 : goal.overflow_cast-next-2
overflow_cast-next-2 c = omega (arith, step_fits _ _ _ _ _ c.requires)

pub returns-then-cap-scan : goal.returns-then-cap-scan
returns-then-cap-scan c = (step_on _ _ _ _ _ c.requires _ _ _ c.evaluate-scan.ensures.kept c.evaluate-scan.ensures.evaluated c.if-cap-scan.true, refl, c.evaluate-scan.ensures.evaluated.jump_some)

pub put_placed-at-requires : goal.put_placed-at-requires
put_placed-at-requires c = (
  at_fits (stack_of c.args.stack.now) c.requires.here.holding.held.good _ c.args.w c.requires.here.walking,
  c.requires.here.holding.held.good,
  omega (arith, c.requires.here.walking.from),
  c.place_row-placement.ensures,
)

pub returns : goal.returns
returns c = (step_down _ _ _ _ _ c.requires _ _ _ c.evaluate-scan.ensures.kept c.evaluate-scan.ensures.evaluated c.if-cap-scan.false _ _ c.put_placed-at.ensures, refl, c.evaluate-scan.ensures.evaluated.jump_some)
