-- evaluate meets its contract: where every window's end grows by the scan's jump, else by that of the growing ends. Assumes nothing.
use mathlib.Core.Path.{◌≡◌}
use mathlib.Core.Bool.{true}
use borrow.Author.Rules.{rules}
use Rattle.std.specs.Prelude.{is_some}
use Rattle.arrays.proofs.Options.{number_some}
use Rattle.answer.proofs.Standing.{held_scan_asks}
use Rattle.rows.proofs.Evaluating.{ready_for, growth_asks, evaluated, evaluated_grown}
use Rattle.rows.proofs.evaluate.Goals as goal

pub scan_totals-scan-requires : goal.scan_totals-scan-requires
scan_totals-scan-requires c = held_scan_asks _ _ _ (ready_for _ _ _ c.args.given.now _ _ c.ranges.spread.fits c.requires c.fill_windows-least.ensures.windows) c.args.cap _ c.requires.capped c.requires.sized

pub returns-then-is_some-clause-evaluated : goal.returns-then-is_some-clause-evaluated
returns-then-is_some-clause-evaluated c =
    let l = c.fill_windows-least.ensures.least in
    let some : is_some c.fill_windows-least.result ≡ true = search rules in
    evaluated_grown _ _ _ (ready_for _ _ _ c.args.given.now _ _ c.ranges.spread.fits c.requires c.fill_windows-least.ensures.windows) c.args.cap _ _ c.scan_totals-scan.ensures c.requires.capped l.0 (number_some l.0 (rw l.1 at some)) l.2

pub growth_jump-jump-requires : goal.growth_jump-jump-requires
growth_jump-jump-requires c = growth_asks _ _ _ (ready_for _ _ _ c.args.given.now _ _ c.ranges.spread.fits c.requires c.fill_windows-least.ensures.windows) c.args.cap _ _ c.scan_totals-scan.ensures c.requires.capped _ c.window_growths-growths.ensures

pub returns-clause-evaluated : goal.returns-clause-evaluated
returns-clause-evaluated c = evaluated _ _ _ (ready_for _ _ _ c.args.given.now _ _ c.ranges.spread.fits c.requires c.fill_windows-least.ensures.windows) c.args.cap _ _ c.scan_totals-scan.ensures c.requires.capped _ c.window_growths-growths.ensures _ c.growth_jump-jump.ensures.some c.growth_jump-jump.ensures.none_less
