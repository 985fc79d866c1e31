-- window_growths meets its contract: each place has its strip's growing end. Assumes nothing.
use borrow.Author.Rules.{rules}
use mathlib.Core.Path.{◌≡◌}
use lib.ListN.{get_or}
use Rattle.std.specs.Prelude.{None}
use Rattle.stack.specs.Value.{strip_at}
use Rattle.stack.proofs.Within.{few_channels, stack_strip}
use Rattle.arrays.specs.Arrays.{bias, unless_zero}
use Rattle.arrays.proofs.Options.{end_there, read_off}
use Rattle.answer.specs.Solve.{growth}
use Rattle.rows.proofs.window_growths.Goals as goal

pub returns : goal.returns
returns c i h =
    let few = few_channels c.args.stack.now c.requires in
    let m = c.from_fn.ensures.items in
    let e : get_or c.from_fn.result i None ≡ unless_zero (growth bias c.args.spread (strip_at c.args.stack.now i)) = search rules in
    rw (end_there c.from_fn.result i, e, stack_strip c.args.stack.now i h) (read_off _)
