use mathlib.Core.Path.{refl}
use borrow.Author.Rules.{rules}
use Rattle.std.specs.Fn.{FnReturnsAt}
use Rattle.std.proofs.lemmas.Fn.{says_at}
use Rattle.stack.specs.Value.{free_strip}
use Rattle.extent.proofs.Folds.{greatest_step, greatest_end}
use Rattle.extent.proofs.greatest.Goals as goal

pub loop-strip-preserved : goal.loop-strip-preserved
loop-strip-preserved g c = greatest_step (FnReturnsAt g.F.Fn c.args.number) c.args.strips.now (free_strip 0) c.loop-strip.strip-index c.loop-strip.most c.number.result c.max-most.result c.loop-strip-test.true
    (says_at g.F.Fn c.number.ensures refl) (search rules) c.loop-strip.invariant

pub returns : goal.returns
returns g c = greatest_end (FnReturnsAt g.F.Fn c.args.number) c.args.strips.now c.loop-strip.strip-index c.loop-strip.most c.loop-strip-test.false c.loop-strip.invariant
