use borrow.Author.Rules.{rules}
use Rattle.stack.specs.Stack.{Strip, reach, first_spread}
use Rattle.extent.proofs.Folds.{greatest_in}
use Rattle.extent.proofs.first_spread.Goals as goal

pub returns : goal.returns
unfolding first_spread
returns c = greatest_in _ (λ (l : Strip). reach l) c.args.stack.now c.strips.result.now c.greatest.result c.strips.ensures c.greatest.ensures (λ l x r. search rules)
