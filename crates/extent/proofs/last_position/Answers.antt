use borrow.Author.Rules.{rules}
use Rattle.stack.specs.Stack.{Strip}
use Rattle.stack.specs.Lengths.{greatest_position, last_position}
use Rattle.extent.proofs.Folds.{greatest_in}
use Rattle.extent.proofs.last_position.Goals as goal

pub returns : goal.returns
unfolding last_position
returns c = greatest_in _ (λ (l : Strip). greatest_position l.window) c.args.stack.now c.strips.result.now c.greatest.result c.strips.ensures c.greatest.ensures (λ l x r. search rules)
