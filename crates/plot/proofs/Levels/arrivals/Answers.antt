use borrow.Author.Rules.{rules}
use Rattle.plot.specs.Drawing.{reached}
use Rattle.plot.proofs.Ends.{arrivals_made, reached_by}
use Rattle.plot.proofs.Levels.arrivals.Goals as goal

pub returns : goal.returns
returns c = arrivals_made _ (λ j. reached c.args.self.now c.args.y j) _ c.from_fn.result (λ j r q l m. (search rules, reached_by _ _ _ _ _ _ c.saturating_sub-passed.ensures c.min-behind.ensures (search rules))) c.from_fn.ensures.items
