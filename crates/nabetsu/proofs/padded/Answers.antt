-- padded meets its contract: what is given, and what is left of the zeros. Assumes nothing.
use borrow.Author.Rules.{rules}
use Rattle.nabetsu.proofs.Numbers.{padded_first}
use Rattle.nabetsu.proofs.padded.Goals as goal

pub returns : goal.returns
returns g c = padded_first g.row.N c.args.numbers.now _ c.min-given.result (search rules) (search rules)
