-- put_top meets its contract. Assumes nothing.
use borrow.Author.Rules.{rules}
use Rattle.session.proofs.Values.{one_more}
use Rattle.session.proofs.Session.put_top.Goals as goal

pub returns : goal.returns
returns c = one_more c.args.self.now c.args.length c.args.terminals c.requires.0 c.requires.1 (search rules) (search rules)
