-- begin meets its contract. That nothing is held where it is refused, and what `single` makes, is left to the search, so that an edit is refused for that fact.
-- Assumes nothing.
use borrow.Author.Rules.{rules}
use Rattle.session.proofs.Steps.{begin_refused, begin_made}
use Rattle.session.proofs.Session.begin.Goals as goal

pub returns-in-Ok : goal.returns-in-Ok
returns-in-Ok c = begin_made _ _ c.in-Ok.strip _ c.in-Ok.ensures (search rules)

pub returns-in-Err : goal.returns-in-Err
returns-in-Err c = begin_refused _ _ c.in-Err.why _ c.in-Err.ensures (search rules)
