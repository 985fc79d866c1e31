-- try_add meets its contract: the refusals in their order, or one strip more. What leaves, and how it was joined, is left to the search, so that an edit is refused
-- for that fact. Assumes nothing.
use borrow.Author.Rules.{rules}
use Rattle.session.proofs.Values.{roomy}
use Rattle.session.proofs.Steps.{joined_refused, joined_added}
use Rattle.session.proofs.Session.try_add.Goals as goal

pub returns-in_err-and : goal.returns-in_err-and
returns-in_err-and c =
    joined_refused _ _ _ _ _ _ _ _ _ c.room-room.ensures c.length_outcome-sized.ensures c.top.ensures c.read_terminals-nets.ensures c.and-wired.ensures _ (search rules) (search rules) _ (search rules)

pub put_top-requires : goal.put_top-requires
put_top-requires c = let r = roomy c.args.self.now (search rules) in (r.some, r.few)

pub returns : goal.returns
returns c =
    joined_added _ _ _ _ _ _ _ _ _ c.room-room.ensures c.length_outcome-sized.ensures c.top.ensures c.read_terminals-nets.ensures c.and-wired.ensures (search rules)
    c.in_ok-nets.field-0 c.put_top.new.self (search rules) c.put_top.ensures
