-- least_total meets its contract: an empty session, a single strip, or a stack. Assumes nothing.
use native.Mathlib.Omega.{arith}
use Rattle.session.specs.Value.{held_of}
use Rattle.session.specs.Session.{SessionTotalSays}
use Rattle.spread.proofs.Totals.{total_refused}
use Rattle.session.proofs.Spreads.{session_total_best, none_refused, single_total_says, stack_total_says, stack_within}
use Rattle.session.proofs.Session.least_total.Goals as goal

pub returns-in-0 : goal.returns-in-0
unfolding SessionTotalSays
returns-in-0 c = let says = total_refused _ _ _ _ (rw c.new.ensures (none_refused c.args.self.now _ c.in-0.is)) in record { session_total_says = says; best_total = session_total_best (held_of c.args.self.now) c.args.spread c.requires _ says }

pub returns-in-1 : goal.returns-in-1
returns-in-1 c = let says = single_total_says c.args.self.now _ _ c.in-1.is (rw c.free.ensures at c.single_total.ensures) in record { session_total_says = says; best_total = session_total_best (held_of c.args.self.now) c.args.spread c.requires _ says }

pub total_of-requires : goal.total_of-requires
total_of-requires c = stack_within c.args.self.now _ c.requires (omega arith) c.stack.ensures

pub returns-in_default : goal.returns-in_default
returns-in_default c = let says = stack_total_says c.args.self.now _ _ (omega arith) c.stack.ensures _ c.total_of.ensures in record { session_total_says = says; best_total = session_total_best (held_of c.args.self.now) c.args.spread c.requires _ says }
