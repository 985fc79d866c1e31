-- place_total meets its contract: an empty session, a single strip, or a stack. Assumes nothing.
use native.Mathlib.Omega.{arith}
use Rattle.session.specs.Value.{held_of}
use Rattle.session.specs.Session.{SessionPlacementSays}
use Rattle.spread.proofs.Placements.{placement_refused}
use Rattle.session.proofs.Spreads.{session_placement_best, none_refused, single_placement_says, stack_placement_says, stack_within}
use Rattle.session.proofs.Session.place_total.Goals as goal

pub returns-in-0 : goal.returns-in-0
unfolding SessionPlacementSays
returns-in-0 c = let says = placement_refused _ _ _ _ _ (rw c.new.ensures (none_refused c.args.self.now _ c.in-0.is)) in record { session_placement_says = says; best_placement = session_placement_best (held_of c.args.self.now) c.args.spread c.requires _ _ says }

pub returns-in-1 : goal.returns-in-1
returns-in-1 c = let says = single_placement_says c.args.self.now _ _ _ c.in-1.is (rw c.free.ensures at c.single_placement.ensures) in record { session_placement_says = says; best_placement = session_placement_best (held_of c.args.self.now) c.args.spread c.requires _ _ says }

pub placement_of-requires : goal.placement_of-requires
placement_of-requires c = stack_within c.args.self.now _ c.requires (omega arith) c.stack.ensures

pub returns-in_default : goal.returns-in_default
returns-in_default c = let says = stack_placement_says c.args.self.now _ _ (omega arith) c.stack.ensures _ _ c.placement_of.ensures in record { session_placement_says = says; best_placement = session_placement_best (held_of c.args.self.now) c.args.spread c.requires _ _ says }
