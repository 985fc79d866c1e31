-- room meets its contract: an empty session, nine strips, or room. Assumes nothing.
use Rattle.session.proofs.Values.{none_held, nine_held, room_there}
use Rattle.session.proofs.Session.room.Goals as goal

pub returns-then-self-eq0 : goal.returns-then-self-eq0
returns-then-self-eq0 c = rw c.new.ensures (none_held _ c.if-self-eq0.true)

pub returns-then-self-ge-STRIPS : goal.returns-then-self-ge-STRIPS
returns-then-self-ge-STRIPS c = rw c.new-then-self-ge-STRIPS.ensures (nine_held _ c.if-self-eq0.false c.if-self-ge-STRIPS.true)

pub returns : goal.returns
returns c = room_there _ c.if-self-eq0.false c.if-self-ge-STRIPS.false
