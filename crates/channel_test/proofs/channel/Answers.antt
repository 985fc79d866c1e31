-- Terminals that are made are few and on the strips. Assumes nothing.
use Rattle.std.proofs.Common.{arith}
use Rattle.stack.proofs.Found.{made_few, made_on_strips}
use Rattle.channel_test.proofs.channel.Goals as goal

pub channel_limits-limits-requires-clause-few : goal.channel_limits-limits-requires-clause-few
channel_limits-limits-requires-clause-few g c = (made_few _ _ _ _ c.in-Ok.terminals c.in-Ok.ensures, omega arith)

pub channel_limits-limits-requires-clause-on_strips :
    goal.channel_limits-limits-requires-clause-on_strips
channel_limits-limits-requires-clause-on_strips g c = made_on_strips _ _ _ _ c.in-Ok.terminals c.in-Ok.ensures

pub open_from-requires : goal.open_from-requires
open_from-requires g c = made_few _ _ _ _ c.in-Ok.terminals c.in-Ok.ensures

pub print_all_feasible-requires : goal.print_all_feasible-requires
print_all_feasible-requires g c = made_few _ _ _ _ c.in-Ok.terminals c.in-Ok.ensures
