-- put_channel meets its contract: the channel's terminals, separation and positions in the answer. Assumes nothing.
use native.Mathlib.Omega.{arith}
use Rattle.reply.proofs.Outcomes.{asked_fine}
use Rattle.nabetsu.proofs.Pages.{channel_place, channel_asks, channel_put}
use Rattle.nabetsu.proofs.put_channel.Goals as goal

pub answer_in-placement-requires : goal.answer_in-placement-requires
answer_in-placement-requires c = record { within = c.requires.0; wide = (asked_fine _ _ _ c.requires.1).wide }

pub overflow_sub-i : goal.overflow_sub-i
overflow_sub-i c = (asked_fine _ _ _ c.requires.1).some

pub bounds-stack-i : goal.bounds-stack-i
bounds-stack-i c = omega (arith, channel_place c.args.stack.now _ _ c.requires.0 c.requires.1)

pub bounds-placement-i : goal.bounds-placement-i
bounds-placement-i c = omega (arith, channel_place c.args.stack.now _ _ c.requires.0 c.requires.1)

pub bounds-placement-i-2 : goal.bounds-placement-i-2
bounds-placement-i-2 c = omega (arith, channel_place c.args.stack.now _ _ c.requires.0 c.requires.1)

pub bounds-placement-i-3 : goal.bounds-placement-i-3
bounds-placement-i-3 c = omega (arith, channel_place c.args.stack.now _ _ c.requires.0 c.requires.1)

pub put_page-requires : goal.put_page-requires
put_page-requires c = channel_asks c.args.stack.now _ _ c.requires.0 (asked_fine _ _ _ c.requires.1) _ c.answer_in-placement.ensures

pub returns : goal.returns
returns c = channel_put c.args.stack.now _ _ c.requires.0 (asked_fine _ _ _ c.requires.1) _ c.answer_in-placement.ensures _ _ _ c.put_page.ensures
