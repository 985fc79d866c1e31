use mathlib.Core.Path.{ap, ◌∙◌}
use native.Mathlib.Omega.{arith}
use Rattle.stack.specs.Stack.{channel}
use Rattle.stack.specs.Value.{channel_of}
use Rattle.channel.specs.Seeking.{term_bias, raised}
use Rattle.channel.proofs.Terms.{lower_at_most, upper_at_most, lower_held, upper_held}
use Rattle.channel.proofs.Filling.{filling_starts, filling_steps, filling_ends}
use Rattle.channel.proofs.Closing.{limits_closed}
use Rattle.channel.proofs.channel_limits.Goals as goal

pub narrowed-p-requires-clause-small : goal.narrowed-p-requires-clause-small
narrowed-p-requires-clause-small c = lower_at_most c.args.terminals.now c.requires.on_strips

pub narrowed-q-requires-clause-small : goal.narrowed-q-requires-clause-small
narrowed-q-requires-clause-small c = upper_at_most c.args.terminals.now c.requires.on_strips

pub narrowed-p_on-requires-clause-small : goal.narrowed-p_on-requires-clause-small
narrowed-p_on-requires-clause-small c = lower_at_most c.args.terminals.now c.requires.on_strips

pub narrowed-q_on-requires-clause-small : goal.narrowed-q_on-requires-clause-small
narrowed-q_on-requires-clause-small c = upper_at_most c.args.terminals.now c.requires.on_strips

pub loop-t-init : goal.loop-t-init
loop-t-init c = filling_starts _ _ _

pub greatest_term-requires-clause-p_small : goal.greatest_term-requires-clause-p_small
greatest_term-requires-clause-p_small c = lower_held c.args.terminals.now c.requires.on_strips 0 1000 _ c.narrowed-p.ensures (omega arith) (omega arith)

pub greatest_term-requires-clause-q_small : goal.greatest_term-requires-clause-q_small
greatest_term-requires-clause-q_small c = upper_held c.args.terminals.now c.requires.on_strips term_bias term_bias _ c.narrowed-q_on.ensures (omega arith) (omega arith)

pub least_term-requires-clause-p_small : goal.least_term-requires-clause-p_small
least_term-requires-clause-p_small c = lower_held c.args.terminals.now c.requires.on_strips term_bias term_bias _ c.narrowed-p_on.ensures (omega arith) (omega arith)

pub least_term-requires-clause-q_small : goal.least_term-requires-clause-q_small
least_term-requires-clause-q_small c = upper_held c.args.terminals.now c.requires.on_strips 0 1000 _ c.narrowed-q.ensures (omega arith) (omega arith)

pub loop-t-preserved : goal.loop-t-preserved
loop-t-preserved c = let loop = c.loop-t in
    filling_steps _ _ _ loop.t loop.low loop.high c.raised.result c.raised-in-loop-t.result c.loop-t-test.true loop.invariant
    (c.raised.ensures ∙ ap (λ x. raised x) c.greatest_term.ensures)
    (c.raised-in-loop-t.ensures ∙ ap (λ x. raised x) c.least_term.ensures)

pub returns : goal.returns
returns c = let loop = c.loop-t in
    limits_closed (channel (channel_of c.args.terminals.now) c.args.floor.0) _ _ _ _
    (filling_ends c.args.terminals.now loop.t _ _ _ _ loop.low loop.high c.requires.few.0 c.requires.on_strips c.loop-t-test.false
    c.narrowed-p.ensures c.narrowed-q.ensures c.narrowed-p_on.ensures c.narrowed-q_on.ensures loop.invariant)
    c.close_below.ensures c.close_below-2.ensures
