-- replay_steps meets its contract: a text too long, a line of no step, a line taken, and the end. Assumes nothing.
use mathlib.Core.Path.{ap, ◌∙◌}
use mathlib.Core.Bool.{not}
use lib.ListN.{length}
use Rattle.lines.specs.Lines.{Line, line}
use Rattle.replay.proofs.Going.{overlong_answered, replaying_ends, line_short, replaying_stops, replaying_steps}
use Rattle.replay.proofs.replay_steps.Goals as goal

pub returns-then-text-gt-MAX_BYTES : goal.returns-then-text-gt-MAX_BYTES
returns-then-text-gt-MAX_BYTES c =
    let all = overlong_answered c.args.text.now c.empty.result c.new.result c.if-text-gt-MAX_BYTES.true c.empty.ensures c.new.ensures in
    record { is_replayed = all.0; made = all.1 }

pub take_line-requires : goal.take_line-requires
unfolding line
take_line-requires c =
    line_short c.args.text.now c.loop-at.at c.loop-at.n c.loop-at.replay c.loop-at.invariant c.loop-at-test.true c.line_from-line.result.bytes.now
    (ap (λ (l : Line). length l.bytes) c.line_from-line.ensures)

pub returns-then-is_none : goal.returns-then-is_none
returns-then-is_none c =
    let all = replaying_stops c.args.text.now c.loop-at.at c.loop-at.n c.loop-at.replay c.loop-at.invariant c.take_line.new.self c.loop-at-test.true
    (c.take_line.ensures ∙ rw c.line_from-line.ensures) (c.is_none.ensures ∙ ap not c.if-is_none.true) in
    record { is_replayed = all.0; made = all.1 }

pub loop-at-preserved : goal.loop-at-preserved
unfolding line
loop-at-preserved c =
    replaying_steps c.args.text.now c.loop-at.at c.loop-at.n c.loop-at.replay c.loop-at.invariant c.take_line.new.self c.loop-at-test.true
    (c.take_line.ensures ∙ rw c.line_from-line.ensures) (c.is_none.ensures ∙ ap not c.if-is_none.false) c.line_from-line.result.bytes.now
    (ap (λ (l : Line). length l.bytes) c.line_from-line.ensures)

pub returns : goal.returns
returns c =
    let all = replaying_ends c.args.text.now c.loop-at.at c.loop-at.n c.loop-at.replay c.loop-at.invariant c.finish.new.self c.loop-at-test.false c.finish.ensures in
    record { is_replayed = all.0; made = all.1 }
