-- read_stack meets its contract: each stage is what the next one requires. Assumes nothing.
use Rattle.std.proofs.lemmas.Result.{err_from_is_err_and}
use Rattle.reading.proofs.Whole.{overlong_read, head_stops, parts_stop, nets_stop, gaps_stop, whole_read}
use Rattle.reading.proofs.read_stack.Goals as goal

pub returns-then-text-gt-MAX_BYTES : goal.returns-then-text-gt-MAX_BYTES
returns-then-text-gt-MAX_BYTES c = rw (c.new.ensures) (overlong_read c.args.text.now c.if-text-gt-MAX_BYTES.true)

pub returns-in_err-progress : goal.returns-in_err-progress
returns-in_err-progress c =
    let p = err_from_is_err_and c.from_residual.result c.from_residual.ensures.1 in
    rw (p.1, p.2) (head_stops c.args.text.now c.if-text-gt-MAX_BYTES.false _ c.in_err-progress.ensures)

pub returns-in_err-take_parts : goal.returns-in_err-take_parts
returns-in_err-take_parts c =
    let p = err_from_is_err_and c.from_residual-in_err-take_parts.result c.from_residual-in_err-take_parts.ensures.1 in
    let head = c.in_ok-progress.ensures in
    let text = head.going.text in
    rw (p.1, p.2) (parts_stop c.args.text.now c.if-text-gt-MAX_BYTES.false c.in_ok-progress.progress head _ _ (rw text at c.in_err-take_parts.ensures))

pub returns-in_err-take_all_nets : goal.returns-in_err-take_all_nets
returns-in_err-take_all_nets c =
    let p = err_from_is_err_and c.from_residual-in_err-take_all_nets.result c.from_residual-in_err-take_all_nets.ensures.1 in
    let head = c.in_ok-progress.ensures in
    let text = head.going.text in
    let parts = rw text at c.in_ok-take_parts.ensures in
    let behind_parts = parts.going.text in
    rw (p.1, p.2) (nets_stop c.args.text.now c.if-text-gt-MAX_BYTES.false c.in_ok-progress.progress head _ _ parts _ _ (rw behind_parts at c.in_err-take_all_nets.ensures))

pub returns-in_err-take_gaps : goal.returns-in_err-take_gaps
returns-in_err-take_gaps c =
    let p = err_from_is_err_and c.from_residual-in_err-take_gaps.result c.from_residual-in_err-take_gaps.ensures.1 in
    let head = c.in_ok-progress.ensures in
    let text = head.going.text in
    let parts = rw text at c.in_ok-take_parts.ensures in
    let behind_parts = parts.going.text in
    let nets = rw behind_parts at c.in_ok-take_all_nets.ensures in
    let behind_nets = nets.going.text in
    rw (p.1, p.2) (gaps_stop c.args.text.now c.if-text-gt-MAX_BYTES.false c.in_ok-progress.progress head _ _ parts _ _ nets _ _ (rw behind_nets at c.in_err-take_gaps.ensures))

pub returns : goal.returns
returns c =
    let head = c.in_ok-progress.ensures in
    let text = head.going.text in
    let parts = rw text at c.in_ok-take_parts.ensures in
    let behind_parts = parts.going.text in
    let nets = rw behind_parts at c.in_ok-take_all_nets.ensures in
    let behind_nets = nets.going.text in
    whole_read c.args.text.now c.if-text-gt-MAX_BYTES.false c.in_ok-progress.progress head _ _ parts _ _ nets _ _ (rw behind_nets at c.in_ok-take_gaps.ensures)
