-- take_gap meets its contract. Assumes nothing.
use Rattle.std.proofs.lemmas.Result.{err_from_is_err_and}
use native.Mathlib.Omega.{arith}
use Rattle.std.specs.Prelude.{unwrap_or}
use Rattle.reading.proofs.Places.{line_short, gap_refused, gap_channel, gap_taken}
use Rattle.reading.proofs.Progress.take_gap.Goals as goal

pub read_gap-requires : goal.read_gap-requires
read_gap-requires c = line_short c.args.self.now.text.now _ _ c.args.self.now c.requires.read.going c.line_from-line.result c.line_from-line.ensures

pub returns-in_err-gap : goal.returns-in_err-gap
returns-in_err-gap c =
    let p = err_from_is_err_and c.from_residual.result c.from_residual.ensures.1 in
    rw (p.1, p.2) (gap_refused c.args.self.now.text.now c.args.self.now c.args.g (unwrap_or c.args.before 0) c.line_from-line.result c.line_behind.result c.requires c.line_from-line.ensures c.line_behind.ensures _ c.in_err-gap.ensures)

pub overflow_sub-gap : goal.overflow_sub-gap
overflow_sub-gap c = (gap_channel c.args.self.now.text.now c.args.self.now c.args.g (unwrap_or c.args.before 0) c.line_from-line.result c.line_behind.result c.requires c.line_from-line.ensures c.line_behind.ensures c.in_ok-gap.gap c.in_ok-gap.ensures).0

pub set_floor-requires : goal.set_floor-requires
set_floor-requires c =
    let inside = gap_channel c.args.self.now.text.now c.args.self.now c.args.g (unwrap_or c.args.before 0) c.line_from-line.result c.line_behind.result c.requires c.line_from-line.ensures c.line_behind.ensures c.in_ok-gap.gap c.in_ok-gap.ensures in
    (omega (arith, inside.0, inside.1), omega (arith, c.requires.read.going.count, c.requires.read.going.few))

pub returns : goal.returns
returns c = gap_taken c.args.self.now.text.now c.args.self.now c.args.g (unwrap_or c.args.before 0) c.line_from-line.result c.line_behind.result c.requires c.line_from-line.ensures c.line_behind.ensures c.in_ok-gap.gap c.in_ok-gap.ensures c.set_floor.new.self c.set_floor.ensures
