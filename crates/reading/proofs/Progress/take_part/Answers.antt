-- take_part meets its contract. Assumes nothing.
use Rattle.std.proofs.lemmas.Result.{err_from_is_err_and}
use Rattle.reading.proofs.Places.{line_short, part_refused, part_taken}
use Rattle.reading.proofs.Progress.take_part.Goals as goal

pub read_part-requires : goal.read_part-requires
read_part-requires c = line_short c.args.self.now.text.now _ _ c.args.self.now c.requires.0.going c.line_from-line.result c.line_from-line.ensures

pub returns-in_err-strip : goal.returns-in_err-strip
returns-in_err-strip c =
    let p = err_from_is_err_and c.from_residual.result c.from_residual.ensures.1 in
    rw (p.1, p.2) (part_refused c.args.self.now.text.now c.args.self.now c.args.i c.line_from-line.result c.requires.0 c.requires.1 c.line_from-line.ensures _ c.in_err-strip.ensures)

pub returns : goal.returns
returns c = part_taken c.args.self.now.text.now c.args.self.now c.args.i c.line_from-line.result c.requires.0 c.requires.1 c.line_from-line.ensures _ c.set_strip.new.self c.in_ok-strip.ensures c.set_strip.ensures
