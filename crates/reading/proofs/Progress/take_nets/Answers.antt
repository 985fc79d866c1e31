-- take_nets meets its contract. Assumes nothing.
use Rattle.std.proofs.lemmas.Result.{err_from_is_err_and}
use Rattle.reading.proofs.Places.{line_short, nets_refused, nets_taken}
use Rattle.reading.proofs.Progress.take_nets.Goals as goal

pub read_nets-requires : goal.read_nets-requires
read_nets-requires c = line_short c.args.self.now.text.now _ _ c.args.self.now c.requires.0.going c.line_from-line.result c.line_from-line.ensures

pub returns-in_err-terminals : goal.returns-in_err-terminals
returns-in_err-terminals c =
    let p = err_from_is_err_and c.from_residual.result c.from_residual.ensures.1 in
    rw (p.1, p.2) (nets_refused c.args.self.now.text.now c.args.self.now c.args.c c.line_from-line.result c.requires.0 c.requires.1 c.line_from-line.ensures _ c.in_err-terminals.ensures)

pub returns : goal.returns
returns c = nets_taken c.args.self.now.text.now c.args.self.now c.args.c c.line_from-line.result c.requires.0 c.requires.1 c.line_from-line.ensures _ c.set_terminals.new.self c.in_ok-terminals.ensures c.set_terminals.ensures
