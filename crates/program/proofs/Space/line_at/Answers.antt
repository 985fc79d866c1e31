-- A line ends among the bytes that are there, an ended one in front of its line feed. Assumes nothing.
use Rattle.std.proofs.Common.{rules}
use Rattle.program.proofs.Lines.{line_in_part}
use Rattle.program.proofs.Space.line_at.Goals as goal

pub returns : goal.returns
returns c = line_in_part c.args.self.now.bytes c.args.at c.args.self.now.filled c.line_from-line.result c.requires (search rules) c.line_from-line.ensures
