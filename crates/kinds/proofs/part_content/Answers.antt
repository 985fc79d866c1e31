-- part_content meets its contract. Assumes nothing.
use Rattle.kinds.proofs.Parts.{one_made}
use Rattle.kinds.proofs.part_content.Goals as goal

pub returns : goal.returns
returns c = rw (c.part_made.ensures, c.new.ensures) (one_made c.args.n c.args.length)
