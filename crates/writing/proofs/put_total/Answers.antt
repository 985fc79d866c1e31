-- The line that is put is a total's. Assumes nothing.
use Rattle.writing.proofs.Rows.{total_made}
use Rattle.writing.proofs.put_total.Goals as goal

pub returns : goal.returns
returns c = rw (c.as_slice.ensures, total_made c.args.total c.new-line.ensures c.push_number.ensures.added c.push.ensures) at c.put_line.ensures
