-- The line that is put is a refusal's. Assumes nothing.
use Rattle.writing.proofs.Rows.{refusal_made}
use Rattle.writing.proofs.put_refusal.Goals as goal

pub returns : goal.returns
returns c = rw (c.as_slice.ensures, refusal_made c.args.number c.args.line c.args.field c.new-told.ensures c.push_number.ensures.added c.push_tabbed.ensures.added c.push.ensures) at c.put_line.ensures
