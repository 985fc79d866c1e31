-- put_row_at meets its contract: the part from the place on is lent to the row's writer. Assumes nothing.
use native.Mathlib.Omega.{arith}
use Rattle.writing.specs.TableText.{row_text}
use Rattle.writing.proofs.Lines.{lent_put}
use Rattle.writing.proofs.put_row_at.Goals as goal

pub returns : goal.returns
unfolding row_text
returns c = lent_put c.min-from.ensures (omega arith) c.put_row.ensures
