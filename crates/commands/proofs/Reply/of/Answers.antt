-- of meets its contract: what is put already, or a refusal's line. Assumes nothing.
use borrow.Author.Rules.{rules}
use Rattle.commands.proofs.Printing.{refused_line}
use Rattle.commands.proofs.Reply.of.Goals as goal

pub returns-in-Err : goal.returns-in-Err
returns-in-Err c = rw c.in-Err.is (λ t. refused_line t _ c.number.ensures (search rules) c.put_refusal.ensures)
