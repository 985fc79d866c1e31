-- put_verdict meets its contract: the line put is the verdict. Assumes nothing.
use Rattle.commands.specs.Output.{verdict_text}
use Rattle.commands.proofs.put_verdict.Goals as goal

pub returns-then-legal : goal.returns-then-legal
unfolding verdict_text
returns-then-legal c = rw c.if-legal.true c.put_line.ensures

pub returns : goal.returns
unfolding verdict_text
returns c = rw c.if-legal.false c.put_line-2.ensures
