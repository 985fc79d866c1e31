-- finish meets its contract: short space, zeros behind what was put, or a refusal. Assumes nothing.
use Rattle.reply.specs.Parts.{Finished}
use Rattle.reply.proofs.Finishing.{finished_short, finished_whole}
use Rattle.reply.proofs.finish.Goals as goal

pub returns-then-output-written : goal.returns-then-output-written
returns-then-output-written c = rw c.in-Ok.is (finished_short _ _ _ _ _ c.if-output-written.true c.new.ensures c.refused_table.ensures)

pub returns-else-output-written : goal.returns-else-output-written
returns-else-output-written c = rw c.in-Ok.is (finished_whole _ _ _ c.if-output-written.false c.clear_from.ensures)

pub returns-in-Err : goal.returns-in-Err
unfolding Finished
returns-in-Err c = rw c.in-Err.is c.refused_table-in-Err.ensures
