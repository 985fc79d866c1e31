-- put_text_table meets its contract. Assumes nothing.
use Rattle.nabetsu.proofs.Tables.{table_put}
use Rattle.nabetsu.proofs.put_text_table.Goals as goal

pub returns : goal.returns
returns c = table_put _ c.in_ok-stack.stack _ _ c.in_ok-stack.ensures c.put_table.ensures
