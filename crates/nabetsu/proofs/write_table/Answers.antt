-- write_table meets its contract, and TABLE_BYTES are never too little. Assumes nothing.
use borrow.Author.Rules.{rules}
use Rattle.nabetsu.proofs.Tables.{settled, table_said}
use Rattle.nabetsu.proofs.Space.{space_enough}
use Rattle.nabetsu.proofs.write_table.Goals as goal

pub returns : goal.returns
returns c = let says = table_said _ _ _ _ (settled _ _ _ _ _ _ c.put_text_table-put.result _ c.put_text_table-put.ensures (search rules) c.finish.ensures) in
    record { table_says = says; space_enough = space_enough _ _ _ _ says }
