-- The table's entry is the rule's character. Assumes nothing.
use Rattle.track.proofs.Rows.{table, table_right}
use Rattle.track.proofs.character.Goals as goal

pub returns : goal.returns
unfolding table
returns c = table_right _ _ _ _ _ _ _ _ c.from.ensures c.from-2.ensures c.from-3.ensures c.from-4.ensures
