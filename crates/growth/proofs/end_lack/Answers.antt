use Rattle.growth.proofs.Cells.{lack_none, lack_gap}
use Rattle.growth.proofs.end_lack.Goals as goal

pub returns-then-x-end : goal.returns-then-x-end
returns-then-x-end c = lack_none _ _ _ c.if-x-end.true

pub returns-else-x-end : goal.returns-else-x-end
returns-else-x-end c = lack_gap _ _ _ _ c.if-x-end.false c.saturating_sub.ensures
