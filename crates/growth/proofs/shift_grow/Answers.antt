use Rattle.arrays.specs.Arrays.{bias}
use Rattle.std.proofs.Common.{arith}
use Rattle.growth.proofs.Cells.{shift_none, shift_some}
use Rattle.growth.proofs.shift_grow.Goals as goal

pub returns-then-grow-eq0 : goal.returns-then-grow-eq0
returns-then-grow-eq0 c = shift_none bias _ _ c.if-grow-eq0.true

pub returns-else-grow-eq0 : goal.returns-else-grow-eq0
returns-else-grow-eq0 c = shift_some bias _ _ _ c.if-grow-eq0.false (omega arith)
