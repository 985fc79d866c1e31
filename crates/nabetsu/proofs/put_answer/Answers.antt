-- put_answer meets its contract: short space, the numbers put, or a refusal. Assumes nothing.
use mathlib.Core.Path.{refl}
use Rattle.nabetsu.proofs.Numbers.{placement_short, placement_put, placement_refused}
use Rattle.nabetsu.proofs.put_answer.Goals as goal

pub returns-then-output-lt-NUMBERS : goal.returns-then-output-lt-NUMBERS
returns-then-output-lt-NUMBERS c = rw c.in-Ok.is (placement_short _ _ _ _ _ c.if-output-lt-NUMBERS.true c.new.ensures (c.refused_numbers.ensures.coded 0) c.refused_numbers.ensures.cleared)

pub returns-else-output-lt-NUMBERS : goal.returns-else-output-lt-NUMBERS
returns-else-output-lt-NUMBERS c = rw c.in-Ok.is (placement_put _ _ _ _ c.if-output-lt-NUMBERS.false refl c.put_numbers.ensures)

pub returns-in-Err : goal.returns-in-Err
returns-in-Err c = rw c.in-Err.is (placement_refused _ _ _ _ (c.refused_numbers-in-Err.ensures.coded 0) c.refused_numbers-in-Err.ensures.cleared)
