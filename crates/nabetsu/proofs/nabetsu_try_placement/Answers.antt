-- nabetsu_try_placement meets its contract: the verdict or the refusal in one number. Assumes nothing.
use Rattle.nabetsu.specs.Entry.{verdict}
use Rattle.nabetsu.proofs.Numbers.{verdict_coded}
use Rattle.nabetsu.proofs.nabetsu_try_placement.Goals as goal

pub returns-in-Ok-true : goal.returns-in-Ok-true
unfolding verdict
returns-in-Ok-true c = verdict_coded _ _ _ _ _ c.in-Ok-true.ensures c.in-Ok-true.field-0-test

pub returns-in-Ok-false : goal.returns-in-Ok-false
unfolding verdict
returns-in-Ok-false c = verdict_coded _ _ _ _ _ c.in-Ok-false.ensures c.in-Ok-false.field-0-test
