-- nets_content meets its contract. Assumes nothing.
use Rattle.kinds.proofs.Nets.{numbers_made}
use Rattle.kinds.proofs.nets_content.Goals as goal

pub returns-in-Ok : goal.returns-in-Ok
returns-in-Ok c = λ ns m. numbers_made _ _ _ ns _ _ m c.in-Ok.terminals c.in-Ok.ensures
