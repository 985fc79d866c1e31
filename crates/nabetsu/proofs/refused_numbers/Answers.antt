-- refused_numbers meets its contract. Assumes nothing.
use Rattle.reply.specs.Told.{zeros}
use Rattle.nabetsu.proofs.refused_numbers.Goals as goal

pub returns-clause-cleared : goal.returns-clause-cleared
unfolding zeros
returns-clause-cleared c = c.fill.ensures.after (λ y e. e)
