-- empty meets its contract. Assumes nothing.
use mathlib.Core.Path.{refl}
use Rattle.numbers.specs.Lists.{tabulate}
use Rattle.stack.specs.Stack.{stack}
use Rattle.session.specs.Session.{nothing}
use Rattle.session.specs.Value.{held_of}
use Rattle.session.proofs.Session.empty.Goals as goal

pub returns : goal.returns
unfolding held_of nothing stack tabulate
returns c = refl
