-- single meets its contract. Assumes nothing.
use mathlib.Core.Path.{refl}
use Rattle.numbers.specs.Lists.{tabulate}
use Rattle.stack.specs.Stack.{stack}
use Rattle.session.specs.Session.{taken}
use Rattle.session.specs.Value.{held_of}
use Rattle.session.proofs.Session.single.Goals as goal

pub returns : goal.returns
unfolding held_of stack tabulate taken
returns c = refl
