-- take_off meets its contract: no strip to take off, or one less. Assumes nothing.
use mathlib.Core.Path.{refl}
use Rattle.session.specs.Session.{off, left}
use Rattle.session.proofs.Steps.{step_refused, step_made}
use Rattle.session.proofs.Values.{none_spare, some_spare, one_less}
use Rattle.session.proofs.Session.take_off.Goals as goal

pub returns-then-self-le1 : goal.returns-then-self-le1
unfolding left
returns-then-self-le1 c = step_refused _ off c.new.result c.args.self (rw c.new.ensures (none_spare _ c.if-self-le1.true)) refl

pub returns : goal.returns
returns c = step_made _ off _ (some_spare _ c.if-self-le1.false) (one_less c.args.self)
