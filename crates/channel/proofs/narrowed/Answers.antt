use native.Mathlib.Omega.{arith}
use lib.ListN.{get_or}
use Rattle.numbers.proofs.Lists.{filled_steps}
use Rattle.stack.specs.Value.{columns}
use Rattle.channel.specs.Seeking.{places_held}
use Rattle.channel.proofs.narrowed.Goals as goal

pub loop-j-preserved : goal.loop-j-preserved
loop-j-preserved c = rw c.loop-j.invariant (filled_steps places_held c.loop-j.j (λ i. (get_or c.args.edge.now i (columns 0)).0) c.args.rest (omega (arith, c.requires.few, c.loop-j-test.true)))
