-- put_numbers meets its contract. Assumes nothing.
use borrow.Author.Rules.{rules}
use native.Mathlib.Omega.{arith}
use Rattle.nabetsu.proofs.Numbers.{numbers_put}
use Rattle.nabetsu.proofs.put_numbers.Goals as goal

pub returns : goal.returns
returns c = numbers_put c.args.placement _ c.loop-i.output (search rules) (λ j h. c.loop-i.invariant j (omega (arith, c.loop-i.auto.output, c.loop-i-test.false)))
