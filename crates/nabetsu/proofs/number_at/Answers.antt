-- number_at meets its contract: the total, a separation, a position, or zero behind them. Assumes nothing.
use native.Mathlib.Omega.{arith}
use Rattle.nabetsu.proofs.Numbers.{number_column}
use borrow.Author.Rules.{rules}
use Rattle.nabetsu.proofs.number_at.Goals as goal

pub returns-then-i-lt-NUMBERS : goal.returns-then-i-lt-NUMBERS
returns-then-i-lt-NUMBERS c = number_column c.args.placement.total.0 c.args.placement.separations c.args.placement.positions (search rules) c.args.i (omega (arith, c.if-i-le-MAX_CHANNELS.false))
