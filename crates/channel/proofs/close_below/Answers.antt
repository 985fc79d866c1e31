-- close_below meets its contract: what was filled stands before what was there. Assumes nothing.
use mathlib.Core.Path.{◌≡◌}
use native.Mathlib.Omega.{arith}
use lib.ListN.{length, take}
use borrow.Author.Rules.{rules}
use Rattle.std.proofs.lemmas.List.{length-take-le}
use Rattle.channel.proofs.Closing.{closed_below}
use Rattle.channel.proofs.close_below.Goals as goal

pub returns : goal.returns
returns c =
    let long : length c.args.row.now ≡ 65 = search rules in
    let cut : length (take c.args.floor.0 c.args.row.now) ≡ c.args.floor.0 = length-take-le c.args.floor.0 c.args.row.now (omega arith) in
    rw (c.fill.ensures.after (λ y e. e), cut) (closed_below c.args.row.now c.args.closed c.args.floor.0 (omega arith) long)
