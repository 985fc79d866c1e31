use mathlib.Core.Path.{refl, ◌∙◌}
use Prim.Native.Nat.{◌+◌}
use native.Mathlib.Omega.{arith}
use Rattle.std.proofs.Common.{rules, tests}
use Rattle.std.proofs.lemmas.Iterator.{YieldsList-from_range}
use Rattle.std.proofs.lemmas.Iterator.Search.{all_from_yields_List}
use Rattle.trial.proofs.Trying.{spread_is}
use Rattle.trial.proofs.is_in_spread.Goals as goal

pub returns : goal.returns
returns c =
    all_from_yields_List _ _ _ _ c.all.ensures.ran (YieldsList-from_range 0 (c.args.stack.now.count + 1) (c.args.stack.now.count + 1) refl (omega arith)) (λ x b q k. search (rules, tests))
    ∙ spread_is c.args.stack.now c.requires c.args.positions.now (search rules) c.args.spread
