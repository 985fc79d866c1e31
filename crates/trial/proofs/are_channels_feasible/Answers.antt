use mathlib.Core.Path.{refl, ◌∙◌}
use Prim.Native.Nat.{◌≤◌}
use Rattle.std.proofs.iter.Serving.{serving}
use native.Mathlib.Omega.{arith}
use Rattle.std.proofs.Common.{rules, tests}
use Rattle.std.proofs.lemmas.Iterator.{YieldsList-from_range}
use Rattle.std.proofs.lemmas.Iterator.Search.{all_from_yields_List}
use Rattle.stack.proofs.Within.{few_channels, few_pairs}
use Rattle.trial.proofs.Trying.{channels_are}
use Rattle.trial.proofs.are_channels_feasible.Goals as goal

pub all-requires-clause-callable : goal.all-requires-clause-callable
all-requires-clause-callable c =
    let few : c.args.stack.now.count ≤ 8 = few_channels c.args.stack.now c.requires in
    let pairs = few_pairs c.args.stack.now c.requires in
    grind (serving, few, pairs)

pub returns : goal.returns
returns c =
    all_from_yields_List _ _ _ _ c.all.ensures.ran (YieldsList-from_range 0 c.args.stack.now.count c.args.stack.now.count refl (omega arith)) (λ x b q k. search (rules, tests))
    ∙ channels_are c.args.stack.now (few_channels c.args.stack.now c.requires) c.args.separations.now c.args.positions.now (search rules) (search rules)
