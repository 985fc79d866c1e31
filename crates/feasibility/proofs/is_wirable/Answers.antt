-- is_wirable meets its contract: its test is made of each pair that has one t places on. Assumes nothing.
use mathlib.Core.Path.{refl, ◌∙◌}
use Prim.Native.Nat.{◌-◌}
use native.Mathlib.Omega.{arith}
use Rattle.std.proofs.Common.{rules, tests}
use Rattle.std.proofs.lemmas.Iterator.{YieldsList-from_range}
use Rattle.std.proofs.lemmas.Iterator.Search.{all_from_yields_List}
use Rattle.feasibility.proofs.Trying.{all_clear_is}
use Rattle.feasibility.proofs.is_wirable.Goals as goal

pub returns : goal.returns
returns c =
    all_from_yields_List _ _ _ _ c.all.ensures.ran (YieldsList-from_range 0 c.saturating_sub.result (c.args.terminals.now.count - c.args.t.0) refl (omega (arith, c.saturating_sub.ensures))) (λ x b q k. search (rules, tests))
    ∙ all_clear_is c.args.terminals.now c.args.t.0 c.args.lower.0 c.args.upper.0
