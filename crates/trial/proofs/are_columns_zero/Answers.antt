use mathlib.Core.Path.{◌∙◌}
use Rattle.std.proofs.Common.{rules, tests}
use Rattle.std.proofs.lemmas.Iterator.{YieldsList-from_slice}
use Rattle.std.proofs.lemmas.Iterator.Search.{all_from_yields_List}
use Rattle.stack.specs.declared.Columns.{Columns}
use Rattle.trial.proofs.Trying.{zeros_are}
use Rattle.trial.proofs.are_columns_zero.Goals as goal

pub returns : goal.returns
returns c =
    all_from_yields_List _ _ _ _ c.all.ensures.ran (YieldsList-from_slice c.args.positions.now cc) (λ x b q k. search (rules, tests))
    ∙ zeros_are (λ (x : Columns). x.0) c.args.positions.now
