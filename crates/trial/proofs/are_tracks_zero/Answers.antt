use mathlib.Core.Path.{◌∙◌}
use Rattle.std.proofs.Common.{rules, tests}
use Rattle.std.proofs.lemmas.Iterator.{YieldsList-from_slice}
use Rattle.std.proofs.lemmas.Iterator.Search.{all_from_yields_List}
use Rattle.stack.specs.declared.Tracks.{Tracks}
use Rattle.trial.proofs.Trying.{zeros_are}
use Rattle.trial.proofs.are_tracks_zero.Goals as goal

pub returns : goal.returns
returns c =
    all_from_yields_List _ _ _ _ c.all.ensures.ran (YieldsList-from_slice c.args.separations.now cc) (λ x b q k. search (rules, tests))
    ∙ zeros_are (λ (x : Tracks). x.0) c.args.separations.now
