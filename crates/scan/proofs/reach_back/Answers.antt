-- reach_back meets its contract: the ends are stretched by separation after separation. Assumes nothing.
use Rattle.std.proofs.iter.Serving.{serving}
use Rattle.std.proofs.Common.{rules, ◌-◌, refl}
use Rattle.std.proofs.lemmas.Iterator.{YieldsList-from_range}
use Rattle.std.proofs.lemmas.Iterator.Consumers.{fold_from_yields_List}
use Rattle.scan.proofs.Scanning.{folds_over_range, asked_at, stretched, ends_folded}
use Rattle.scan.proofs.reach_back.Goals as goal

pub fold-requires-clause-callable : goal.fold-requires-clause-callable
fold-requires-clause-callable c =
    let a = c.args in
    let e = c.requires.ends in
    folds_over_range (λ p x q k. search rules) (λ r x l h. let asked = asked_at a.limits.now a.spans.now a.v a.start a.stop x e l h in
    (grind (serving, asked), grind (serving, asked), grind (serving, asked), grind (serving, asked), grind (serving, asked), grind (serving, asked), grind (serving, asked)))

pub returns : goal.returns
returns c =
    let a = c.args in
    ends_folded a.limits.now a.spans.now a.v a.start a.stop a.before c.fold.result c.requires.near
    (fold_from_yields_List _ (stretched a.limits.now a.spans.now a.v) _ _ c.fold.ensures.ran (YieldsList-from_range a.start a.stop (a.stop - a.start) refl refl) (λ e q r g k. search rules))
