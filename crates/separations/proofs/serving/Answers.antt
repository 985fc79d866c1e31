-- serving meets its contract: what is found is the first separation that serves. Assumes nothing.
use Rattle.std.proofs.Common.{rules, tests, refl, ◌-◌, ◌∙◌, arith}
use Rattle.std.proofs.lemmas.Iterator.{YieldsList-from_range}
use Rattle.std.proofs.lemmas.Iterator.Search.{find_from_yields_List}
use Rattle.spans.specs.Solver.{stop, serves, first_serving}
use Rattle.arrays.specs.Arrays.{bias, low_in, high_in, span_at}
use Rattle.arrays.proofs.Searches.{found_first}
use Rattle.separations.proofs.serving.Goals as goal

pub returns : goal.returns
unfolding first_serving serves
returns c =
    let a = c.args in
    let n = stop a.last a.v - a.least in
    let f = serves bias (low_in a.limits.now) (high_in a.limits.now) a.above (span_at a.spans.now) a.s a.v in
    c.unwrap_or.ensures
    ∙ found_first f a.least n c.max.result c.find.result
    (find_from_yields_List f _ _ _ c.find.ensures.ran (YieldsList-from_range a.least c.stop-end.result n refl (omega (arith, c.stop-end.ensures))) (λ x b q k. search (rules, tests)))
    (omega (arith, c.max.ensures, c.stop-end.ensures))
