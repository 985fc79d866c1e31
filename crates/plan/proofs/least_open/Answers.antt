-- least_open meets its contract: what is found is the first open separation. Assumes nothing.
use Rattle.std.proofs.Common.{rules, tests, refl, ◌+◌, suc, ◌∙◌, arith}
use Rattle.std.proofs.lemmas.Iterator.{YieldsList-from_range}
use Rattle.std.proofs.lemmas.Iterator.Search.{find_from_yields_List}
use Rattle.spans.specs.Solver.{opens, first_open}
use Rattle.arrays.specs.Arrays.{low_in, high_in}
use Rattle.arrays.proofs.Searches.{found_first}
use Rattle.plan.proofs.least_open.Goals as goal

pub returns : goal.returns
unfolding first_open
returns c =
    let a = c.args in
    c.unwrap_or.ensures
    ∙ found_first (opens (low_in a.limits.now) (high_in a.limits.now)) 0 (suc a.last) (a.last + 1) c.find.result
    (find_from_yields_List (opens (low_in a.limits.now) (high_in a.limits.now)) _ _ _ c.find.ensures.ran (YieldsList-from_range 0 (a.last + 1) (suc a.last) refl (omega arith)) (λ x b q k. search (rules, tests)))
    (omega arith)
