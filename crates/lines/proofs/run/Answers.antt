-- run meets its contract. Assumes nothing.
use Rattle.std.proofs.Common.{◌≡◌, ℕ, Some, None, cond, ltb, eqb, length, rules, tests, ◌∙◌}
use Rattle.std.specs.List.{position_or_len}
use Rattle.std.proofs.lemmas.Iterator.{YieldsList-from_slice}
use Rattle.std.proofs.lemmas.Iterator.Search.{position_from_yields_List}
use Rattle.lines.proofs.Cutting.{place_run}
use Rattle.lines.proofs.run.Goals as goal

pub returns : goal.returns
returns c =
    let xs = c.args.bytes.now in
    let test = λ (x : ℕ). eqb x c.args.b in
    let at : c.position.result ≡ cond (ltb (position_or_len test xs) (length xs)) (Some (position_or_len test xs)) None =
    position_from_yields_List test _ _ _ c.position.ensures.ran (YieldsList-from_slice xs cc) (λ x b q k. search (rules, tests)) in
    c.unwrap_or.ensures ∙ place_run c.args.b xs c.position.result at
