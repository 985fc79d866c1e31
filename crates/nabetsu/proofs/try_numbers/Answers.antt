-- try_numbers meets its contract: other numbers than seventeen are no placement; seventeen are tried. Assumes nothing.
use mathlib.Core.Path.{◌≡◌, ◌∙◌}
use borrow.Author.Rules.{rules}
use Rattle.stack.specs.Value.{tracks_of, columns_of}
use Rattle.text.proofs.Refusals.{exit_is}
use Rattle.nabetsu.proofs.Numbers.{numbers_refused, numbers_other, numbers_tried, tracks_mapped, columns_mapped}
use Rattle.nabetsu.proofs.try_numbers.Goals as goal

pub returns-in_err-read_stack : goal.returns-in_err-read_stack
returns-in_err-read_stack c = rw (exit_is c.from_residual.result _ c.from_residual.ensures.1) (numbers_refused _ _ _ _ c.in_err-read_stack.ensures.outcome c.if-placement.true)

pub returns-then-placement : goal.returns-then-placement
returns-then-placement c = numbers_other _ _ _ c.in_ok-read_stack.ensures.outcome c.if-placement.true

pub returns : goal.returns
returns c =
    let separations : tracks_of c.map.result ≡ c.padded.result = tracks_mapped _ 8 c.map.ensures.items (search rules) (λ p x r q m. search rules) in
    let positions : columns_of c.map-2.result ≡ c.padded-2.result = columns_mapped _ 9 c.map-2.ensures.items (search rules) (λ p x r q m. search rules) in
    numbers_tried _ _ _ _ _ _ c.if-placement.false _ _ (separations ∙ c.padded.ensures) (positions ∙ c.padded-2.ensures) (search rules) (search rules) c.try_placement.ensures
