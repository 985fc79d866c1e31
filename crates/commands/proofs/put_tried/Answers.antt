-- put_tried meets its contract: the text's refusal, none for numbers that do not fit, or the verdict. Assumes nothing.
use native.Mathlib.Omega.{arith}
use mathlib.Core.Path.{refl, ◌∙◌}
use Rattle.stack.proofs.Within.{few_channels}
use Rattle.text.proofs.Refusals.{exit_is}
use borrow.Author.Rules.{rules}
use Rattle.nabetsu.proofs.Numbers.{tracks_mapped, columns_mapped}
use Rattle.commands.proofs.Printing.{trial_refused, trial_misfit, trial_verdict}
use Rattle.commands.proofs.Trials.{separations_put, positions_put}
use Rattle.commands.proofs.put_tried.Goals as goal

pub overflow_mul-k : goal.overflow_mul-k
overflow_mul-k c = omega (arith, few_channels c.in_ok-stack.stack c.in_ok-stack.ensures.within)

pub overflow_add-k : goal.overflow_add-k
overflow_add-k c = omega (arith, few_channels c.in_ok-stack.stack c.in_ok-stack.ensures.within)

pub returns-then-numbers-k : goal.returns-then-numbers-k
returns-then-numbers-k c = trial_misfit _ c.in_ok-stack.stack c.in_ok-stack.ensures _ c.args.numbers.now c.if-numbers-k.true

pub returns-in_err-legal : goal.returns-in_err-legal
returns-in_err-legal c =
    let few = few_channels c.in_ok-stack.stack c.in_ok-stack.ensures.within in
    let separations = separations_put _ c.args.numbers.now c.if-numbers-k.false few _ refl _ _ c.split_at.ensures.front (tracks_mapped _ 8 c.map.ensures.items (search rules) (λ p x r q m. search rules) ∙ c.padded.ensures) in
    let positions = positions_put _ c.args.numbers.now c.if-numbers-k.false few _ refl _ _ c.split_at.ensures.back (columns_mapped _ 9 c.map-2.ensures.items (search rules) (λ p x r q m. search rules) ∙ c.padded-2.ensures) in
    rw (exit_is c.from_residual-in_err-legal.result _ c.from_residual-in_err-legal.ensures.1) (trial_refused _ c.in_ok-stack.stack c.in_ok-stack.ensures _ _ c.if-numbers-k.false _ _ separations positions _ c.in_err-legal.ensures)

pub returns : goal.returns
returns c =
    let few = few_channels c.in_ok-stack.stack c.in_ok-stack.ensures.within in
    let separations = separations_put _ c.args.numbers.now c.if-numbers-k.false few _ refl _ _ c.split_at.ensures.front (tracks_mapped _ 8 c.map.ensures.items (search rules) (λ p x r q m. search rules) ∙ c.padded.ensures) in
    let positions = positions_put _ c.args.numbers.now c.if-numbers-k.false few _ refl _ _ c.split_at.ensures.back (columns_mapped _ 9 c.map-2.ensures.items (search rules) (λ p x r q m. search rules) ∙ c.padded-2.ensures) in
    trial_verdict _ c.in_ok-stack.stack c.in_ok-stack.ensures _ _ c.if-numbers-k.false _ _ separations positions c.in_ok-legal.legal c.in_ok-legal.ensures _ _ _ c.put_verdict.ensures
