-- nabetsu_least_total meets its contract. Assumes nothing.
use Rattle.spread.specs.Answers.{total_in}
use Rattle.std.proofs.Common.{rules}
use Rattle.nabetsu.proofs.Codes.{answer_coded}
use Rattle.nabetsu.proofs.nabetsu_least_total.Goals as goal

pub returns : goal.returns
returns c = record { answer = c.least_total.result; says = c.least_total.ensures.total_says; coded = answer_coded total_in c.least_total.result _ _ _ c.map_or_else.ensures (λ x p. search rules) (λ e q v. search rules) }
