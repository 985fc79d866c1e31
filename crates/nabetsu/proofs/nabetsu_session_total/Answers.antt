-- nabetsu_session_total meets its contract. Assumes nothing.
use Rattle.spread.specs.Answers.{total_in}
use Rattle.std.proofs.Common.{rules}
use Rattle.nabetsu.proofs.Codes.{answer_coded}
use Rattle.nabetsu.proofs.nabetsu_session_total.Goals as goal

pub returns : goal.returns
returns c = record { answer = c.session_total.result; says = c.session_total.ensures.steps_total_says; coded = answer_coded total_in c.session_total.result _ _ _ c.map_or_else.ensures (λ x p. search rules) (λ e q v. search rules) }
