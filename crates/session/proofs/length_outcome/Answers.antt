-- length_outcome meets its contract. Assumes nothing.
use mathlib.Core.Path.{◌∙◌}
use Rattle.session.specs.Session.{length_refusal}
use Rattle.session.proofs.Steps.{outcome_is}
use Rattle.session.proofs.length_outcome.Goals as goal

pub returns : goal.returns
unfolding length_refusal
returns c = outcome_is _ _ c.and.ensures ∙ c.part_content.ensures.outcome
