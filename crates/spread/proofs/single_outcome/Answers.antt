-- single_outcome meets its contract: the first spread of a single strip is its length. Assumes nothing.
use mathlib.Core.Path.{sym, ◌∙◌}
use Rattle.spread.proofs.Single.{narrow_one}
use Rattle.spread.proofs.single_outcome.Goals as goal

pub returns : goal.returns
returns c = c.narrow_outcome.ensures ∙ sym (narrow_one _ _)
