-- refused_table meets its contract: all is cleared. Assumes nothing.
use mathlib.Core.Path.{refl, ◌∙◌}
use Rattle.writing.proofs.Lines.{cleared_all}
use Rattle.reply.specs.Told.{zeros}
use Rattle.reply.proofs.refused_table.Goals as goal

pub returns : goal.returns
unfolding zeros
returns c = record { refused = refl; cleared = c.clear_from.ensures ∙ cleared_all _ }
