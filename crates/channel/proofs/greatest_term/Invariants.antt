-- greatest_term meets its contract: the greatest of the first i terms is known. Assumes nothing.
use mathlib.Core.Path.{◌≡◌}
use Rattle.limits.specs.Limits.{greatest}
use Rattle.channel.specs.Seeking.{term_bias, paired}
use Rattle.channel.proofs.greatest_term.Given as goal

abbrev pub invariant-loop-i : goal.invariant-loop-i
invariant-loop-i l = l.greatest ≡ greatest term_bias (paired l.p l.q) l.t l.i
