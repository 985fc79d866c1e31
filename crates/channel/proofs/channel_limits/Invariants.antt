-- channel_limits meets its contract: the loop keeps Filling. Assumes nothing.
use Rattle.channel.specs.Seeking.{low_found, high_found, Filling}
use Rattle.channel.proofs.channel_limits.Given as goal

abbrev pub invariant-loop-t : goal.invariant-loop-t
invariant-loop-t l = Filling (λ s. low_found l.p l.q_on s) (λ s. high_found l.p_on l.q s) l.pairs l.t l.low l.high
