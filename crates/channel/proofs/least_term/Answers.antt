use native.Mathlib.Omega.{arith}
use Rattle.channel.proofs.Terms.{most_small}
use Rattle.channel.proofs.least_term.Goals as goal

pub overflow_sub-result : goal.overflow_sub-result
overflow_sub-result c =
    omega (arith, most_small c.args.p.now c.args.q.now c.args.t c.requires.tracks c.requires.p_small c.requires.q_small c.greatest_term.result c.greatest_term.ensures)
