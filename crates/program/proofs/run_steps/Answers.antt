-- Before the first line nothing is read, and steps have made what is held. Assumes nothing.
use Rattle.std.proofs.Common.{arith}
use Rattle.program.proofs.Lines.{start_made}
use Rattle.program.proofs.run_steps.Goals as goal

pub loop-n-init : goal.loop-n-init
loop-n-init c = record { begins = omega arith; made = start_made _ c.start-replay.ensures }
