use Rattle.std.proofs.Common.{arith}
use Rattle.band.proofs.Strips.{strip_step}
use Rattle.band.proofs.fill_strip.Goals as goal

pub loop-v-preserved : goal.loop-v-preserved
loop-v-preserved c = strip_step _ _ _ _ c.requires _ _ _ c.loop-v.invariant (omega arith) (omega arith) _ _ _ (rw c.at.ensures at c.scan_strip-short.ensures) c.count_empty-empty.ensures
