-- Line by line, the highest track first. Assumes nothing.
use mathlib.Core.Path.{◌≡◌}
use Prim.Native.Nat.{◌+◌}
use Rattle.numbers.specs.Lists.{tabulate}
use Rattle.plot.specs.Drawing.{reached, track_drawn, LinesPut}
use Rattle.plot.proofs.put_tracks.Given as goal

abbrev pub invariant-loop-y : goal.invariant-loop-y
invariant-loop-y l = record {
  lines : LinesPut (λ y c. track_drawn l.levels l.t y c) l.t l.at (l.y + 1) l.initial.out l.out;
  above : l.ends ≡ tabulate 32 0 (λ j. reached l.levels (l.y + 1) j);
}
