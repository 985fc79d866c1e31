-- grow_strip meets its contract: the loop keeps StripGrown, and the growing ends of the strip above for smaller totals. Assumes nothing.
use mathlib.Core.Path.{◌≡◌}
use Prim.Native.Nat.{ℕ, ◌<◌}
use Rattle.arrays.specs.Arrays.{entry}
use Rattle.growth.specs.Growth.{StripGrown}
use Rattle.growth.proofs.StripGiven.grow_strip.Given as goal

abbrev pub invariant-loop-v : goal.invariant-loop-v
invariant-loop-v l = StripGrown l.self.limits.now l.first l.v l.end l.self.own l.self.table.now l.initial.grows l.grows l.before l.empty l.jump × ((u : ℕ) → u < l.v → entry l.grows u ≡ entry l.initial.grows u)
