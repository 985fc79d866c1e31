-- fill_windows meets its contract: the loop keeps WindowsIn, and a number that is above none of the growing ends. Assumes nothing.
use Rattle.std.proofs.Common.{◌≡◌, ℕ}
use Rattle.stack.specs.Value.{stack_of}
use Rattle.arrays.specs.Arrays.{unless_zero}
use Rattle.answer.specs.Arrays.{WindowsIn, BelowGrowths}
use Rattle.answer.proofs.fill_windows.Given as goal

abbrev pub invariant-loop-i : goal.invariant-loop-i
invariant-loop-i l = WindowsIn (stack_of l.stack) l.i l.spread l.windows × ((least : ℕ) × (l.least ≡ unless_zero least) × BelowGrowths (stack_of l.stack) l.i l.spread least)
