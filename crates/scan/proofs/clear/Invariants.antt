-- clear meets its contract: the rows are two each, and the first i of them are cleared. Assumes nothing.
use Rattle.std.proofs.Common.{◌≡◌, ℕ, ◌≤◌, ◌<◌}
use Rattle.arrays.specs.Arrays.{window_at, spans_of, span_in, TwoRows}
use Rattle.scan.specs.Scan.{none_in}
use Rattle.scan.proofs.clear.Given as goal

abbrev pub invariant-loop-i : goal.invariant-loop-i
invariant-loop-i l =
    ((j : ℕ) → j < l.fn.given.channels → TwoRows (spans_of l.spans-items j))
    × ((j u : ℕ) → j < l.i → u ≤ l.cap → span_in l.spans-items j u ≡ none_in (window_at l.given.windows j))
