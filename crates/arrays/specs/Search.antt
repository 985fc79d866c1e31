-- The invariant of a loop that searches: what is still to be looked at gives the same find. Assumes nothing: this is a definition.
use Rattle.std.specs.Prelude.{◌≡◌, Bool, ℕ, ◌-◌}
use Rattle.spans.specs.Solver.{first}

-- a search for the first number below stop at which f is true, at q
pub record Searching (f : ℕ → Bool) (stop q found : ℕ) : Type 0 where
  pub left : first f q (stop - q) ≡ found
