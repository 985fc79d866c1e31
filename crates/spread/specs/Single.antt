-- A single free strip. Assumes nothing: these are definitions.
use Rattle.std.specs.Prelude.{[], ◌∷◌, ℕ}
use Rattle.stack.specs.Stack.{free, strip, Stack, stack}

abbrev pub one_strip : (length : ℕ) → Stack
one_strip l = stack (strip l free ∷ []) []
