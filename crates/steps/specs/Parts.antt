-- What the reader of the lines of steps answers. Assumes nothing: these are definitions.
use Rattle.std.specs.Prelude.{◌≡◌, Option, Some, List, ℕ}
use Rattle.lines.specs.Lines.{Line, numbers_of}
use Rattle.lines.specs.Numbers.{in_places}
use Rattle.steps.specs.Steps.{step_line}
use Rattle.steps.specs.declared.StepLine.{StepLine}
use Rattle.steps.specs.declared.StepLine.TheVariants.{Add}

-- what a line is behind another; where it makes the step Add whole, its terminals
pub record IsStepLineRead (before : Option StepLine) (l : Line) (r : Option StepLine) (values : List ℕ) : Type 0 where
  pub line_is : r ≡ step_line before l
  pub kept : (n c : ℕ) → r ≡ Some (Add n c) → values ≡ in_places 64 (numbers_of l)
