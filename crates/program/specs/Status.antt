-- How the status is passed on by what prints. Assumes nothing: these are definitions.
use Rattle.std.specs.Prelude.{◌≡◌, List, ℕ, Result, Ok, Err, IfOk}
use Rattle.text.specs.Outcome.{refusal_of}
use Rattle.spread.specs.Answers.{PlacementResult, PlacementSays}
use Rattle.commands.specs.Output.{status_number, status_of}
use Rattle.commands.specs.declared.Status.{Status}
use Rattle.program.specs.declared.Said.{Said}

-- the status of what was printed, or a failure to print that was said, for which the program's status is 2
abbrev pub PassedOn : (status : ℕ) → Result Status Said → Type 0
PassedOn s r = IfOk r (λ t. status_number t ≡ s)

-- the exit status: that of what was printed, 2 where a failure was said
abbrev pub exit_status : Result Status Said → ℕ
exit_status (Ok t) = status_number t
exit_status (Err s) = 2

-- for a placement the status of what is answered
pub record PlacePassedOn (bs : List ℕ) (s v : ℕ) (result : Result Status Said) : Type 0 where
  pub answer : PlacementResult
  pub says : PlacementSays bs s v answer
  pub passed : PassedOn (status_of (refusal_of answer)) result
