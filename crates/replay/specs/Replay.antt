-- TRUSTED. A session's steps replayed from their text, line by line, and what a spread answers then. Document 02, P6. Assumes nothing: these are definitions.
use Rattle.std.specs.Prelude.{Bool, true, false, cond, Option, None, Some, is_some, List, [], ◌∷◌, ℕ, suc, ltb, length}
use Rattle.lines.specs.Lines.{Line, lines, numbers_of}
use Rattle.stack.specs.Stack.{Stack}
use Rattle.text.specs.Text.{Refusal, refusal, fine, or_else}
use Rattle.spread.specs.Answers.{TotalResult, PlacementResult, TotalOr, PlacementOr}
use Rattle.steps.specs.Steps.{step_line}
use Rattle.steps.specs.declared.StepLine.{StepLine}
use Rattle.steps.specs.declared.StepLine.TheVariants.{BeginPart, AddPart, AddNets, Begin, Add, Off}
use Rattle.session.specs.Session.{nothing, Step, begin, add, off, step_refusal, after, Made, session_refusal}

-- WHERE A REPLAY IS: what the session holds, what the last line is refused for, and what that line is, if it is a line of a step
pub record State : Type 0 where
  pub held : Stack
  pub refused : Refusal
  pub line : Option StepLine

unfoldable pub state : Stack → Refusal → Option StepLine → State
state k f x = record { held = k; refused = f; line = x }

unfoldable pub start : State
start = state nothing fine None

unfoldable pub stepped : Stack → Step → StepLine → State
stepped k a x = state (after k a) (step_refusal k a) (Some x)

-- LINE n: a step that it makes whole is taken; a line of no step is 2, and the session stays
unfoldable pub told : (n : ℕ) → Stack → Option StepLine → (terminals : List ℕ) → State
told n k None ns = state k (refusal 2 n 0) None
told n k (Some BeginPart) ns = state k fine (Some BeginPart)
told n k (Some AddPart) ns = state k fine (Some AddPart)
told n k (Some (AddNets l)) ns = state k fine (Some (AddNets l))
told n k (Some (Begin l)) ns = stepped k (begin l) (Begin l)
told n k (Some (Add l c)) ns = stepped k (add l ns) (Add l c)
told n k (Some Off) ns = stepped k off Off

unfoldable pub line_taken : (n : ℕ) → State → Line → State
line_taken n r l = told n r.held (step_line r.line l) (numbers_of l)

-- a further line of the step is awaited
abbrev pub awaits : Option StepLine → Bool
awaits None = false
awaits (Some BeginPart) = true
awaits (Some AddPart) = true
awaits (Some (AddNets l)) = true
awaits (Some (Begin l)) = false
awaits (Some (Add l c)) = false
awaits (Some Off) = false

-- LINES from line n on, up to the first that is no line of a step; a line that is missing at the end is 2 where it was due
unfoldable pub replay : (n : ℕ) → State → List Line → State
replay n r [] = cond (awaits r.line) (state r.held (refusal 2 n 0) None) r
replay n r (l ∷ ls) = cond (is_some (line_taken n r l).line) (replay (suc n) (line_taken n r l) ls) (line_taken n r l)

-- THE TEXT OF STEPS: overlong, 1; then its lines
unfoldable pub replayed : List ℕ → State
replayed bs = cond (ltb 8192 (length bs)) (state nothing (refusal 1 0 0) None) (replay 1 start (lines bs))

-- A SPREAD: the text's refusals and the last step's, then 13 and 7
unfoldable pub steps_refusal : List ℕ → (s : ℕ) → Refusal
steps_refusal bs s = or_else (replayed bs).refused (session_refusal (replayed bs).held s)

unfoldable pub StepsTotalSays : List ℕ → (s : ℕ) → TotalResult → Type 0
StepsTotalSays bs s r = TotalOr (steps_refusal bs s) (replayed bs).held s r

unfoldable pub StepsPlacementSays : List ℕ → (s v : ℕ) → PlacementResult → Type 0
StepsPlacementSays bs s v r = PlacementOr (steps_refusal bs s) (replayed bs).held s v r

-- STATEMENT: whatever the text, what is held then steps have made from an empty session
unfoldable pub ReplayedMade : Type 0
ReplayedMade = (bs : List ℕ) → Made (replayed bs).held
