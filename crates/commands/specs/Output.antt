-- What is printed, a table, a total, a row, a page or a verdict, or the line of a refusal; the words that are said of a refusal; and the exit status. Assumes
-- nothing: these are definitions.
use Rattle.std.specs.Prelude.{◌≡◌, Bool, cond, List, [], ◌∷◌, ℕ, ◌+◌, ◌*◌, ◌-◌, ◌≤◌, eqb, length, get_or, take, Option, Some, None, Result, Ok, Err}
use Rattle.numbers.specs.Lists.{filled}
use Rattle.stack.specs.Stack.{Stack, Row, RowsAre, Answer}
use Rattle.text.specs.Text.{Refusal, or_else, text_refusal, stack_in}
use Rattle.text.specs.Outcome.{refusal_of}
use Rattle.text.specs.declared.Refused.{Refused as RefusedStruct}
use Rattle.writing.specs.TableText.{row_text, table_text, total_text, refusal_text}
use Rattle.writing.specs.Output.{row_of}
use Rattle.trial.specs.Legal.{is_legal}
use Rattle.page.specs.Page.{channel_page}
use Rattle.complaint.specs.Complaint.{complaint}
use Rattle.spread.specs.Answers.{TotalResult, PlacementResult, total_in, spread_refusal, TotalSays, PlacementSays}
use Rattle.spread.specs.Best.{AnsweredOr}
use Rattle.session.specs.Session.{session_refusal}
use Rattle.nabetsu.specs.Best.{SpreadSays}
use Rattle.nabetsu.specs.Pages.{page_refusal}
use Rattle.commands.specs.declared.Status.{Status}
use Rattle.commands.specs.declared.Status.TheVariants.{Answered, Refused, Failed}
use Rattle.commands.specs.declared.Reply.{Reply}

-- the number of an exit status, and the status that goes with an outcome
abbrev pub status_number : Status → ℕ
status_number Answered = 0
status_number Refused = 1
status_number Failed = 2

abbrev pub status_after : Result Unit RefusedStruct → Status
status_after (Ok t) = Answered
status_after (Err r) = Refused

-- a text is the first bytes of an output, a status goes with it, and the words for what is refused, none where nothing is
pub record Printed (f : Refusal) (text : List ℕ) (status : ℕ) (output : List ℕ) (r : Reply) : Type 0 where
  pub counted : r.length ≡ length text
  pub within : r.length ≤ length output
  pub stands : take r.length output ≡ text
  pub with_status : status_number (status_after r.outcome) ≡ status
  pub in_words : complaint (refusal_of r.outcome) ≡ complaint f

-- a text, or where something is refused the refusal's line instead
unfoldable pub unless_refused : Refusal → List ℕ → List ℕ
unless_refused f t = cond (eqb f.number 0) t (refusal_text f.number f.line f.field)

-- the STATUS that goes with it: 0 for the text, 1 for the refusal's line
unfoldable pub status_of : Refusal → ℕ
status_of f = cond (eqb f.number 0) 0 1

abbrev pub Replied : Refusal → (text output : List ℕ) → Reply → Type 0
Replied f t o r = Printed f (unless_refused f t) (status_of f) o r

-- the row of a placement, where it is not refused
abbrev pub placed_text : (k s : ℕ) → PlacementResult → List ℕ
placed_text k s (Ok p) = row_text (row_of k s p.separations p.positions)
placed_text k s (Err r) = []

-- how many channels the stack in a text has
abbrev pub channels : List ℕ → ℕ
channels bs = length (stack_in bs).channels

-- THE TABLE: the refusal of the text, else the table of the stack's rows; the program's space is enough for every table, so 8 never happens
pub record TablePrinted (bs output : List ℕ) (r : Reply) : Type 0 where
  pub rows : List Row
  pub rows_are : (text_refusal bs).number ≡ 0 → RowsAre (stack_in bs) rows
  pub printed : Replied (text_refusal bs) (table_text (channels bs) rows) output r

-- THE LEAST TOTAL: that, then 7, else its digits
pub record TotalPrinted (bs : List ℕ) (s : ℕ) (output : List ℕ) (r : Reply) : Type 0 where
  pub answer : TotalResult
  pub says : TotalSays bs s answer
  pub printed : Replied (spread_refusal bs s) (total_text (total_in answer)) output r

-- THE PLACEMENT FOR A TOTAL: these, then 10, else its row
pub record PlacementPrinted (bs : List ℕ) (s v : ℕ) (output : List ℕ) (r : Reply) : Type 0 where
  pub answer : PlacementResult
  pub says : PlacementSays bs s v answer
  pub printed : Replied (refusal_of answer) (placed_text (channels bs) s answer) output r

-- ONE SPREAD: the refusal of the text, then 7, else the row of both together
pub record SpreadPrinted (bs : List ℕ) (s : ℕ) (output : List ℕ) (r : Reply) : Type 0 where
  pub answer : PlacementResult
  pub says : SpreadSays bs s answer
  pub printed : Replied (spread_refusal bs s) (placed_text (channels bs) s answer) output r

-- A SESSION'S STEP: its refusal, then 13 and 7 for the spread, else the row of both together for the stack that is held then
pub record StepPrinted (f : Refusal) (k : Stack) (s : ℕ) (output : List ℕ) (r : Reply) : Type 0 where
  pub answer : PlacementResult
  pub says : AnsweredOr (or_else f (session_refusal k s)) k s answer
  pub printed : Replied (or_else f (session_refusal k s)) (placed_text (length k.channels) s answer) output r

-- A PAGE: the refusal of the text, then 3, 7 and 9, else the page of the answer's channel; the space is enough for every page too
pub record PagePrinted (bs : List ℕ) (s channel : ℕ) (output : List ℕ) (r : Reply) : Type 0 where
  pub separations : List ℕ
  pub positions : List ℕ
  pub answered : (page_refusal bs s channel).number ≡ 0 → Answer (stack_in bs) s separations positions
  pub printed : Replied (page_refusal bs s channel) (channel_page (stack_in bs) separations positions (channel - 1)) output r

-- A TRIAL's numbers: the spread, k separations, k + 1 positions; zeros in unused places
unfoldable pub separations_in : (k : ℕ) → (numbers : List ℕ) → List ℕ
separations_in k vs = filled 8 k (λ i. get_or vs (1 + i) 0) 0

unfoldable pub positions_in : (k : ℕ) → (numbers : List ℕ) → List ℕ
positions_in k vs = filled 9 (k + 1) (λ i. get_or vs (1 + k + i) 0) 0

-- the verdict: legal or not legal, and a line feed
unfoldable pub verdict_text : Bool → List ℕ
verdict_text v =
    cond v (108 ∷ 101 ∷ 103 ∷ 97 ∷ 108 ∷ 10 ∷ []) (110 ∷ 111 ∷ 116 ∷ 32 ∷ 108 ∷ 101 ∷ 103 ∷ 97 ∷ 108 ∷ 10 ∷ [])

-- the refusal of the text, else the verdict; nothing where so many numbers are not those of k channels
unfoldable pub trial_text : List ℕ → (count : ℕ) → (numbers : List ℕ) → List ℕ
trial_text bs n vs =
    let k = channels bs in
    unless_refused (text_refusal bs)
    (cond (eqb n (2 * k + 2)) (verdict_text (is_legal (stack_in bs) (get_or vs 0 0) (separations_in k vs) (positions_in k vs))) [])

-- its status: 2 where they are not, which is said on standard error
unfoldable pub trial_status : List ℕ → (count : ℕ) → ℕ
trial_status bs n = cond (eqb (text_refusal bs).number 0) (cond (eqb n (2 * channels bs + 2)) 0 2) 1

-- THE TRIAL: nothing is printed, and another status goes with that, exactly if the numbers are not those of k channels
abbrev pub TrialPrinted : List ℕ → (count : ℕ) → (numbers output : List ℕ) → Option Reply → Type 0
TrialPrinted bs n vs o (Some r) = Printed (text_refusal bs) (trial_text bs n vs) (trial_status bs n) o r
TrialPrinted bs n vs o None = trial_status bs n ≡ 2
