-- What is put of an answer, before it is known whether a refusal's line stands in its place. Assumes nothing: these are definitions.
use Rattle.std.specs.Prelude.{◌≡◌, List, ℕ, length, Option, Some, None, Result, Ok, Err, IfOk}
use Rattle.text.specs.Text.{Refusal, refusal, or_else, text_refusal}
use Rattle.text.specs.Outcome.{number_of, refusal_of}
use Rattle.text.specs.declared.Refused.{Refused}
use Rattle.stack.specs.Stack.{Stack}
use Rattle.writing.specs.TableText.{total_text}
use Rattle.writing.specs.Output.{LinePut}
use Rattle.spread.specs.Answers.{TotalResult, PlacementResult, total_in, spread_refusal, TotalSays, PlacementSays}
use Rattle.spread.specs.Best.{AnsweredOr}
use Rattle.session.specs.Session.{session_refusal}
use Rattle.nabetsu.specs.Best.{SpreadSays}
use Rattle.commands.specs.Output.{Replied, placed_text, channels, trial_text, trial_status}
use Rattle.commands.specs.declared.Reply.{Reply}

-- what is put already, or a refusal's line whatever the text was
abbrev pub Concluded : (put : Result ℕ Refused) → (before after : List ℕ) → Reply → Type 0
Concluded (Ok n) x out r = (out ≡ x) × (r ≡ record { length = n; outcome = Ok tt })
Concluded (Err e) x out r = (t : List ℕ) → Replied (refusal (number_of e.why) e.line e.field) t out r

-- a line, or a refusal
pub record LineOr (f : Refusal) (t before after : List ℕ) (r : Result ℕ Refused) : Type 0 where
  pub refused : refusal_of r ≡ f
  pub put : IfOk r (λ n. LinePut t before after n)

pub record TotalPut (bs : List ℕ) (s : ℕ) (before after : List ℕ) (r : Result ℕ Refused) : Type 0 where
  pub answer : TotalResult
  pub says : TotalSays bs s answer
  pub line : LineOr (spread_refusal bs s) (total_text (total_in answer)) before after r

pub record PlacementPut (bs : List ℕ) (s v : ℕ) (before after : List ℕ) (r : Result ℕ Refused) : Type 0 where
  pub answer : PlacementResult
  pub says : PlacementSays bs s v answer
  pub line : LineOr (refusal_of answer) (placed_text (channels bs) s answer) before after r

pub record SpreadPut (bs : List ℕ) (s : ℕ) (before after : List ℕ) (r : Result ℕ Refused) : Type 0 where
  pub answer : PlacementResult
  pub says : SpreadSays bs s answer
  pub line : LineOr (spread_refusal bs s) (placed_text (channels bs) s answer) before after r

pub record StepPut (f : Refusal) (k : Stack) (s : ℕ) (before after : List ℕ) (r : Result ℕ Refused) : Type 0 where
  pub answer : PlacementResult
  pub says : AnsweredOr (or_else f (session_refusal k s)) k s answer
  pub line : LineOr (or_else f (session_refusal k s)) (placed_text (length k.channels) s answer) before after r

-- the verdict, or the text's refusal; none where the numbers are not those of k channels
abbrev pub TrialPut : List ℕ → (count : ℕ) → (numbers before after : List ℕ) → Result (Option ℕ) Refused → Type 0
TrialPut bs n vs o x (Ok (Some m)) = (text_refusal bs).number ≡ 0 × (trial_status bs n ≡ 0) × LinePut (trial_text bs n vs) o x m
TrialPut bs n vs o x (Ok None) = trial_status bs n ≡ 2
TrialPut bs n vs o x (Err e) = refusal (number_of e.why) e.line e.field ≡ text_refusal bs
