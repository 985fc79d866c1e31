-- TRUSTED. What the entries answer follows from their inputs alone, refusals too: two results promised for one input are the same, and of the output as it was
-- before only its length matters. A session answers as the text of the same stack does. And a trial says legal exactly if the placement can be drawn. Each
-- statement is a type; proofs/Alone.antt proves it. Document 01, "Reviewer's checklist" and "When a channel can be wired"; document 02, P6. Assumes nothing: these
-- are definitions.
use Rattle.std.specs.Prelude.{◌≡◌, true, List, ◌↔◌, ℕ, suc, ◌≤◌, length, take, drop}
use Rattle.stack.specs.Stack.{Stack}
use Rattle.routing.specs.Paths.{Drawable}
use Rattle.reply.specs.Told.{TableResult, written_in}
use Rattle.text.specs.Text.{text_refusal, stack_in}
use Rattle.text.specs.Outcome.{refusal_of}
use Rattle.trial.specs.Legal.{all_zero}
use Rattle.spread.specs.Answers.{TotalResult, PlacementResult, total_in, placed_total, separations_of, positions_of, TotalSays, PlacementSays}
use Rattle.stack_text.specs.StackText.{stack_text}
use Rattle.session.specs.Session.{Made, SessionTotalSays, SessionPlacementSays}
use Rattle.replay.specs.Replay.{StepsTotalSays, StepsPlacementSays}
use Rattle.nabetsu.specs.Entry.{TrialResult, legal_in, TableSays, TrialSays, TotalCoded, TableCoded, PlacementCoded}
use Rattle.nabetsu.specs.Pages.{PageSays, PageCoded}
use Rattle.nabetsu.specs.Sessions.{StepsTotalCoded, StepsPlacementCoded}

-- THE LEAST TOTAL: refusal and total
pub record SameTotal (r q : TotalResult) : Type 0 where
  pub refusals : refusal_of r ≡ refusal_of q
  pub totals : total_in r ≡ total_in q

unfoldable pub TotalSaysAlone : Type 0
TotalSaysAlone = (bs : List ℕ) (s : ℕ) (r q : TotalResult) → TotalSays bs s r → TotalSays bs s q → SameTotal r q

-- the same in one number
unfoldable pub TotalCodedAlone : Type 0
TotalCodedAlone = (bs : List ℕ) (s r q : ℕ) → TotalCoded bs s r → TotalCoded bs s q → r ≡ q

-- THE PLACEMENT FOR A TOTAL: refusal, total, separations and positions
pub record SamePlacement (r q : PlacementResult) : Type 0 where
  pub refusals : refusal_of r ≡ refusal_of q
  pub totals : placed_total r ≡ placed_total q
  pub separations : separations_of r ≡ separations_of q
  pub positions : positions_of r ≡ positions_of q

unfoldable pub PlacementSaysAlone : Type 0
PlacementSaysAlone = (bs : List ℕ) (s v : ℕ) (r q : PlacementResult) → PlacementSays bs s v r → PlacementSays bs s v q → SamePlacement r q

-- the same in numbers
unfoldable pub PlacementCodedAlone : Type 0
PlacementCodedAlone =
    (bs : List ℕ) (s v r q : ℕ) (o p x y : List ℕ) → length o ≡ length p → PlacementCoded bs s v r o x → PlacementCoded bs s v q p y → (r ≡ q) × (x ≡ y)

-- OF STEPS, likewise
unfoldable pub StepsTotalSaysAlone : Type 0
StepsTotalSaysAlone = (bs : List ℕ) (s : ℕ) (r q : TotalResult) → StepsTotalSays bs s r → StepsTotalSays bs s q → SameTotal r q

unfoldable pub StepsTotalCodedAlone : Type 0
StepsTotalCodedAlone = (bs : List ℕ) (s r q : ℕ) → StepsTotalCoded bs s r → StepsTotalCoded bs s q → r ≡ q

unfoldable pub StepsPlacementSaysAlone : Type 0
StepsPlacementSaysAlone =
    (bs : List ℕ) (s v : ℕ) (r q : PlacementResult) → StepsPlacementSays bs s v r → StepsPlacementSays bs s v q → SamePlacement r q

unfoldable pub StepsPlacementCodedAlone : Type 0
StepsPlacementCodedAlone =
    (bs : List ℕ) (s v r q : ℕ) (o p x y : List ℕ) → length o ≡ length p → StepsPlacementCoded bs s v r o x → StepsPlacementCoded bs s v q p y →
    (r ≡ q) × (x ≡ y)

-- OF A SESSION that steps have made, of two strips or more, and OF THE TEXT of the same stack: one result at every spread and for every total
unfoldable pub SessionSame : Type 0
SessionSame =
    (k : Stack) → Made k → 2 ≤ length k.strips → (s : ℕ) →
    ((r q : TotalResult) → SessionTotalSays k s r → TotalSays (stack_text k) s q → SameTotal r q)
    × ((v : ℕ) (r q : PlacementResult) → SessionPlacementSays k s v r → PlacementSays (stack_text k) s v q → SamePlacement r q)

-- THE TABLE: refusal, bytes written and every byte of the output
pub record SameTable (r q : TableResult) (x y : List ℕ) : Type 0 where
  pub refusals : refusal_of r ≡ refusal_of q
  pub written : written_in r ≡ written_in q
  pub outputs : x ≡ y

unfoldable pub TableAlone : Type 0
TableAlone =
    (bs : List ℕ) (r q : TableResult) (o p x y : List ℕ) → length o ≡ length p → TableSays bs r o x → TableSays bs q p y → SameTable r q x y

-- the same in one number
unfoldable pub CodedAlone : Type 0
CodedAlone =
    (bs : List ℕ) (r q : ℕ) (o p x y : List ℕ) → length o ≡ length p → TableCoded bs r o x → TableCoded bs q p y → (r ≡ q) × (x ≡ y)

-- THE PAGE, likewise
unfoldable pub PageAlone : Type 0
PageAlone =
    (bs : List ℕ) (s n : ℕ) (r q : TableResult) (o p x y : List ℕ) → length o ≡ length p → PageSays bs s n r o x → PageSays bs s n q p y → SameTable r q x y

unfoldable pub PageCodedAlone : Type 0
PageCodedAlone =
    (bs : List ℕ) (s n r q : ℕ) (o p x y : List ℕ) → length o ≡ length p → PageCoded bs s n r o x → PageCoded bs s n q p y → (r ≡ q) × (x ≡ y)

-- THE TRIAL: refusal and verdict
pub record SameTrial (r q : TrialResult) : Type 0 where
  pub refusals : refusal_of r ≡ refusal_of q
  pub verdicts : legal_in r ≡ legal_in q

unfoldable pub TrialAlone : Type 0
TrialAlone = (bs : List ℕ) (s : ℕ) (ts xs : List ℕ) (r q : TrialResult) → TrialSays bs s ts xs r → TrialSays bs s ts xs q → SameTrial r q

-- zeros in the unused places, and the placement in the others can be drawn
pub record PlacementDrawable (k : Stack) (s : ℕ) (ts xs : List ℕ) : Type 0 where
  pub separations_unused : all_zero (drop (length k.channels) ts) ≡ true
  pub positions_unused : all_zero (drop (suc (length k.channels)) xs) ≡ true
  pub drawable : Drawable k s (take (length k.channels) ts) (take (suc (length k.channels)) xs)

unfoldable pub TrialDrawable : Type 0
TrialDrawable =
    (bs : List ℕ) (s : ℕ) (ts xs : List ℕ) (r : TrialResult) → (text_refusal bs).number ≡ 0 → TrialSays bs s ts xs r →
    (legal_in r ≡ true) ↔ PlacementDrawable (stack_in bs) s ts xs
