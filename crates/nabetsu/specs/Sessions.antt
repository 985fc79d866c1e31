-- TRUSTED. What the entries for sessions answer: of a text of steps, in numbers for callers in other languages. Document 02, P6. Assumes nothing: these are definitions.
use Rattle.std.specs.Prelude.{◌≡◌, List, ℕ, leb, length}
use Rattle.text.specs.Outcome.{refusal_of}
use Rattle.spread.specs.Answers.{TotalResult, PlacementResult, total_in}
use Rattle.spread.specs.Best.{BestTotal, BestPlacement}
use Rattle.replay.specs.Replay.{replayed, steps_refusal, StepsTotalSays, StepsPlacementSays}
use Rattle.nabetsu.specs.Entry.{code, NumbersPut}

-- the third demand of what is returned
abbrev pub StepsTotalBest : List ℕ → (s : ℕ) → TotalResult → Type 0
StepsTotalBest bs s r = BestTotal (steps_refusal bs s) (replayed bs).held s r

abbrev pub StepsPlacementBest : List ℕ → (s v : ℕ) → PlacementResult → Type 0
StepsPlacementBest bs s v r = BestPlacement (steps_refusal bs s) (replayed bs).held s v r

-- the same in numbers
pub record StepsTotalCoded (bs : List ℕ) (s r : ℕ) : Type 0 where
  pub answer : TotalResult
  pub says : StepsTotalSays bs s answer
  pub coded : r ≡ code (refusal_of answer) (total_in answer)

pub record StepsPlacementCoded (bs : List ℕ) (s v r : ℕ) (o o_now : List ℕ) : Type 0 where
  pub answer : PlacementResult
  pub says : StepsPlacementSays bs s v answer
  pub put : NumbersPut (leb 18 (length o)) answer r o o_now
