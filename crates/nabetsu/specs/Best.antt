-- TRUSTED. The third demand said of what least_total and place_total themselves return, and what one spread was answered before they were two.
-- Assumes nothing: these are definitions.
use Rattle.std.specs.Prelude.{List, ℕ}
use Rattle.text.specs.Text.{stack_in}
use Rattle.spread.specs.Answers.{TotalResult, PlacementResult, spread_refusal}
use Rattle.spread.specs.Best.{BestTotal, BestPlacement, AnsweredOr}

abbrev pub TotalBest : List ℕ → (s : ℕ) → TotalResult → Type 0
TotalBest bs s r = BestTotal (spread_refusal bs s) (stack_in bs) s r

abbrev pub PlacementBest : List ℕ → (s v : ℕ) → PlacementResult → Type 0
PlacementBest bs s v r = BestPlacement (spread_refusal bs s) (stack_in bs) s v r

-- ONE SPREAD as it was answered before P3: BothTogether in Promise.antt
unfoldable pub SpreadSays : List ℕ → (s : ℕ) → PlacementResult → Type 0
SpreadSays bs s r = AnsweredOr (spread_refusal bs s) (stack_in bs) s r
