-- TRUSTED. The third demand said of the total and the placement that are returned for one spread of a stack; and both together. Assumes nothing: these are
-- definitions.
use Rattle.std.specs.Prelude.{◌≡◌, List, [], ℕ, zero, suc, ◌≤◌, length, take}
use Rattle.stack.specs.Stack.{Stack, Answer, sum}
use Rattle.routing.specs.Paths.{Drawable}
use Rattle.text.specs.Text.{Refusal}
use Rattle.text.specs.Outcome.{refusal_of}
use Rattle.spread.specs.Answers.{TotalResult, PlacementResult, total_in, placed_total, separations_of, positions_of, placed_is}

-- a placement that can be drawn and has exactly this total
pub record DrawnWith (k : Stack) (s v : ℕ) : Type 0 where
  pub separations : List ℕ
  pub positions : List ℕ
  pub drawable : Drawable k s separations positions
  pub exact : sum separations ≡ v

-- where nothing is refused, THE TOTAL RETURNED is the least of all drawable placements in that spread, however their paths run
pub record BestTotal (f : Refusal) (k : Stack) (s : ℕ) (r : TotalResult) : Type 0 where
  pub drawn : f.number ≡ 0 → DrawnWith k s (total_in r)
  pub none_smaller : f.number ≡ 0 → (us ys : List ℕ) → Drawable k s us ys → total_in r ≤ sum us

-- where nothing is refused, THE PLACEMENT RETURNED can be drawn and has the stated total; where only the total is refused, no drawable placement has it
pub record BestPlacement (f : Refusal) (k : Stack) (s v : ℕ) (r : PlacementResult) : Type 0 where
  pub drawable :
      (refusal_of r).number ≡ 0
      → Drawable k s (take (length k.channels) (separations_of r)) (take (suc (length k.channels)) (positions_of r))
  pub total_is : (refusal_of r).number ≡ 0 → (placed_total r ≡ v) × (sum (separations_of r) ≡ v)
  pub none_drawn : f.number ≡ 0 → (refusal_of r).number ≡ 10 → DrawnWith k s v → ⊥

-- ONE SPREAD as it was answered before P3: the answer with its total, or a refusal with zeros elsewhere. Total and placement together still give it
unfoldable pub Answered : (number : ℕ) → Refusal → Stack → (s : ℕ) → PlacementResult → Type 0
Answered zero f k s r = (ts : List ℕ) × (xs : List ℕ) × Answer k s ts xs × placed_is f (sum ts) ts xs r
Answered (suc n) f k s r = placed_is f 0 [] [] r

abbrev pub AnsweredOr : Refusal → Stack → (s : ℕ) → PlacementResult → Type 0
AnsweredOr f k s r = Answered f.number f k s r
