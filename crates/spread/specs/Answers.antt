-- TRUSTED. What is answered of one spread: the least total of a stack, and its placement for a stated total; the same of the stack in a text. Document 01, "Choosing
-- among equals"; document 02, P3. Assumes nothing: these are definitions.
use Rattle.std.specs.Prelude.{◌≡◌, List, [], ℕ, zero, suc, replicate, Result, Ok, Err}
use Rattle.numbers.specs.Lists.{padded}
use Rattle.stack.specs.Value.{tracks_of, columns_of}
use Rattle.stack.specs.Stack.{Stack, TotalMet, LeastTotal, Placement}
use Rattle.stack.specs.declared.Tracks.{Tracks}
use Rattle.text.specs.Text.{Refusal, refusal, fine, or_else, text_refusal, stack_in}
use Rattle.text.specs.Outcome.{refusal_of}
use Rattle.text.specs.declared.Refused.{Refused}
use Rattle.stack.specs.declared.Placement.{Placement as PlacementStruct}
use Rattle.reply.specs.Refusals.{narrow_refusal}

-- what is answered of a total, and of a placement
abbrev pub TotalResult : Type 0
TotalResult = Result Tracks Refused

abbrev pub PlacementResult : Type 0
PlacementResult = Result PlacementStruct Refused

-- the numbers of a result; of a refusal zeros
abbrev pub total_in : TotalResult → ℕ
total_in (Ok t) = t.0
total_in (Err r) = 0

abbrev pub placed_total : PlacementResult → ℕ
placed_total (Ok p) = p.total.0
placed_total (Err r) = 0

abbrev pub separations_of : PlacementResult → List ℕ
separations_of (Ok p) = tracks_of p.separations
separations_of (Err r) = replicate 8 0

abbrev pub positions_of : PlacementResult → List ℕ
positions_of (Ok p) = columns_of p.positions
positions_of (Err r) = replicate 9 0

-- THE LEAST TOTAL, or a refusal with 0
unfoldable pub total_told : Refusal → (total : ℕ) → TotalResult → Type 0
total_told f v r = (refusal_of r ≡ f) × (total_in r ≡ v)

unfoldable pub Totalled : (number : ℕ) → Refusal → Stack → (s : ℕ) → TotalResult → Type 0
Totalled zero f k s r = (v : ℕ) × LeastTotal k s v × total_told f v r
Totalled (suc n) f k s r = total_told f 0 r

abbrev pub TotalOr : Refusal → Stack → (s : ℕ) → TotalResult → Type 0
TotalOr f k s r = Totalled f.number f k s r

-- THE PLACEMENT FOR A TOTAL with that total; or a refusal with zeros elsewhere, at last 10, exactly if no legal placement in the spread has that total
unfoldable pub placed_is : Refusal → (total : ℕ) → (ts xs : List ℕ) → PlacementResult → Type 0
placed_is f v ts xs r =
    (refusal_of r ≡ f) × (placed_total r ≡ v) × (separations_of r ≡ padded 8 ts) × (positions_of r ≡ padded 9 xs)

pub data PlacedFor (k : Stack) (s v : ℕ) (r : PlacementResult) : Type 0 where
  placed : (ts xs : List ℕ) → Placement k s v ts xs → placed_is fine v ts xs r → PlacedFor k s v r
  unmet : (TotalMet k s v → ⊥) → placed_is (refusal 10 0 0) 0 [] [] r → PlacedFor k s v r

unfoldable pub Placed : (number : ℕ) → Refusal → Stack → (s v : ℕ) → PlacementResult → Type 0
Placed zero f k s v r = PlacedFor k s v r
Placed (suc n) f k s v r = placed_is f 0 [] [] r

abbrev pub PlacementOr : Refusal → Stack → (s v : ℕ) → PlacementResult → Type 0
PlacementOr f k s v r = Placed f.number f k s v r

-- A SPREAD OF A TEXT: the text's refusals, then 7
unfoldable pub spread_refusal : List ℕ → (s : ℕ) → Refusal
spread_refusal bs s = or_else (text_refusal bs) (narrow_refusal (stack_in bs) s)

unfoldable pub TotalSays : List ℕ → (s : ℕ) → TotalResult → Type 0
TotalSays bs s r = TotalOr (spread_refusal bs s) (stack_in bs) s r

unfoldable pub PlacementSays : List ℕ → (s v : ℕ) → PlacementResult → Type 0
PlacementSays bs s v r = PlacementOr (spread_refusal bs s) (stack_in bs) s v r
