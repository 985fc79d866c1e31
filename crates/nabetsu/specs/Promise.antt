-- TRUSTED. What is promised of accepted texts, and of total and placement together. Each statement is a type; proofs/Promises.antt proves it. Document 01,
-- "When a channel can be wired" and "Choosing among equals"; document 02, P3. Assumes nothing.
use Rattle.std.specs.Prelude.{◌≡◌, Bool, true, ◌&&◌, List, [], ◌∷◌, ◌↔◌, ℕ, ◌≤◌, ltb, eqb}
use Rattle.stack.specs.Stack.{TotalMet, LeastTotal, Placement, Answer, Row, RowsAre, sum, first_spread}
use Rattle.routing.specs.Paths.{Drawable}
use Rattle.text.specs.Text.{text_refusal, stack_in}
use Rattle.spread.specs.Answers.{TotalResult, PlacementResult, total_in, TotalSays, PlacementSays}
use Rattle.nabetsu.specs.Best.{SpreadSays}

unfoldable pub all_bytes : List ℕ → Bool
all_bytes [] = true
all_bytes (x ∷ xs) = ltb x 256 && all_bytes xs

-- ACCEPTED: none of the conditions 1 to 6, 11, 12 and 14 applies
unfoldable pub accepted : List ℕ → Bool
accepted bs = all_bytes bs && eqb (text_refusal bs).number 0

-- THE THIRD DEMAND: the answer is drawable, and no drawable placement in that spread has a smaller total
unfoldable pub AnswerDrawable : Type 0
AnswerDrawable =
    (bs : List ℕ) (s : ℕ) (ts xs : List ℕ) → accepted bs ≡ true → first_spread (stack_in bs).strips ≤ s → Answer (stack_in bs) s ts xs →
    Drawable (stack_in bs) s ts xs

unfoldable pub NoneSmaller : Type 0
NoneSmaller =
    (bs : List ℕ) (s : ℕ) (ts xs us ys : List ℕ) → accepted bs ≡ true → Answer (stack_in bs) s ts xs → Drawable (stack_in bs) s us ys →
    sum ts ≤ sum us

-- every spread from the first one on has an answer, and but one; every accepted stack has rows, and but one list of them
unfoldable pub AnswerThere : Type 0
AnswerThere =
    (bs : List ℕ) (s : ℕ) → accepted bs ≡ true → first_spread (stack_in bs).strips ≤ s →
    (ts : List ℕ) × (xs : List ℕ) × Answer (stack_in bs) s ts xs

unfoldable pub AnswerAlone : Type 0
AnswerAlone =
    (bs : List ℕ) (s : ℕ) (ts xs us ys : List ℕ) → accepted bs ≡ true → Answer (stack_in bs) s ts xs → Answer (stack_in bs) s us ys →
    (ts ≡ us) × (xs ≡ ys)

-- every spread from the first one on has a least total, and but one; the totals that are met there are that one and all above it
unfoldable pub TotalThere : Type 0
TotalThere = (bs : List ℕ) (s : ℕ) → accepted bs ≡ true → first_spread (stack_in bs).strips ≤ s → (v : ℕ) × LeastTotal (stack_in bs) s v

unfoldable pub TotalAlone : Type 0
TotalAlone = (bs : List ℕ) (s v w : ℕ) → accepted bs ≡ true → LeastTotal (stack_in bs) s v → LeastTotal (stack_in bs) s w → v ≡ w

unfoldable pub TotalsMet : Type 0
TotalsMet = (bs : List ℕ) (s v w : ℕ) → accepted bs ≡ true → LeastTotal (stack_in bs) s v → TotalMet (stack_in bs) s w ↔ (v ≤ w)

-- every total that is met has a placement, and but one; it can be drawn
unfoldable pub PlacementThere : Type 0
PlacementThere =
    (bs : List ℕ) (s v : ℕ) → accepted bs ≡ true → TotalMet (stack_in bs) s v →
    (ts : List ℕ) × (xs : List ℕ) × Placement (stack_in bs) s v ts xs

unfoldable pub PlacementAlone : Type 0
PlacementAlone =
    (bs : List ℕ) (s v : ℕ) (ts xs us ys : List ℕ) → accepted bs ≡ true → Placement (stack_in bs) s v ts xs → Placement (stack_in bs) s v us ys →
    (ts ≡ us) × (xs ≡ ys)

unfoldable pub PlacementDrawn : Type 0
PlacementDrawn =
    (bs : List ℕ) (s v : ℕ) (ts xs : List ℕ) → accepted bs ≡ true → Placement (stack_in bs) s v ts xs → Drawable (stack_in bs) s ts xs

-- THE ANSWER IS BOTH TOGETHER, the least total and the placement for it; so are the entries' results
unfoldable pub AnswerIsBoth : Type 0
AnswerIsBoth =
    (bs : List ℕ) (s : ℕ) (ts xs : List ℕ) →
    Answer (stack_in bs) s ts xs ↔ (LeastTotal (stack_in bs) s (sum ts) × Placement (stack_in bs) s (sum ts) ts xs)

unfoldable pub BothTogether : Type 0
BothTogether =
    (bs : List ℕ) (s : ℕ) (t : TotalResult) (r : PlacementResult) → TotalSays bs s t → PlacementSays bs s (total_in t) r → SpreadSays bs s r

unfoldable pub RowsThere : Type 0
RowsThere = (bs : List ℕ) → accepted bs ≡ true → (rs : List Row) × RowsAre (stack_in bs) rs × ((qs : List Row) → RowsAre (stack_in bs) qs → qs ≡ rs)
