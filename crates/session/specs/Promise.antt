-- TRUSTED. What is promised of every session that steps have made from an empty one. Document 02, P6 and P7. Each statement is a type; proofs/ proves it. Assumes
-- nothing.
use Rattle.std.specs.Prelude.{◌≡◌, true, List, [], ◌∷◌, ◌↔◌, ℕ, ◌≤◌, length}
use Rattle.stack.specs.Stack.{free, strip, Stack, stack}
use Rattle.stack.specs.Limits.{within_limits}
use Rattle.text.specs.Text.{refusal, fine, text_refusal, stack_in}
use Rattle.stack_text.specs.StackText.{stack_text}
use Rattle.spread.specs.Answers.{TotalResult, PlacementResult, total_told, placed_is, TotalSays, PlacementSays}
use Rattle.session.specs.Session.{nothing, Made, SessionTotalSays, SessionPlacementSays}
use Rattle.session.specs.Value.{Given}

-- it is EMPTY, or A SINGLE STRIP, or a STACK WITHIN THE LIMITS
pub data Held (k : Stack) : Type 0 where
  empty : k ≡ nothing → Held k
  single : (l : ℕ) → 1 ≤ l → l ≤ 1000 → k ≡ stack (strip l free ∷ []) [] → Held k
  stacked : within_limits k ≡ true → Held k

unfoldable pub MadeHeld : Type 0
MadeHeld = (k : Stack) → Made k → Held k

-- whatever numbers are handed over for a step that adds a strip, they stand for some TERMINALS, so that step always has an answer
unfoldable pub GivenThere : Type 0
GivenThere = (values : List ℕ) (count : ℕ) → (ns : List ℕ) × Given ns values count

-- with two strips or more EVERY SPREAD'S TOTAL AND PLACEMENT, and their refusals, ARE THOSE OF THE TEXT of the same stack, which is accepted and in which that stack is
pub record AsText (k : Stack) : Type 0 where
  pub accepted : text_refusal (stack_text k) ≡ fine
  pub read : stack_in (stack_text k) ≡ k
  pub totals : (s : ℕ) (r : TotalResult) → SessionTotalSays k s r ↔ TotalSays (stack_text k) s r
  pub placements : (s v : ℕ) (r : PlacementResult) → SessionPlacementSays k s v r ↔ PlacementSays (stack_text k) s v r

unfoldable pub SessionAsText : Type 0
SessionAsText = (k : Stack) → Made k → 2 ≤ length k.strips → AsText k

-- A SINGLE STRIP has total 0 and position 0 in every spread that it fits; no other total is met
pub record AsSingle (l s : ℕ) : Type 0 where
  pub total : (r : TotalResult) → SessionTotalSays (stack (strip l free ∷ []) []) s r → total_told fine 0 r
  pub placement : (r : PlacementResult) → SessionPlacementSays (stack (strip l free ∷ []) []) s 0 r → placed_is fine 0 [] (0 ∷ []) r
  pub unmet : (v : ℕ) (r : PlacementResult) → (v ≡ 0 → ⊥) → SessionPlacementSays (stack (strip l free ∷ []) []) s v r → placed_is (refusal 10 0 0) 0 [] [] r

unfoldable pub SessionSingle : Type 0
SessionSingle = (l s : ℕ) → l ≤ s → AsSingle l s
