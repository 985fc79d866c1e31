-- TRUSTED. The card turned over, said of texts and of what the entries answer: of an accepted text, the text of the stack in it upside down (left to right where every
-- strip is free) is accepted and answered with the same least total at every spread; the least total is that of the placements drawn inside the spread; and the
-- top strip's positions that trials find legal for a spread and a total have no gaps. Each statement is a type; proofs/Turned.antt proves it. Document 02, P8.
-- Assumes nothing: these are definitions.
use Rattle.std.specs.Prelude.{◌≡◌, true, List, ◌↔◌, ℕ, ◌≤◌, ◌<◌, length, get_or}
use Rattle.stack.specs.Stack.{Stack, sum}
use Rattle.routing.specs.Paths.{Drawable}
use Rattle.turned.specs.Turned.{SameRows, upside_down, left_to_right, AllFree}
use Rattle.turned.specs.Inside.{DrawableInside, LeastOf}
use Rattle.text.specs.Text.{stack_in}
use Rattle.text.specs.Outcome.{refusal_of}
use Rattle.stack_text.specs.StackText.{stack_text}
use Rattle.spread.specs.Answers.{TotalResult, total_in, TotalSays}
use Rattle.nabetsu.specs.Promise.{accepted}
use Rattle.nabetsu.specs.Entry.{TrialResult, legal_in, TrialSays, TotalCoded}
use Rattle.evidence.specs.Alone.{SameTotal}

-- ANSWERED AS ANOTHER TEXT: the text of a stack is accepted and that stack is in it; of every accepted text in which it is, least_total returns the same as of the
-- other text at every spread, refusal and total, and nabetsu_least_total the same number; their tables have rows at the same spreads with the same totals
pub record AnsweredAs (bs : List ℕ) (k : Stack) : Type 0 where
  pub is_accepted : accepted (stack_text k) ≡ true
  pub read : stack_in (stack_text k) ≡ k
  pub totals :
      (cs : List ℕ) → accepted cs ≡ true → stack_in cs ≡ k → (s : ℕ) (r q : TotalResult) → TotalSays bs s r → TotalSays cs s q
      → SameTotal r q
  pub codes : (cs : List ℕ) → accepted cs ≡ true → stack_in cs ≡ k → (s r q : ℕ) → TotalCoded bs s r → TotalCoded cs s q → r ≡ q
  pub rows : SameRows (stack_in bs) k

unfoldable pub UpsideDownText : Type 0
UpsideDownText = (bs : List ℕ) → accepted bs ≡ true → AnsweredAs bs (upside_down (stack_in bs))

unfoldable pub LeftToRightText : Type 0
LeftToRightText =
    (bs : List ℕ) → accepted bs ≡ true → AllFree (stack_in bs) → AnsweredAs bs (left_to_right (stack_in bs))

-- INSIDE the spread the same placements can be drawn, and a total that least_total returns is the least total of those
unfoldable pub InsideText : Type 0
InsideText =
    (bs : List ℕ) (s : ℕ) → accepted bs ≡ true →
    ((ts xs : List ℕ) → Drawable (stack_in bs) s ts xs ↔ DrawableInside (stack_in bs) s ts xs)
    × ((r : TotalResult) → TotalSays bs s r → (refusal_of r).number ≡ 0 → LeastOf (λ ts xs. DrawableInside (stack_in bs) s ts xs) (total_in r))

-- THE TOP STRIP at x in a placement, eight separations and nine positions of 32 bits, with just this total, which a trial finds legal
pub record TopTried (bs : List ℕ) (s v x : ℕ) : Type 0 where
  pub separations : List ℕ
  pub positions : List ℕ
  pub eight : length separations ≡ 8
  pub nine : length positions ≡ 9
  pub tracks : (i : ℕ) → get_or separations i 0 < 4294967296
  pub columns : (i : ℕ) → get_or positions i 0 < 4294967296
  pub verdict : TrialResult
  pub says : TrialSays bs s separations positions verdict
  pub is_legal : legal_in verdict ≡ true
  pub exact : sum separations ≡ v
  pub top : get_or positions (length (stack_in bs).channels) 0 ≡ x

unfoldable pub TopText : Type 0
TopText =
    (bs : List ℕ) (s v x y z : ℕ) → accepted bs ≡ true → s < 4294967296 → v < 4294967296 → TopTried bs s v x → TopTried bs s v z → x ≤ y →
    y ≤ z → TopTried bs s v y
