-- TRUSTED. Placements drawn by paths that stay inside the spread, and what is promised of them. Document 02, P8. Each statement is a type; proofs/Inside.antt proves
-- them. Assumes nothing: these are definitions.
use Rattle.std.specs.Prelude.{◌≡◌, ◌↔◌, true, List, ℕ, suc, ◌≤◌, ◌<◌, length, get_or}
use Rattle.stack.specs.Stack.{Stack, channel_in, in_spread, sum, LeastTotal}
use Rattle.stack.specs.Limits.{within_limits}
use Rattle.routing.specs.Paths.{Point, Drawable}
use Rattle.page.specs.Promise.{LedInside}

-- DRAWABLE INSIDE the spread: as drawable, and every point of every path is in columns 0 to s
pub record DrawableInside (k : Stack) (s : ℕ) (ts xs : List ℕ) : Type 0 where
  pub within : in_spread s k.strips xs ≡ true
  pub counted : length ts ≡ length k.channels
  pub floors : (i : ℕ) → i < length k.channels → (channel_in k i).floor ≤ get_or ts i 0
  pub paths : (channel : ℕ) → List (List Point)
  pub led :
      (i : ℕ) → i < length k.channels
      → LedInside s (channel_in k i).pairs (get_or ts i 0) (get_or xs i 0) (get_or xs (suc i) 0) (paths i)

-- the very same placements can be drawn
unfoldable pub InsideSame : Type 0
InsideSame = (k : Stack) (s : ℕ) (ts xs : List ℕ) → within_limits k ≡ true → Drawable k s ts xs ↔ DrawableInside k s ts xs

-- THE LEAST TOTAL of the placements of a kind
pub record LeastOf (Kind : (ts xs : List ℕ) → Type 0) (v : ℕ) : Type 0 where
  pub separations : List ℕ
  pub positions : List ℕ
  pub is : Kind separations positions
  pub exact : sum separations ≡ v
  pub least : (us ys : List ℕ) → Kind us ys → v ≤ sum us

-- so no total changes: not that of the drawable placements, nor the least total
unfoldable pub InsideSameTotal : Type 0
InsideSameTotal =
    (k : Stack) (s v : ℕ) → within_limits k ≡ true →
    (LeastOf (λ ts xs. Drawable k s ts xs) v ↔ LeastOf (λ ts xs. DrawableInside k s ts xs) v)
    × (LeastTotal k s v ↔ LeastOf (λ ts xs. DrawableInside k s ts xs) v)
