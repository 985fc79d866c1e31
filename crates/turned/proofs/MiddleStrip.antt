-- A WARNING, proved: a middle strip's positions may have a gap, unlike the top strip's. Of three strips, at spread 3 and with the least total, the middle one stands
-- at 0 or at 2 and never at 1: on a card without floors and windows, and on one with both. That there is nothing else is a computed test of every separation and
-- position that can occur. Assumes nothing.
use mathlib.Core.Path.{◌≡◌, refl}
use mathlib.Core.Bool.{Bool, true, false, ◌||◌, not}
use borrow.Author.Tests.{le-ltb, eq-eqb}
use mathlib.Core.List.{List, [], ◌∷◌}
use Prim.Native.Nat.{ℕ}
use native.Mathlib.Omega.{arith}
use lib.Dec.{eqb, ltb}
use lib.ListN.{get_or}
use Rattle.numbers.proofs.Bools.{impossible}
use Rattle.stack.specs.Stack.{pair, channel, free, held, strip, Stack, stack, legal, sum, LeastTotal}
use Rattle.turned.proofs.Searches.{placements_pass, placement_passes, least_by_search, searching}

-- without floors and windows: lengths 2, 1 and 2, a pair in each channel
abbrev pub free_card : Stack
free_card =
    stack (strip 2 free ∷ strip 1 free ∷ strip 2 free ∷ []) (channel (pair 0 1 ∷ []) 0 ∷ channel (pair 0 2 ∷ []) 0 ∷ [])

-- with floors of 1, and the bottom strip held at 0
abbrev pub floored_card : Stack
floored_card =
    stack (strip 1 (held 0 0) ∷ strip 1 free ∷ strip 2 free ∷ []) (channel (pair 0 0 ∷ []) 1 ∷ channel (pair 0 2 ∷ []) 1 ∷ [])

-- the middle strip's positions with the least total are 0 and 2
pub record MiddleGap (k : Stack) (s v : ℕ) : Type 0 where
  pub least : LeastTotal k s v
  pub left : (ts : List ℕ) × (x z : ℕ) × (legal k s ts (x ∷ 0 ∷ z ∷ []) ≡ true) × (sum ts ≡ v)
  pub right : (ts : List ℕ) × (x z : ℕ) × (legal k s ts (x ∷ 2 ∷ z ∷ []) ≡ true) × (sum ts ≡ v)
  pub gap : (ts xs : List ℕ) → legal k s ts xs ≡ true → sum ts ≡ v → get_or xs 1 0 ≡ 1 → ⊥

-- a smaller total, or not at 1
elsewhere : (v : ℕ) (ts xs : List ℕ) → Bool
elsewhere v ts xs = ltb (sum ts) v || not (eqb (get_or xs 1 0) 1)

never_at_one : (k : Stack) (s v : ℕ) → placements_pass k s v (elsewhere v) ≡ true → (ts xs : List ℕ) → legal k s ts xs ≡ true → sum ts ≡ v → get_or xs 1 0 ≡ 1 → ⊥
unfolding elsewhere
never_at_one k s v e ts xs g h a = impossible (rw (lt_false, at_one) at (placement_passes k s v (elsewhere v) e ts xs g (omega arith)))
  where
    lt_false : ltb (sum ts) v ≡ false
    lt_false = le-ltb (sum ts) v (omega arith)

    at_one : eqb (get_or xs 1 0) 1 ≡ true
    at_one = eq-eqb (get_or xs 1 0) 1 a

-- WITHOUT FLOORS AND WINDOWS
pub free_middle_gap : MiddleGap free_card 3 2
unfolding searching elsewhere
free_middle_gap = record {
  least = least_by_search free_card 3 (0 ∷ 2 ∷ []) (1 ∷ 0 ∷ 0 ∷ []) refl;
  left = (0 ∷ 2 ∷ [], 1, 0, refl, refl);
  right = (2 ∷ 0 ∷ [], 0, 0, refl, refl);
  gap = never_at_one free_card 3 2 refl;
}

-- WITH FLOORS AND WINDOWS
pub floored_middle_gap : MiddleGap floored_card 3 3
unfolding searching elsewhere
floored_middle_gap = record {
  least = least_by_search floored_card 3 (1 ∷ 2 ∷ []) (0 ∷ 0 ∷ 0 ∷ []) refl;
  left = (1 ∷ 2 ∷ [], 0, 0, refl, refl);
  right = (2 ∷ 1 ∷ [], 0, 0, refl, refl);
  gap = never_at_one floored_card 3 3 refl;
}
