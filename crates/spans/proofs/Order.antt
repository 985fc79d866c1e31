-- Dictionary order: how it is shown, and that two lists of one length of which neither is later are equal. Assumes nothing.
use mathlib.Core.Path.{◌≡◌, refl}
use mathlib.Core.Bool.{true, ◌&&◌}
use mathlib.Core.Logic.{◌⊎◌, inl, inr}
use mathlib.Core.List.{List, [], ◌∷◌}
use Prim.Native.Nat.{ℕ, ◌≤◌, ◌<◌}
use native.Mathlib.Omega.{arith}
use lib.Dec.{ltb, eqb}
use lib.ListN.{length}
use borrow.Author.Tests.{ltb-true, eqb-true, lt-ltb, le-ltb, eq-eqb}
use Rattle.numbers.proofs.Bools.{and_left, and_right, or_either}
use Rattle.numbers.proofs.Orders.{lt_or_eq}
use Rattle.stack.specs.Stack.{not_later}

-- not above at the first place, and where they are equal there not later in the rest
pub not_later_step : (x y : ℕ) (xs ys : List ℕ) → x ≤ y → (x ≡ y → not_later xs ys ≡ true) → not_later (x ∷ xs) (y ∷ ys) ≡ true
unfolding not_later
not_later_step x y xs ys h k = go (lt_or_eq x y h)
  where
    go : (x < y) ⊎ (x ≡ y) → not_later (x ∷ xs) (y ∷ ys) ≡ true
    go (inl l) = rw (lt-ltb x y l)
    go (inr e) = rw (le-ltb x y (omega arith), eq-eqb x y e) (k e)

-- the two cases
pub not_later_cases : (x y : ℕ) (xs ys : List ℕ) → not_later (x ∷ xs) (y ∷ ys) ≡ true → (x < y) ⊎ ((x ≡ y) × (not_later xs ys ≡ true))
unfolding not_later
not_later_cases x y xs ys h = go (or_either (ltb x y) _ h)
  where
    go : (ltb x y ≡ true) ⊎ ((eqb x y && not_later xs ys) ≡ true) → (x < y) ⊎ ((x ≡ y) × (not_later xs ys ≡ true))
    go (inl l) = inl (ltb-true x y l)
    go (inr e) = inr (eqb-true x y (and_left (eqb x y) _ e), and_right (eqb x y) _ e)

pub not_later_both : (xs ys : List ℕ) → length xs ≡ length ys → not_later xs ys ≡ true → not_later ys xs ≡ true → xs ≡ ys
not_later_both [] [] e h k = refl
not_later_both [] (y ∷ ys) e h k = absurd (omega arith)
not_later_both (x ∷ xs) [] e h k = absurd (omega arith)
not_later_both (x ∷ xs) (y ∷ ys) e h k =
    go (not_later_both xs ys (omega arith)) (not_later_cases x y xs ys h) (not_later_cases y x ys xs k)
  where
    go : (not_later xs ys ≡ true → not_later ys xs ≡ true → xs ≡ ys) → (x < y) ⊎ ((x ≡ y) × (not_later xs ys ≡ true)) → (y < x) ⊎ ((y ≡ x) × (not_later ys xs ≡ true)) → x ∷ xs ≡ y ∷ ys
    go rec (inl l) (inl m) = absurd (omega arith)
    go rec (inl l) (inr m) = absurd (omega arith)
    go rec (inr l) (inl m) = absurd (omega arith)
    go rec (inr l) (inr m) = let q : xs ≡ ys = rec l.1 m.1 in cc
