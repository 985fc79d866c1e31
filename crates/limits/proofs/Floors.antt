-- A channel is feasible exactly if the offset is between its limits, which are those of its pairs for a track less, from its floor on, and closed below it; they
-- widen, and from the floor and m + 1 tracks on, or without pairs from the floor on, every offset is between them. Assumes nothing.
use mathlib.Core.Path.{◌≡◌, sym, ◌∙◌}
use mathlib.Core.Bool.{true}
use mathlib.Core.Logic.{◌⊎◌, inl, inr}
use Prim.Native.Nat.{ℕ, ◌*◌, ◌-◌, ◌≤◌, ◌<◌}
use native.Mathlib.Omega.{arith}
use lib.ListN.{length}
use borrow.Author.Tests.{lt-ltb, le-ltb}
use Rattle.numbers.proofs.Orders.{le_or_lt}
use Rattle.stack.specs.Stack.{Channel, feasible}
use Rattle.stack.specs.Limits.{rising}
use Rattle.stack.proofs.Feasible.{edge_clear_is, feasible_says, says_feasible}
use Rattle.limits.specs.Limits.{low_limit, high_limit, Between, from_floor, low_floored, high_floored, open_from, FlooredBetween}
use Rattle.limits.proofs.Between.{Biased, wirable_between, between_wirable, low_widens, high_widens, low_open, high_open, high_bounded}

pub from_below : (f d : ℕ) (g : ℕ → ℕ) (t : ℕ) → t < f → from_floor f d g t ≡ d
unfolding from_floor
from_below f d g t h = rw (lt-ltb t f h)

pub from_at : (f d : ℕ) (g : ℕ → ℕ) (t : ℕ) → f ≤ t → from_floor f d g t ≡ g t
unfolding from_floor
from_at f d g t h = rw (le-ltb t f h)

from_most : (f d : ℕ) (g : ℕ → ℕ) (t m : ℕ) → d ≤ m → g t ≤ m → from_floor f d g t ≤ m
from_most f d g t m h k = go (le_or_lt f t)
  where
    go : (f ≤ t) ⊎ (t < f) → from_floor f d g t ≤ m
    go (inl l) = omega (arith, from_at f d g t l)
    go (inr l) = omega (arith, from_below f d g t l)

module _ (b : ℕ) (c : Channel) where
  low_below : (t : ℕ) → t < c.floor → low_floored b c t ≡ 2 * b
  unfolding low_floored
  low_below t h = from_below c.floor (2 * b) _ t h

  high_below : (t : ℕ) → t < c.floor → high_floored b c t ≡ 0
  unfolding high_floored
  high_below t h = from_below c.floor 0 _ t h

  low_from : (t : ℕ) → c.floor ≤ t → low_floored b c t ≡ low_limit b c.pairs (t - 1)
  unfolding low_floored
  low_from t h = from_at c.floor (2 * b) _ t h

  high_from : (t : ℕ) → c.floor ≤ t → high_floored b c t ≡ high_limit b c.pairs (t - 1)
  unfolding high_floored
  high_from t h = from_at c.floor 0 _ t h

  module _ (t x y : ℕ) (biased : Biased b c.pairs x y) where
    pub feasible_between : feasible c t x y ≡ true → FlooredBetween b c t x y
    feasible_between e =
        let both = feasible_says c t x y e in
        let w : Between b c.pairs (t - 1) x y = wirable_between b c.pairs (t - 1) x y biased (sym (edge_clear_is c.pairs t x y) ∙ both.1) in
        record { left = rw (low_from t both.0) w.left; right = rw (high_from t both.0) w.right }

    -- below the floor the limits are closed, so an offset between them is at the floor or above it
    pub between_feasible : 0 < b → FlooredBetween b c t x y → feasible c t x y ≡ true
    between_feasible some w = go (le_or_lt c.floor t)
      where
        go : (c.floor ≤ t) ⊎ (t < c.floor) → feasible c t x y ≡ true
        go (inl h) =
            says_feasible c t x y h
            (edge_clear_is c.pairs t x y
            ∙ between_wirable b c.pairs (t - 1) x y biased (record { left = rw (low_from t h) at w.left; right = rw (high_from t h) at w.right }))
        go (inr h) = absurd (omega (arith, low_below t h, high_below t h, w.left, w.right, biased.lower, biased.upper))

  -- limits widen
  pub low_floored_widens : rising c.pairs ≡ true → ((t : ℕ) → low_limit b c.pairs t ≤ 2 * b) → (t n : ℕ) → t ≤ n → low_floored b c n ≤ low_floored b c t
  low_floored_widens rise bounded t n h = go (le_or_lt c.floor t) (le_or_lt c.floor n)
    where
      go : (c.floor ≤ t) ⊎ (t < c.floor) → (c.floor ≤ n) ⊎ (n < c.floor) → low_floored b c n ≤ low_floored b c t
      go (inl k) m = omega (arith, low_from t k, low_from n (omega arith), low_widens b c.pairs rise (t - 1) (n - 1) (omega arith))
      go (inr k) (inl m) = omega (arith, low_below t k, low_from n m, bounded (n - 1))
      go (inr k) (inr m) = omega (arith, low_below t k, low_below n m)

  pub high_floored_widens : rising c.pairs ≡ true → (t n : ℕ) → t ≤ n → high_floored b c t ≤ high_floored b c n
  high_floored_widens rise t n h = go (le_or_lt c.floor t)
    where
      go : (c.floor ≤ t) ⊎ (t < c.floor) → high_floored b c t ≤ high_floored b c n
      go (inl k) = omega (arith, high_from t k, high_from n (omega arith), high_widens b c.pairs rise (t - 1) (n - 1) (omega arith))
      go (inr k) = omega (arith, high_below t k)

  -- from the floor on, and where the pairs leave every offset open
  pub low_floored_open : (t : ℕ) → open_from (length c.pairs) ≤ t → c.floor ≤ t → low_floored b c t ≡ 0
  low_floored_open t h k = low_from t k ∙ low_open b c.pairs (t - 1) (omega arith)

  pub high_floored_open : (t : ℕ) → open_from (length c.pairs) ≤ t → c.floor ≤ t → high_floored b c t ≡ 2 * b
  high_floored_open t h k = high_from t k ∙ high_open b c.pairs (t - 1) (omega arith)

  -- limits are at most twice the bias
  pub low_floored_bounded : (t : ℕ) → low_limit b c.pairs (t - 1) ≤ 2 * b → low_floored b c t ≤ 2 * b
  unfolding low_floored
  low_floored_bounded t h = from_most c.floor (2 * b) (λ s. low_limit b c.pairs (s - 1)) t (2 * b) (omega arith) h

  pub high_floored_bounded : (t : ℕ) → high_floored b c t ≤ 2 * b
  unfolding high_floored
  high_floored_bounded t = from_most c.floor 0 (λ s. high_limit b c.pairs (s - 1)) t (2 * b) (omega arith) (high_bounded b c.pairs (t - 1))
