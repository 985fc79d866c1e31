-- A channel's limits L(t) and R(t) on the offset, raised by a bias b so that none is negative. Assumes nothing: these are definitions.
-- The greatest of no numbers is 0 and the least of none is 2b, below and above every biased offset: a separation of m or more, and a channel
-- without pairs, are no special cases. With the lower edge clear the limits at a separation t are those of t - 1 tracks, cut off at 0. Below a channel's floor
-- it is the other way round, 2b and 0, and no offset is between.
use Rattle.std.specs.Prelude.{cond, List, ℕ, zero, suc, ◌+◌, ◌*◌, ◌-◌, ◌≤◌, min, max, ltb, length}
use Rattle.stack.specs.Stack.{Pair, p_at, q_at, Channel}

-- p(j - t) + t - q(j) with j = i + t
unfoldable pub low_term : (b : ℕ) → List Pair → (t i : ℕ) → ℕ
low_term b c t i = b + p_at c i + t - q_at c (i + t)

-- p(i + t) - t - q(i)
unfoldable pub high_term : (b : ℕ) → List Pair → (t i : ℕ) → ℕ
high_term b c t i = b + p_at c (i + t) - (t + q_at c i)

-- the greatest of the first n
unfoldable pub greatest : (b : ℕ) → List Pair → (t n : ℕ) → ℕ
greatest b c t zero = 0
greatest b c t (suc n) = max (greatest b c t n) (low_term b c t n)

-- the least of the first n
unfoldable pub least : (b : ℕ) → List Pair → (t n : ℕ) → ℕ
least b c t zero = 2 * b
least b c t (suc n) = min (least b c t n) (high_term b c t n)

-- L(t) + b and R(t) + b
unfoldable pub low_limit : (b : ℕ) → List Pair → (t : ℕ) → ℕ
low_limit b c t = greatest b c t (length c - t)

unfoldable pub high_limit : (b : ℕ) → List Pair → (t : ℕ) → ℕ
high_limit b c t = least b c t (length c - t)

-- the offset y - x is between the limits of the pairs
pub record Between (b : ℕ) (c : List Pair) (t x y : ℕ) : Type 0 where
  pub left : x + low_limit b c t ≤ y + b
  pub right : y + b ≤ x + high_limit b c t

-- a rule from a floor on, and d below it
unfoldable pub from_floor : (floor d : ℕ) → (ℕ → ℕ) → (t : ℕ) → ℕ
from_floor f d g t = cond (ltb t f) d (g t)

-- the limits of a channel: those of its pairs for a track less, from the floor on, closed below it
unfoldable pub low_floored : (b : ℕ) → Channel → (t : ℕ) → ℕ
low_floored b c t = from_floor c.floor (2 * b) (λ s. low_limit b c.pairs (s - 1)) t

unfoldable pub high_floored : (b : ℕ) → Channel → (t : ℕ) → ℕ
high_floored b c t = from_floor c.floor 0 (λ s. high_limit b c.pairs (s - 1)) t

-- from so many tracks on every offset is between the limits of m pairs: one more than there are pairs, and 0 without pairs
abbrev pub open_from : (m : ℕ) → ℕ
open_from m = m + min m 1

-- the offset y - x is between the limits of the channel
pub record FlooredBetween (b : ℕ) (c : Channel) (t x y : ℕ) : Type 0 where
  pub left : x + low_floored b c t ≤ y + b
  pub right : y + b ≤ x + high_floored b c t
