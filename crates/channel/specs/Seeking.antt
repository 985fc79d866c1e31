-- How the code seeks L(t) and R(t), and fills and closes the arrays of limits. Assumes nothing: these are definitions.
use Rattle.std.specs.Prelude.{◌≡◌, cond, List, ℕ, zero, suc, ◌+◌, ◌*◌, ◌-◌, ◌≤◌, ◌<◌, ltb, length, get_or}
use Rattle.numbers.specs.Lists.{tabulate, filled}
use Rattle.stack.specs.Stack.{Pair, pair, p_at, q_at, Channel}
use Rattle.stack.specs.Sizes.{separations_held}
use Rattle.stack.specs.Value.{columns}
use Rattle.stack.specs.declared.Columns.{Columns}
use Rattle.limits.specs.Limits.{greatest, least, low_limit, high_limit, low_floored, high_floored}
use Rattle.arrays.specs.declared.ChannelLimits.{ChannelLimits}

-- what the code's bias is
abbrev pub bias : ℕ
bias = 8589934592

-- the code's bias while it seeks the greatest and the least of the terms
abbrev pub term_bias : ℕ
term_bias = 2048

-- a term raised by it, raised by the code's bias
abbrev pub raised : (term : ℕ) → ℕ
raised x = bias - term_bias + x

-- a place for each index of a pair with a separation added
abbrev pub places_held : ℕ
places_held = 64

-- the first so many numbers are at most n
pub record AtMost (n many : ℕ) (f : ℕ → ℕ) : Type 0 where
  pub each : (j : ℕ) → j < many → f j ≤ n

-- the terminals of an edge, and r behind the last
unfoldable pub narrowed : (edge : List Columns) → (pairs r : ℕ) → List ℕ
narrowed e n r = filled places_held n (λ j. (get_or e j (columns 0)).0) r

-- the pairs of two such lists
unfoldable pub paired : (ps qs : List ℕ) → List Pair
paired ps qs = tabulate places_held 0 (λ j. pair (get_or ps j 0) (get_or qs j 0))

-- the greatest and the least of 32 terms, raised by the code's bias
abbrev pub low_found : (ps qs : List ℕ) → (t : ℕ) → ℕ
low_found ps qs t = raised (greatest term_bias (paired ps qs) t 32)

abbrev pub high_found : (ps qs : List ℕ) → (t : ℕ) → ℕ
high_found ps qs t = raised (least term_bias (paired ps qs) t 32)

-- a channel's pairs, and behind them pairs of p and q
pub record Padded (c : List Pair) (p q : ℕ) (d : List Pair) : Type 0 where
  pub p_same : (j : ℕ) → j < length c → p_at d j ≡ p_at c j
  pub q_same : (j : ℕ) → j < length c → q_at d j ≡ q_at c j
  pub p_rest : (j : ℕ) → length c ≤ j → j < places_held → p_at d j ≡ p
  pub q_rest : (j : ℕ) → length c ≤ j → j < places_held → q_at d j ≡ q

-- a row whose places from 1 on are being filled by a rule, the first t of them so far; the others hold d
unfoldable pub row_from_one : (f : ℕ → ℕ) → (d t place : ℕ) → ℕ
row_from_one f d t zero = d
row_from_one f d t (suc s) = cond (ltb s t) (f s) d

-- while the arrays are filled by two rules, of n numbers each
pub record Filling (f g : ℕ → ℕ) (n t : ℕ) (low high : List ℕ) : Type 0 where
  pub below : t ≤ n
  pub lows : low ≡ tabulate separations_held 0 (λ s. row_from_one f 0 t s)
  pub highs : high ≡ tabulate separations_held 0 (λ s. row_from_one g (2 * bias) t s)

-- the limits of a channel's pairs for every separation
pub record PairsLimits (ps : List Pair) (low high : List ℕ) : Type 0 where
  pub lows : low ≡ tabulate separations_held 0 (λ s. low_limit bias ps (s - 1))
  pub highs : high ≡ tabulate separations_held 0 (λ s. high_limit bias ps (s - 1))

-- the limits of the channel for every separation
pub record LimitsOf (c : Channel) (r : ChannelLimits) : Type 0 where
  pub low : r.low ≡ tabulate separations_held 0 (λ s. low_floored bias c s)
  pub high : r.high ≡ tabulate separations_held 0 (λ s. high_floored bias c s)
