-- Spans of positions, and what a channel's limits make of them. Assumes nothing: these are definitions.
-- Limits are biased: an offset w (upper position - lower position) is within the limit (low, high) exactly if low ≤ w + b ≤ high, so nothing is negative.
use Rattle.std.specs.Prelude.{Bool, true, false, List, ℕ, zero, suc, ◌+◌, ◌-◌, ◌≤◌, ◌<◌, min, max, ltb, length, get_or}
use Rattle.spans.specs.declared.Span.{Span}

-- a SPAN of positions, half open: from ≤ x < upto. A WINDOW is the span of the positions that a strip may take
abbrev pub span : (from upto : ℕ) → Span
span a e = record { from = a; upto = e }

pub record In (s : Span) (x : ℕ) : Type 0 where
  pub above : s.from ≤ x
  pub below : x < s.upto

-- a LIMIT on the offset at one separation, biased
pub record Limit : Type 0 where
  pub low : ℕ
  pub high : ℕ

abbrev pub limit : (low high : ℕ) → Limit
limit l h = record { low = l; high = h }

-- a lower strip at x and an upper strip at y are within the limit (l, r)
pub record Fits (b l r x y : ℕ) : Type 0 where
  pub left : x + l ≤ y + b
  pub right : y + b ≤ x + r

-- a channel's LIMITS are a list with an entry for each separation 0, 1, ..; past the last separation in it the last entry holds
unfoldable pub last : List Limit → ℕ
last c = length c - 1

unfoldable pub low_at : List Limit → (separation : ℕ) → ℕ
low_at c q = (get_or c (min q (last c)) (limit 0 0)).low

unfoldable pub high_at : List Limit → (separation : ℕ) → ℕ
high_at c q = (get_or c (min q (last c)) (limit 0 0)).high

-- the positions in both
abbrev pub cut : Span → Span → Span
cut w s = span (max w.from s.from) (min w.upto s.upto)

-- the lower positions that are within the limit (l, r) of some upper position in s, if there is one in s and l ≤ r
abbrev pub shift_back : (b l r : ℕ) → Span → Span
shift_back b l r s = span (s.from + b - r) (s.upto + b - l)

-- the upper positions that are within the limit (l, r) of some lower position in s, if there is one in s and l ≤ r
abbrev pub shift_on : (b l r : ℕ) → Span → Span
shift_on b l r s = span (s.from + l - b) (s.upto + r - b)

abbrev pub nonempty : Span → Bool
nonempty s = ltb s.from s.upto

-- the least span that holds both
abbrev pub join : Span → Span → Span
join s t = span (min s.from t.from) (max s.upto t.upto)

-- a span joined with the span s shifted back, if s is not empty
abbrev pub join_if : Bool → (b l r : ℕ) → Span → Span → Span
join_if true b l r s t = join t (shift_back b l r s)
join_if false b l r s t = t

-- a span joined with f q, f (q + 1), .., n of them, each shifted back by the limit at that separation
unfoldable pub gather : (b : ℕ) → (low high : ℕ → ℕ) → (ℕ → Span) → (q n : ℕ) → Span → Span
gather b low high f q zero t = t
gather b low high f q (suc n) t = gather b low high f (suc q) n (join_if (nonempty (f q)) b (low q) (high q) (f q) t)
