-- What the structs stand for that the solver's functions share. Assumes nothing: these are definitions.
use Rattle.std.specs.Prelude.{◌≡◌, ◌⊎◌, Option, None, Some, List, [], ◌∷◌, ℕ, zero, suc, ◌+◌, ◌*◌, ◌≤◌, ◌<◌, length, get_or, set, map, unwrap_or}
use Rattle.stack.specs.Sizes.{channels_held, strips_held, last_held, separations_held, totals_held}
use Rattle.spans.specs.Spans.{span, Limit, limit}
use Rattle.spans.specs.declared.Span.{Span}
use Rattle.spans.specs.Solver.{Level, level, first_open, most, back}
use Rattle.arrays.specs.declared.ChannelLimits.{ChannelLimits}
use Rattle.arrays.specs.declared.Plan.{Plan}
use Rattle.arrays.specs.declared.StripSpans.{StripSpans}
use Rattle.arrays.specs.declared.Given.{Given}

-- the code's bias, Stack::BIAS
abbrev pub bias : ℕ
bias = 8589934592

-- the greatest end of a window, and of a span in it: 32 bits
abbrev pub greatest_end : ℕ
greatest_end = 4294967295

abbrev pub entry : List ℕ → (q : ℕ) → ℕ
entry xs q = get_or xs q 0

-- a number, or None for 0
abbrev pub unless_zero : ℕ → Option ℕ
unless_zero zero = None
unless_zero (suc n) = Some (suc n)

-- the numbers of a list, 0 for None
abbrev pub ends_of : List (Option ℕ) → List ℕ
ends_of hs = map (λ h. unwrap_or h 0) hs

-- the limits of channel i
abbrev pub limits_of : List ChannelLimits → (i : ℕ) → ChannelLimits
limits_of ls i = get_or ls i (record { low = []; high = [] })

abbrev pub low_in : ChannelLimits → (q : ℕ) → ℕ
low_in c q = entry c.low q

abbrev pub high_in : ChannelLimits → (q : ℕ) → ℕ
high_in c q = entry c.high q

-- what a span in s shifted by the limit at separation q asks: the limit stands in the arrays, and no number is cut off by the bias
pub record ShiftAsks (c : ChannelLimits) (q : ℕ) (s : Span) : Type 0 where
  pub listed : q < separations_held
  pub starts : s.from ≤ strips_held * bias
  pub ends : s.upto ≤ bias
  pub low_small : low_in c q ≤ 2 * bias
  pub high_small : high_in c q ≤ 2 * bias

-- the spans of strip i in a table
abbrev pub spans_of : List StripSpans → (i : ℕ) → StripSpans
spans_of t i = get_or t i (record { from = []; upto = [] })

-- a strip's span for the total v
abbrev pub span_at : StripSpans → (v : ℕ) → Span
span_at r v = span (entry r.from v) (entry r.upto v)

-- a strip's spans with the span w for the total v
abbrev pub span_put : StripSpans → (v : ℕ) → Span → StripSpans
span_put r v w = record { from = set r.from v w.from; upto = set r.upto v w.upto }

abbrev pub window_at : List Span → (i : ℕ) → Span
window_at ws i = get_or ws i (span 0 0)

-- THE STACK that is given: in channel i the limits at separations 0 to the last of use, the window of strip i. Channel i lies under strip i + 1
abbrev pub low_of : Given → (i q : ℕ) → ℕ
low_of g i q = low_in (limits_of g.limits i) q

abbrev pub high_of : Given → (i q : ℕ) → ℕ
high_of g i q = high_in (limits_of g.limits i) q

-- the last separation of use in channel i: from there on the limits do not widen
abbrev pub last_of : Given → (i : ℕ) → ℕ
last_of g i = entry g.plan.lasts i

abbrev pub window_of : Given → (i : ℕ) → Span
window_of g i = window_at g.windows i

-- n limits from separation q on
unfoldable pub limits_from : (low high : ℕ → ℕ) → (q n : ℕ) → List Limit
limits_from low high q zero = []
limits_from low high q (suc n) = limit (low q) (high q) ∷ limits_from low high (suc q) n

abbrev pub level_of : Given → (i : ℕ) → Level
level_of g i = level (limits_from (low_of g i) (high_of g i) 0 (suc (last_of g i))) (window_of g (suc i))

-- n levels from channel i on
unfoldable pub levels : Given → (i n : ℕ) → List Level
levels g i zero = []
levels g i (suc n) = level_of g i ∷ levels g (suc i) n

-- xs written over ys from place i on
unfoldable pub store : (ys : List ℕ) → (i : ℕ) → (xs : List ℕ) → List ℕ
store ys i [] = ys
store ys i (x ∷ xs) = store (set ys i x) (suc i) xs

-- n entries from place i on
unfoldable pub taken : List ℕ → (i n : ℕ) → List ℕ
taken xs i zero = []
taken xs i (suc n) = entry xs i ∷ taken xs (suc i) n

-- two rows, in each a cell for each total
pub record TwoRows (r : StripSpans) : Type 0 where
  pub starts : length r.from ≡ totals_held
  pub ends : length r.upto ≡ totals_held

-- a table: the spans of each strip
pub record Sized (t : List StripSpans) : Type 0 where
  pub strips : length t ≡ strips_held
  pub rows : (i : ℕ) → i < strips_held → TwoRows (spans_of t i)

abbrev pub span_in : List StripSpans → (i v : ℕ) → Span
span_in t i v = span_at (spans_of t i) v

-- the sum of n last separations from i on
unfoldable pub sums : List ℕ → (i n : ℕ) → ℕ
sums xs i zero = 0
sums xs i (suc n) = entry xs i + sums xs (suc i) n

-- for each strip from i on the sum of the last separations above it
pub record SumsAre (lasts : List ℕ) (k i : ℕ) (r : List ℕ) : Type 0 where
  pub size : length r ≡ strips_held
  pub sums_are : (j n : ℕ) → i ≤ j → j + n ≡ k → entry r j ≡ sums lasts j n
  pub small : (j : ℕ) → i ≤ j → j ≤ k → entry r j + last_held * j ≤ last_held * k

-- for each channel up to i its least open separation
pub record LeastsAre (limits : List ChannelLimits) (lasts : List ℕ) (i : ℕ) (r : List ℕ) : Type 0 where
  pub size : length r ≡ strips_held
  pub leasts_are : (j : ℕ) → j < i → entry r j ≡ first_open (low_in (limits_of limits j)) (high_in (limits_of limits j)) (entry lasts j)

-- the plan of k channels with these limits
pub record PlanIs (limits : List ChannelLimits) (k : ℕ) (plan : Plan) : Type 0 where
  pub leasts : LeastsAre limits plan.lasts k plan.leasts
  pub mosts : SumsAre plan.lasts k 0 plan.above

-- what all of it asks: some channels and their plan, last separations within the arrays, ends and limits that leave room for the bias
pub record StackAsks (g : Given) : Type 0 where
  pub some : 1 ≤ g.channels
  pub channels : g.channels ≤ channels_held
  pub planned : PlanIs g.limits g.channels g.plan
  pub listed : (i : ℕ) → i < g.channels → last_of g i < separations_held
  pub starts : (i : ℕ) → i ≤ g.channels → (window_of g i).from ≤ greatest_end
  pub ends : (i : ℕ) → i ≤ g.channels → (window_of g i).upto ≤ greatest_end
  pub lows : (i q : ℕ) → i < g.channels → q ≤ last_of g i → low_of g i q ≤ 2 * bias
  pub highs : (i q : ℕ) → i < g.channels → q ≤ last_of g i → high_of g i q ≤ 2 * bias

-- rows i to the top one of the table hold the spans of their strips, for totals up to cap
pub record Filled (g : Given) (cap i : ℕ) (t : List StripSpans) : Type 0 where
  pub sized : Sized t
  pub filled : (j n v : ℕ) → i ≤ j → j + n ≡ g.channels → v ≤ cap → v ≤ most (levels g j n) → span_in t j v ≡ back bias (window_of g j) (levels g j n) v

-- IN THE BAND of strip j for a stated total: all that the channels above it can use, or what is left of the total where no channel below has more than a track above
-- its last separation
abbrev pub InBand : Given → (total j n u : ℕ) → Type 0
InBand g v j n u =
    (u ≤ v) × (u ≤ most (levels g j n)) × ((u ≡ most (levels g j n)) ⊎ (v + most (levels g j n) ≤ u + (most (levels g 0 g.channels) + j)))

-- rows i to the top one of the table hold the spans of their strips, for the totals in the band
pub record Banded (g : Given) (total i : ℕ) (t : List StripSpans) : Type 0 where
  pub sized : Sized t
  pub banded : (j n u : ℕ) → i ≤ j → j + n ≡ g.channels → InBand g total j n u → span_in t j u ≡ back bias (window_of g j) (levels g j n) u
