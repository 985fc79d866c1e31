-- What the search for the positions asks, and the invariants of its loops over strips. Assumes nothing: these are definitions.
use Rattle.std.specs.Prelude.{◌≡◌, List, ℕ, suc, ◌+◌, ◌*◌, ◌≤◌, ◌<◌, length, replicate}
use Rattle.stack.specs.Sizes.{strips_held, separations_held}
use Rattle.spans.specs.declared.Span.{Span}
use Rattle.spans.specs.Solver.{fixed, positions_on, positions}
use Rattle.spans.specs.Placed.{Placed}
use Rattle.arrays.specs.Arrays.{bias, low_in, entry, window_of, levels, StackAsks, store, taken}
use Rattle.arrays.specs.declared.ChannelLimits.{ChannelLimits}
use Rattle.arrays.specs.declared.Given.{Given}

-- the span of strip i from which the strips above can be placed with the separations ts
abbrev pub fixed_from : Given → (ts : List ℕ) → (i n : ℕ) → Span
fixed_from g ts i n = fixed bias (window_of g i) (levels g i n) (taken ts i n)

-- from strip i on, the starts of these spans
pub record StartsAre (g : Given) (ts : List ℕ) (i : ℕ) (starts : List ℕ) : Type 0 where
  pub size : length starts ≡ strips_held
  pub written : (j n : ℕ) → i ≤ j → j + n ≡ g.channels → entry starts j ≡ (fixed_from g ts j n).from

-- what the position of the strip above asks of the channel below it
pub record NextAsks (c : ChannelLimits) (last x : ℕ) : Type 0 where
  pub listed : last < separations_held
  pub position : x ≤ bias
  pub lows_small : (q : ℕ) → q ≤ last → low_in c q ≤ 2 * bias

-- positions fit their type
abbrev pub Narrow : Given → Type 0
Narrow g = (i : ℕ) → i ≤ g.channels → (window_of g i).upto ≤ 4294967296

-- what the search for the positions asks: a placement with these separations
pub record PositionAsks (g : Given) (ts : List ℕ) : Type 0 where
  pub stack : StackAsks g
  pub narrow : Narrow g
  pub x : ℕ
  pub ys : List ℕ
  pub placed : Placed bias (window_of g 0) (levels g 0 g.channels) (taken ts 0 g.channels) x ys

-- the spans for given separations worked out down to strip i, its span in s
pub record Fixing (g : Given) (ts : List ℕ) (i : ℕ) (s : Span) (starts : List ℕ) : Type 0 where
  pub to_top : i ≤ g.channels
  pub starts_are : StartsAre g ts i starts
  pub here : (n : ℕ) → i + n ≡ g.channels → s ≡ fixed_from g ts i n
  pub from_small : s.from + bias * i ≤ bias * suc g.channels
  pub upto_small : s.upto ≤ bias

-- the positions of the strips up to i written, strip i at x
pub record Positioning (g : Given) (ts : List ℕ) (i x : ℕ) (xs : List ℕ) : Type 0 where
  pub inside : i ≤ g.channels
  pub left :
      (n : ℕ)
      → i + n ≡ g.channels
      → store xs (suc i) (positions_on bias x (levels g i n) (taken ts i n))
      ≡ store (replicate strips_held 0) 0 (positions bias (window_of g 0) (levels g 0 g.channels) (taken ts 0 g.channels))
  pub placed :
      (n : ℕ)
      → i + n ≡ g.channels
      → Placed bias (window_of g i) (levels g i n) (taken ts i n) x (positions_on bias x (levels g i n) (taken ts i n))
