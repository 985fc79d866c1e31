-- When what is given to the solver stands for a stack: the limits of its channels, and the windows of its strips in a spread; what the code gives. Assumes nothing: these are definitions.
use Rattle.std.specs.Prelude.{◌≡◌, true, List, ℕ, suc, ◌≤◌, ◌<◌, length}
use Rattle.stack.specs.Value.{tracks_of, columns_of, stack_of}
use Rattle.numbers.specs.Lists.{tabulate, padded}
use Rattle.stack.specs.Stack.{Channel, strip_in, channel_in, Stack, first_spread}
use Rattle.stack.specs.Limits.{within_limits}
use Rattle.stack.specs.declared.Stack.{Stack as StackStruct}
use Rattle.stack.specs.Sizes.{channels_held, strips_held, separations_held}
use Rattle.spans.specs.declared.Span.{Span}
use Rattle.limits.specs.Limits.{low_floored, high_floored}
use Rattle.arrays.specs.Arrays.{bias, entry, limits_of, window_at, PlanIs}
use Rattle.arrays.specs.declared.ChannelLimits.{ChannelLimits}
use Rattle.arrays.specs.declared.Given.{Given}
use Rattle.stack.specs.declared.Placement.{Placement}
use Rattle.answer.specs.Solve.{last_use, window, growth, answer_total, separations_for, positions_for}

-- a channel's limits, in a row of lows and a row of highs
abbrev pub limit_rows : Channel → ChannelLimits
limit_rows c = record { low = tabulate separations_held 0 (λ t. low_floored bias c t); high = tabulate separations_held 0 (λ t. high_floored bias c t) }

-- the first n channels' limits and last separations of use
pub record LimitsIn (k : Stack) (n : ℕ) (limits : List ChannelLimits) (lasts : List ℕ) : Type 0 where
  pub sized_limits : length limits ≡ channels_held
  pub sized_lasts : length lasts ≡ strips_held
  pub limits_are : (i : ℕ) → i < n → limits_of limits i ≡ limit_rows (channel_in k i)
  pub lasts_are : (i : ℕ) → i < n → entry lasts i ≡ last_use (channel_in k i)

-- the limits and the plan of a stack, which serve for every spread
pub record Held (k : StackStruct) (g : Given) : Type 0 where
  pub good : within_limits (stack_of k) ≡ true
  pub filled : LimitsIn (stack_of k) k.count g.limits g.plan.lasts
  pub planned : PlanIs g.limits k.count g.plan
  pub counted : g.channels ≡ k.count

-- the same with other windows
abbrev pub with_windows : Given → List Span → Given
with_windows g ws = record { limits = g.limits; plan = g.plan; windows = ws; channels = g.channels }

-- the first n strips' windows
pub record WindowsIn (k : Stack) (n s : ℕ) (windows : List Span) : Type 0 where
  pub sized : length windows ≡ strips_held
  pub windows_are : (i : ℕ) → i < n → window_at windows i ≡ window s (strip_in k i)

-- what the solver is given for a stack in a spread from the first one on
pub record Ready (k : StackStruct) (s : ℕ) (g : Given) : Type 0 where
  pub fits : s < 4294967296
  pub wide : first_spread (stack_of k).strips ≤ s
  pub held : Held k g
  pub filled : WindowsIn (stack_of k) (suc k.count) s g.windows

-- a number that is above none of the first n strips' growing ends
abbrev pub BelowGrowths : Stack → (n s least : ℕ) → Type 0
BelowGrowths k n s least = (i : ℕ) → i < n → least ≤ growth bias s (strip_in k i)

-- THE PLACEMENT for a total as the code gives it, with zeros in unused places
pub record PlacedIs (k : Stack) (s v : ℕ) (r : Placement) : Type 0 where
  pub total_is : r.total.0 ≡ v
  pub separations_are : tracks_of r.separations ≡ padded channels_held (separations_for k s v)
  pub positions_are : columns_of r.positions ≡ padded strips_held (positions_for k s v)

-- THE ANSWER: the placement for the least total
abbrev pub AnswerIs : Stack → (s : ℕ) → Placement → Type 0
AnswerIs k s r = PlacedIs k s (answer_total k s) r
