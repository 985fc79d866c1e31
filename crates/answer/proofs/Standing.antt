-- The laws of the loops that fill the solver's arrays for a stack, and that the arrays then stand for the stack's windows and limits. Assumes nothing.
use mathlib.Core.Path.{◌≡◌, refl, sym, ap, ap₂, ◌∙◌}
use mathlib.Core.Bool.{true}
use mathlib.Core.Logic.{◌⊎◌, inl, inr}
use mathlib.Core.List.{List, [], ◌∷◌}
use Prim.Native.Nat.{ℕ, zero, suc, ◌+◌, ◌-◌, ◌≤◌, ◌<◌, min, max}
use native.Mathlib.Omega.{arith}
use lib.ListN.{length, get_or, set, drop, length-set, replicate, drop_of_length-le}
use lib.Seq.{get_or-set_same, get_or-set_other, drop-cons}
use lib.Dec.{leb}
use borrow.Author.Tests.{leb-true, leb-false, le-leb, lt-leb, lt-ltb, le-ltb}
use Rattle.numbers.specs.Lists.{tabulate, padded}
use Rattle.numbers.proofs.Bools.{ands}
use Rattle.numbers.proofs.Lists.{length_tabulate, get_or_tabulate}
use Rattle.numbers.proofs.Orders.{lt_or_eq, le_or_lt}
use Rattle.stack.specs.Stack.{no_channel, strip_in, channel_in, Window, free, held, Strip, no_strip, Stack, greatest_of, least_position, first_spread}
use Rattle.stack.specs.Limits.{pairs_within, channel_within, channels_within, strip_within, within_limits}
use Rattle.stack.specs.Value.{no_terminals, strip_at, floor_at, channel_at, stack_of}
use Rattle.stack.specs.declared.Stack.{Stack as StackStruct}
use Rattle.stack.specs.Sizes.{channels_held, strips_held, separations_held, totals_held}
use Rattle.stack.proofs.Values.{channel_length, stack_channel}
use Rattle.stack.proofs.Within.{strips_length, strip_in_limits, channel_in_limits, few_channels, few_pairs, small_floor, stack_channels, stack_strip}
use Rattle.limits.specs.Limits.{low_floored, high_floored, open_from}
use Rattle.channel.specs.Seeking.{LimitsOf}
use Rattle.limits.proofs.Floors.{high_floored_bounded}
use Rattle.spans.specs.Spans.{span, nonempty}
use Rattle.spans.specs.declared.Span.{Span}
use Rattle.spans.specs.Solver.{level, most, back, least_total}
use Rattle.spans.proofs.Total.{span_from_least}
use Rattle.plan.specs.Plan.{LastsAsk}
use Rattle.scan.specs.Scan.{ScanAsks, ScanIs}
use Rattle.scan.specs.declared.Scan.{Scan}
use Rattle.scan.proofs.Tables.{sized_zeros, zeros_empty}
use Rattle.band.specs.Band.{BandAsks}
use Rattle.stack.specs.declared.Placement.{Placement}
use Rattle.arrays.proofs.Levels.{most_small, most_fewer, above_at}
use Rattle.arrays.specs.Arrays.{bias, entry, low_of, high_of, last_of, window_of, limits_from, level_of, levels, Sized, span_in, PlanIs, StackAsks, Filled, InBand, Banded}
use Rattle.arrays.specs.declared.ChannelLimits.{ChannelLimits}
use Rattle.arrays.specs.declared.Given.{Given}
use Rattle.arrays.specs.declared.StripSpans.{StripSpans}
use Rattle.separations.specs.Separations.{SeparateAsks}
use Rattle.solver.specs.Placing.{separations_of, PlaceAsks, PlacementIs}
use Rattle.answer.specs.Solve.{last_use, window_span, window, growth, channel_limits, stack_levels, bottom, levels_of, total_with, separations_with, positions_with, answer_total, separations_for}
use Rattle.answer.specs.Arrays.{LimitsIn, Held, with_windows, WindowsIn, Ready, BelowGrowths, PlacedIs, AnswerIs}
use Rattle.answer.proofs.Legal.{low_bounded}
use Rattle.answer.proofs.Answers.{total_most, widening_with, exactly_with, total_any_bias, placement_any_bias}

-- one place more of a list, by a rule
pub next_place : {A : Type 0} (xs : List A) (n i : ℕ) (x d : A) (f : ℕ → A) → n < length xs → ((j : ℕ) → j < n → get_or xs j d ≡ f j) → x ≡ f n → i < n + 1 → get_or (set xs n x) i d ≡ f i
next_place xs n i x d f h all e l = go (lt_or_eq i n (omega arith))
  where
    go : (i < n) ⊎ (i ≡ n) → get_or (set xs n x) i d ≡ f i
    go (inl m) = get_or-set_other xs n i x d (omega arith) ∙ all i m
    go (inr m) = rw m (get_or-set_same xs n x d h ∙ e)

pub limits_step : (k : StackStruct) (n last : ℕ) (limits : List ChannelLimits) (lasts : List ℕ) (r : ChannelLimits) → n < k.count → k.count ≤ channels_held →
    LimitsIn (stack_of k) n limits lasts → LimitsOf (channel_at k n) r → last ≡ max (open_from (get_or k.channels n no_terminals).count) (floor_at k n) →
    LimitsIn (stack_of k) (n + 1) (set limits n r) (set lasts n last)
limits_step k n last limits lasts r h few s l e =
    record {
      sized_limits = length-set limits n _ ∙ s.sized_limits;
      sized_lasts = length-set lasts n _ ∙ s.sized_lasts;
      limits_are = λ i m. next_place limits n i _ (record { low = []; high = [] }) _ (omega (arith, s.sized_limits)) s.limits_are (rw here (ap₂ (λ (x y : List ℕ). record { low = x; high = y }) l.low l.high)) m;
      lasts_are = λ i m. next_place lasts n i _ 0 _ (omega (arith, s.sized_lasts)) s.lasts_are (rw (here, channel_length (get_or k.channels n no_terminals)) e) m;
    }
  where
    here : channel_in (stack_of k) n ≡ channel_at k n
    here = stack_channel k n h

pub windows_step : (k : StackStruct) (n s : ℕ) (x : Span) (windows : List Span) → n < suc k.count → k.count ≤ channels_held → WindowsIn (stack_of k) n s windows →
    x ≡ window s (strip_at k n) → WindowsIn (stack_of k) (n + 1) s (set windows n x)
windows_step k n s x windows h few w e =
    record {
      sized = length-set windows n _ ∙ w.sized;
      windows_are = λ i m. next_place windows n i _ (span 0 0) _ (omega (arith, w.sized)) w.windows_are (rw (e, stack_strip k n h)) m;
    }

pub below_step : (k : StackStruct) (n s least end next : ℕ) → n < suc k.count → BelowGrowths (stack_of k) n s least → end ≡ growth bias s (strip_at k n) → next ≡ min least end →
    BelowGrowths (stack_of k) (n + 1) s next
below_step k n s least end next h w e f i m = go (lt_or_eq i n (omega arith))
  where
    go : (i < n) ⊎ (i ≡ n) → next ≤ growth bias s (strip_in (stack_of k) i)
    go (inl l) = omega (arith, w i l)
    go (inr q) = rw (q, stack_strip k n h) (omega arith)

-- limits that agree up to the last separation
limits_same : (low₁ low₂ high₁ high₂ : ℕ → ℕ) (q n : ℕ) → ((j : ℕ) → q ≤ j → j < q + n → (low₁ j ≡ low₂ j) × (high₁ j ≡ high₂ j)) → limits_from low₁ high₁ q n ≡ limits_from low₂ high₂ q n
unfolding limits_from
limits_same low₁ low₂ high₁ high₂ q zero h = refl
limits_same low₁ low₂ high₁ high₂ q (suc n) h =
    let e = h q (omega arith) (omega arith) in
    rw (e.0, e.1, limits_same low₁ low₂ high₁ high₂ (suc q) n (λ j l m. h j (omega arith) (omega arith)))

-- THE ARRAYS STAND FOR THE STACK
pub record Stands (k : Stack) (s : ℕ) (g : Given) : Type 0 where
  pub good : within_limits k ≡ true
  pub limits : LimitsIn k (length k.channels) g.limits g.plan.lasts
  pub planned : PlanIs g.limits (length k.channels) g.plan
  pub windows : WindowsIn k (suc (length k.channels)) s g.windows
  pub counted : g.channels ≡ length k.channels

module _ (k : Stack) (s : ℕ) (g : Given) (st : Stands k s g) where
  abbrev m : ℕ
  m = length k.channels

  within : channels_within k.strips k.channels ≡ true
  unfolding within_limits
  within = let e = st.good in search ands

  channel_good : (i : ℕ) → i < m → channel_within (strip_in k i).length (strip_in k (suc i)).length (channel_in k i) ≡ true
  channel_good i h = channel_in_limits k.strips k.channels i within h

  last_small : (i : ℕ) → i < m → last_use (channel_in k i) < separations_held
  unfolding channel_within pairs_within
  last_small i h =
      let e = channel_good i h in
      omega (arith, leb-true (length (channel_in k i).pairs) 32 (search ands), leb-true (channel_in k i).floor 64 (search ands))

  low_is : (i q : ℕ) → i < m → q ≤ last_use (channel_in k i) → low_of g i q ≡ low_floored bias (channel_in k i) q
  low_is i q h l = rw (st.limits.limits_are i h) (get_or_tabulate separations_held q (λ t. low_floored bias (channel_in k i) t) 0 (omega (arith, last_small i h)))

  high_is : (i q : ℕ) → i < m → q ≤ last_use (channel_in k i) → high_of g i q ≡ high_floored bias (channel_in k i) q
  high_is i q h l = rw (st.limits.limits_are i h) (get_or_tabulate separations_held q (λ t. high_floored bias (channel_in k i) t) 0 (omega (arith, last_small i h)))

  window_is : (i : ℕ) → i < suc m → window_of g i ≡ window s (strip_in k i)
  window_is i h = rw (st.windows.windows_are i h)

  level_is : (i : ℕ) → i < m → level_of g i ≡ level (channel_limits bias (channel_in k i)) (window s (strip_in k (suc i)))
  unfolding channel_limits
  level_is i h =
      rw (st.limits.lasts_are i h)
      (ap₂ level (limits_same _ _ _ _ 0 (suc (last_use (channel_in k i))) (λ j l n. (low_is i j h (omega arith), high_is i j h (omega arith)))) (window_is (suc i) (omega arith)))

  levels_from : (i n : ℕ) → i + n ≡ m → levels g i n ≡ stack_levels bias s (drop (suc i) k.strips) (drop i k.channels)
  unfolding levels stack_levels
  levels_from i zero e =
      let none : drop (suc i) k.strips ≡ [] = drop_of_length-le k.strips {i = suc i} (omega (arith, strips_length k.strips k.channels within)) in
      rw none
  levels_from i (suc n) e =
      let long = strips_length k.strips k.channels within in
      rw (drop-cons k.strips (suc i) no_strip (omega arith), drop-cons k.channels i no_channel (omega arith))
      (ap₂ ◌∷◌ (level_is i (omega arith)) (levels_from (suc i) n (omega arith)))

  -- the solver's stack is the stack's
  pub levels_are : levels g 0 g.channels ≡ levels_of bias k s
  unfolding levels_of
  levels_are = levels_from 0 g.channels (omega arith)

  pub bottom_is : window_of g 0 ≡ bottom k s
  unfolding bottom
  bottom_is = window_is 0 (omega arith)

-- from the first spread on no strip, nor its least position, is beyond the spread
length_most : (s : ℕ) (ls : List Strip) (i : ℕ) → first_spread ls ≤ s → i < length ls → (get_or ls i no_strip).length + least_position (get_or ls i no_strip).window ≤ s
unfolding first_spread greatest_of
length_most s [] i h l = absurd (omega arith)
length_most s (l ∷ ls) zero h m = omega arith
length_most s (l ∷ ls) (suc i) h m = length_most s ls i (omega arith) (omega arith)

window_within_spread : (s n : ℕ) (w : Window) → 1 ≤ n → n + least_position w ≤ s → ((window_span s n w).from ≤ s) × ((window_span s n w).upto ≤ s)
unfolding window_span least_position
window_within_spread s n free h i = (omega arith, omega arith)
window_within_spread s n (held a e) h i = (omega arith, omega arith)

-- what the solver asks
module _ (k : Stack) (s : ℕ) (g : Given) (st : Stands k s g) (fits : s < 4294967296) (wide : first_spread k.strips ≤ s) where
  abbrev n : ℕ
  n = length k.channels

  last_right : (i : ℕ) → i < n → last_of g i ≡ last_use (channel_in k i)
  last_right i h = st.limits.lasts_are i h

  strips_many : length k.strips ≡ suc n
  strips_many = strips_length k.strips k.channels (within k s g st)

  strip_most : (i : ℕ) → i ≤ n → (strip_in k i).length + least_position (strip_in k i).window ≤ s
  strip_most i h = length_most s k.strips i wide (omega (arith, strips_many))

  -- windows lie within the spread
  window_small : (i : ℕ) → i ≤ n → ((window_of g i).from ≤ s) × ((window_of g i).upto ≤ s)
  unfolding within_limits strip_within
  window_small i h =
      let e = st.good in
      let good = strip_in_limits k.strips i (search ands) (omega (arith, strips_many)) in
      rw (st.windows.windows_are i (omega arith)) (window_within_spread s (strip_in k i).length (strip_in k i).window (leb-true 1 (strip_in k i).length (search ands)) (strip_most i h))

  pub asks : StackAsks g
  unfolding within_limits
  asks =
      let e = st.good in
      record {
        some = rw st.counted (leb-true 1 n (search ands));
        channels = rw st.counted (leb-true n 8 (search ands));
        planned = rw st.counted st.planned;
        listed = λ i h. let l : i < n = omega arith in omega (arith, last_right i l, last_small k s g st i l);
        starts = λ i h. omega (arith, window_small i (omega arith));
        ends = λ i h. omega (arith, window_small i (omega arith));
        lows = λ i q h l.
            let j : i < n = omega arith in
            omega (arith, low_is k s g st i q j (omega (arith, last_right i j)), low_bounded bias s (strip_in k i).length (strip_in k (suc i)).length q (channel_in k i) (omega arith) (omega (arith, strip_most i (omega arith))) (channel_good k s g st i j));
        highs = λ i q h l. let j : i < n = omega arith in omega (arith, high_is k s g st i q j (omega (arith, last_right i j)), high_floored_bounded bias (channel_in k i) q);
      }

  -- the scan finds the least total
  pub scanned_total : (cap : ℕ) (t : List StripSpans) (r : Scan) → cap ≡ most (levels g 0 g.channels) → ScanIs g cap t r → r.total ≡ total_with bias k s
  unfolding total_with least_total
  scanned_total cap t r e i = i.total_is ∙ rw (e, bottom_is k s g st, levels_are k s g st)

  pub place_asks : (total : ℕ) → total_with bias k s ≤ total → total < 4294967296 → PlaceAsks g total
  place_asks total e h =
      record {
        stack = asks;
        narrow = λ i j. omega (arith, window_small i (omega arith));
        widening = rw (levels_are k s g st) (widening_with bias s (omega arith) k st.good wide);
        fits = h;
        exactly = rw (bottom_is k s g st, levels_are k s g st) (exactly_with bias s (omega arith) k st.good wide total e);
      }

  -- a total of use has a span exactly if it is not below the least one
  pub span_met : (u : ℕ) → u ≤ most (levels g 0 g.channels) → nonempty (back bias (window_of g 0) (levels g 0 g.channels) u) ≡ leb (total_with bias k s) u
  unfolding total_with
  span_met u h =
      rw (bottom_is k s g st, levels_are k s g st)
      (span_from_least bias (bottom k s) (levels_of bias k s) (widening_with bias s (omega arith) k st.good wide) u (rw (levels_are k s g st) at h))

  pub least_is : total_with bias k s ≡ answer_total k s
  least_is = total_any_bias k s st.good wide bias (omega arith)

  -- THE PLACEMENT for a total from the least one on
  pub placement_made : (total : ℕ) (r : Placement) → answer_total k s ≤ total → PlacementIs g total r → PlacedIs k s total r
  unfolding separations_with positions_with
  placement_made total r e p =
      let one = placement_any_bias k s st.good wide bias (omega arith) total e in
      let ts : separations_of g total ≡ separations_for k s total = rw (bottom_is k s g st, levels_are k s g st) one.0 in
      record {
        total_is = p.total_is;
        separations_are = p.separations_are ∙ ap (padded channels_held) ts;
        positions_are = p.positions_are ∙ ap (padded strips_held) (rw (bottom_is k s g st, levels_are k s g st) one.1);
      }

-- a table that is filled for all that the channels above the first can use of a total is filled in its bands
filled_banded : (g : Given) (total cap : ℕ) (t : List StripSpans) → Filled g cap 0 t → min total (most (levels g 1 (g.channels - 1))) ≤ cap → Banded g total 1 t
filled_banded g total cap t f h =
    record { sized = f.sized; banded = λ j n u i e b. f.filled j n u (omega arith) e (capped j n u i e b.0 b.1) b.1 }
  where
    capped : (j n u : ℕ) → 1 ≤ j → j + n ≡ g.channels → u ≤ total → u ≤ most (levels g j n) → u ≤ cap
    capped j n u i e x y =
        let z : 1 + (j - 1) ≡ j = omega arith in
        let w : j - 1 + n ≡ g.channels - 1 = omega arith in
        omega (arith, rw (z, w) at (most_fewer g (j - 1) 1 n))

-- a total that is at least the least one is so too where it is cut down to what is of use
cut_test : (least total used all : ℕ) → used ≡ min total all → least ≤ all → leb least used ≡ leb least total
cut_test least total used all e h = go (le_or_lt least total)
  where
    go : (least ≤ total) ⊎ (total < least) → leb least used ≡ leb least total
    go (inl l) = le-leb least used (omega arith) ∙ sym (le-leb least total l)
    go (inr l) = lt-leb least used (omega arith) ∙ sym (lt-leb least total l)

-- what the plan is made from, and what is held then
module _ (k : StackStruct) (limits : List ChannelLimits) (lasts : List ℕ) (e : within_limits (stack_of k) ≡ true) (l : LimitsIn (stack_of k) k.count limits lasts) where
  pub filled_lasts : LastsAsk lasts k.count
  filled_lasts =
      record {
        channels = few_channels k e;
        listed = λ i h.
            let last : entry lasts i ≡ max (open_from (get_or k.channels i no_terminals).count) (floor_at k i) =
            rw (stack_channel k i h, channel_length (get_or k.channels i no_terminals)) at (l.lasts_are i h) in
            omega (arith, few_pairs k e i h, small_floor k e i h);
      }

-- limits and plan serve for every spread
pub held_on : (k : StackStruct) (g : Given) (ws : List Span) → Held k g → Held k (with_windows g ws)
held_on k g ws h = record { good = h.good; filled = h.filled; planned = h.planned; counted = h.counted }

-- what is given to the solver
module _ (k : StackStruct) (s : ℕ) (g : Given) (ready : Ready k s g) where
  abbrev fits : s < 4294967296
  fits = ready.fits

  abbrev wide : first_spread (stack_of k).strips ≤ s
  wide = ready.wide

  pub held_stands : Stands (stack_of k) s g
  held_stands =
      record { good = ready.held.good; limits = rw (stack_channels k) ready.held.filled; planned = rw (stack_channels k) ready.held.planned; windows = rw (stack_channels k) ready.filled; counted = rw (stack_channels k) ready.held.counted }

  pub held_asks : StackAsks g
  held_asks = asks (stack_of k) s g held_stands fits wide

  all_used : entry g.plan.above 0 ≡ most (levels g 0 g.channels)
  all_used = above_at g held_asks.planned 0 g.channels (omega arith)

  pub cap_used : (cap : ℕ) → cap ≤ entry g.plan.above 0 → cap ≤ most (levels g 0 g.channels)
  cap_used cap h = omega (arith, all_used)

  pub cap_small : (cap : ℕ) → cap ≤ entry g.plan.above 0 → cap < totals_held
  cap_small cap h = omega (arith, all_used, most_small g held_asks 0 g.channels (omega arith), held_asks.channels)

  pub held_scan_asks : (cap : ℕ) (t : List StripSpans) → cap ≤ entry g.plan.above 0 → Sized t → ScanAsks g cap t
  held_scan_asks cap t h z = record { stack = held_asks; total = cap_small cap h; of_use = cap_used cap h; sized = z }

  total_used : total_with bias (stack_of k) s ≤ most (levels g 0 g.channels)
  total_used =
      let m = total_most bias s (omega arith) (stack_of k) ready.held.good wide in
      omega (arith, ap most (levels_are (stack_of k) s g held_stands))

  total_within : answer_total (stack_of k) s ≤ entry g.plan.above 0
  total_within = omega (arith, least_is (stack_of k) s g held_stands fits wide, total_used, all_used)

  -- a placement for a total from the least one on, with a table that is filled in its bands
  module _ (total : ℕ) (t : List StripSpans) (least : answer_total (stack_of k) s ≤ total) where
    pub held_place_asks : total < 4294967296 → Banded g total 1 t → PlaceAsks g total × SeparateAsks g total t
    held_place_asks h f = (
      place_asks (stack_of k) s g held_stands fits wide total (omega (arith, least_is (stack_of k) s g held_stands fits wide)) h,
      record { stack = held_asks; table = f; fits = h },
    )

    pub held_placed : (p : Placement) → PlacementIs g total p → PlacedIs (stack_of k) s total p
    held_placed p q = placement_made (stack_of k) s g held_stands fits wide total p least q

  module _ (cap : ℕ) (t : List StripSpans) (r : Scan) (i : ScanIs g cap t r) where
    -- a least total that is found has its placement in the table
    module _ (capped : cap ≤ entry g.plan.above 0) (found : r.total ≤ cap) (least : r.total ≡ answer_total (stack_of k) s) where
      pub found_place_asks : PlaceAsks g r.total × SeparateAsks g r.total t
      found_place_asks =
          held_place_asks r.total t (omega arith) (omega (arith, cap_small cap capped))
          (filled_banded g r.total (min r.total cap) t i.table (omega arith))

      pub found_placed : (p : Placement) → PlacementIs g r.total p → AnswerIs (stack_of k) s p
      found_placed p q = rw (← least) (held_placed r.total t (omega arith) p q)

    -- a scan of all totals of use finds it
    module _ (whole : cap ≡ entry g.plan.above 0) where
      whole_total : r.total ≡ total_with bias (stack_of k) s
      whole_total = scanned_total (stack_of k) s g held_stands fits wide cap t r (whole ∙ all_used) i

      pub whole_least : r.total ≡ answer_total (stack_of k) s
      whole_least = whole_total ∙ least_is (stack_of k) s g held_stands fits wide

      whole_found : r.total ≤ cap
      whole_found = omega (arith, whole_total, total_used, all_used)

      pub whole_place_asks : PlaceAsks g r.total × SeparateAsks g r.total t
      whole_place_asks = found_place_asks (omega arith) whole_found whole_least

      pub whole_placed : (p : Placement) → PlacementIs g r.total p → AnswerIs (stack_of k) s p
      whole_placed p q = found_placed (omega arith) whole_found whole_least p q

      pub whole_small : r.total < 4294967296
      whole_small = omega (arith, whole_found, cap_small cap (omega arith))

  -- the table filled in the bands of a stated total
  pub held_band_asks : (total : ℕ) → total < 4294967296 → BandAsks g total (replicate strips_held (record { from = replicate totals_held 0; upto = replicate totals_held 0 }))
  held_band_asks total h = record { stack = held_asks; fits = h; sized = sized_zeros; empty = zeros_empty }

  module _ (total used : ℕ) (t : List StripSpans) (b : Banded g total 0 t) (e : used ≡ min total (entry g.plan.above 0)) where
    bottom_band : InBand g total 0 g.channels used
    bottom_band = (omega arith, omega (arith, all_used), go (le_or_lt (entry g.plan.above 0) total))
      where
        go : (entry g.plan.above 0 ≤ total) ⊎ (total < entry g.plan.above 0) →
            (used ≡ most (levels g 0 g.channels)) ⊎ (total + most (levels g 0 g.channels) ≤ used + (most (levels g 0 g.channels) + 0))
        go (inl h) = inl (omega (arith, all_used))
        go (inr h) = inr (omega arith)

    -- THE TOTAL IS MET exactly if the bottom strip has a position
    pub band_met : nonempty (span_in t 0 used) ≡ leb (answer_total (stack_of k) s) total
    band_met =
        let least = least_is (stack_of k) s g held_stands fits wide in
        let here = b.banded 0 g.channels used (omega arith) (omega arith) bottom_band in
        let met = span_met (stack_of k) s g held_stands fits wide used (omega (arith, all_used)) in
        ap nonempty here ∙ (met ∙ (ap (λ v. leb v used) least ∙ cut_test (answer_total (stack_of k) s) total used (entry g.plan.above 0) e (omega (arith, least, total_used, all_used))))

    pub band_unmet : (span_in t 0 used).upto ≤ (span_in t 0 used).from → total < answer_total (stack_of k) s
    band_unmet h = leb-false (answer_total (stack_of k) s) total (sym band_met ∙ le-ltb (span_in t 0 used).from (span_in t 0 used).upto h)

    pub band_reached : (span_in t 0 used).from < (span_in t 0 used).upto → leb (answer_total (stack_of k) s) total ≡ true
    band_reached h = sym band_met ∙ lt-ltb (span_in t 0 used).from (span_in t 0 used).upto h

    -- and then it can be placed
    module _ (h : leb (answer_total (stack_of k) s) total ≡ true) where
      pub band_place_asks : total < 4294967296 → PlaceAsks g total × SeparateAsks g total t
      band_place_asks l =
          held_place_asks total t (leb-true (answer_total (stack_of k) s) total h) l
          (record { sized = b.sized; banded = λ j n u i q x. b.banded j n u (omega arith) q x })

      pub band_placed : (p : Placement) → PlacementIs g total p → PlacedIs (stack_of k) s total p
      band_placed p q = held_placed total t (leb-true (answer_total (stack_of k) s) total h) p q

-- no least total is more than all last separations of use
pub total_capped : (k : StackStruct) (s : ℕ) (g : Given) → s < 4294967296 → first_spread (stack_of k).strips ≤ s → Held k g → answer_total (stack_of k) s ≤ entry g.plan.above 0
total_capped k s g fits wide a =
    total_within k s (with_windows g (tabulate strips_held 0 at))
    (record {
      fits = fits;
      wide = wide;
      held = held_on k g (tabulate strips_held 0 at) a;
      filled = record { sized = length_tabulate strips_held 0 at; windows_are = λ i h. get_or_tabulate strips_held i at (span 0 0) (omega (arith, few_channels k a.good)) };
    })
  where
    at : ℕ → Span
    at i = window s (strip_in (stack_of k) i)
