-- What the scan of one spread asks, and the jump behind it; that a total found gives the answer. Assumes nothing.
use mathlib.Core.Path.{◌≡◌}
use mathlib.Core.List.{List}
use Prim.Native.Nat.{ℕ, suc, ◌^◌, ◌≤◌, ◌<◌, min}
use native.Mathlib.Omega.{arith}
use Rattle.spans.specs.declared.Span.{Span}
use Rattle.stack.specs.Value.{stack_of}
use Rattle.stack.specs.declared.Stack.{Stack as StackStruct}
use Rattle.stack.proofs.Within.{stack_channels, strips_count}
use Rattle.arrays.specs.Arrays.{bias, entry}
use Rattle.arrays.specs.declared.Given.{Given}
use Rattle.arrays.specs.declared.StripSpans.{StripSpans}
use Rattle.separations.specs.Separations.{SeparateAsks}
use Rattle.solver.specs.Placing.{PlaceAsks, PlacementIs}
use Rattle.scan.specs.Scan.{ScanIs}
use Rattle.scan.specs.declared.Scan.{Scan}
use Rattle.stack.specs.declared.Placement.{Placement}
use Rattle.answer.specs.Solve.{answer_total}
use Rattle.answer.specs.Arrays.{with_windows, Ready, WindowsIn, BelowGrowths, AnswerIs}
use Rattle.answer.proofs.Standing.{held_on, held_stands, held_asks, cap_used, cap_small, found_place_asks, found_placed}
use Rattle.growth.specs.Growth.{NoneLess, GrowthAsks}
use Rattle.growth.proofs.Levels.{scan_none_less}
use Rattle.rows.specs.Growths.{growths_of, GrowthsIn}
use Rattle.rows.specs.Evaluate.{EvaluateAsks, Evaluated, PlaceRowAsks}
use Rattle.rows.proofs.Growths.{growths_listed, growths_below, growths_whole}
use Rattle.rows.proofs.Steps.{scan_finds, scan_most}

-- what is given once the windows of a spread stand in it
pub ready_for : (k : StackStruct) (s cap : ℕ) (g : Given) (windows : List Span) (t : List StripSpans) → s < 2 ^ 32 → EvaluateAsks k s cap g t →
    WindowsIn (stack_of k) (suc k.count) s windows → Ready k s (with_windows g windows)
ready_for k s cap g windows t fits a w = record { fits = fits; wide = a.wide; held = held_on k g windows a.held; filled = w }

pub ready_row : (k : StackStruct) (s : ℕ) (g : Given) (t : List StripSpans) (r : Scan) → s < 2 ^ 32 → PlaceRowAsks k s g t r → Ready k s g
ready_row k s g t r fits a = record { fits = fits; wide = a.wide; held = a.evaluated.held; filled = a.evaluated.spread_windows }

module _ (k : StackStruct) (s : ℕ) (g : Given) (ready : Ready k s g) (cap : ℕ) (t : List StripSpans) (r : Scan) (i : ScanIs g cap t r) (capped : cap ≤ entry g.plan.above 0) where
  -- what the jump by growing ends asks
  pub growth_asks : (hs : List ℕ) → GrowthsIn (stack_of k) (suc k.count) s hs → GrowthAsks g hs r.total t
  growth_asks hs w =
      let upto = scan_most (stack_of k) s g (held_stands k s g ready) ready.fits ready.wide cap t r i in
      record {
        stack = held_asks k s g ready;
        held = omega (arith, cap_small k s g ready cap capped);
        cap = min r.total cap;
        table = i.table;
        within = omega arith;
        below = λ j h. growths_below (stack_of k) (suc k.count) s g hs ready.filled w j (omega (arith, ready.held.counted));
      }

  -- one spread worked out, with a jump that serves
  pub evaluated : (hs : List ℕ) → GrowthsIn (stack_of k) (suc k.count) s hs → (jump : ℕ) → 0 < jump → NoneLess g hs r.total 0 jump → Evaluated k s cap g t (record { total = r.total; jump = jump })
  evaluated hs w jump p n = record { held = ready.held; spread_windows = ready.filled; short = r.jump; scanned = i; growths = hs; spread_growths = w; jump_some = p; none_less = n }

  -- where every window's end grows, the scan's own jump serves
  pub evaluated_grown : (least : ℕ) → 0 < least → BelowGrowths (stack_of k) (suc k.count) s least → Evaluated k s cap g t r
  evaluated_grown least p b = evaluated hs grown r.jump i.jump_some
      (scan_none_less g hs r.total r.jump (held_asks k s g ready)
      (λ j h. growths_whole (stack_of k) (suc k.count) s g hs ready.filled grown least p b j (omega (arith, ready.held.counted))) i.jump_is)
    where
      hs : List ℕ
      hs = growths_of bias s (stack_of k).strips

      grown : GrowthsIn (stack_of k) (suc k.count) s hs
      grown j h = growths_listed bias s (stack_of k).strips j (omega (arith, strips_count (stack_of k) ready.held.good, stack_channels k))

  module _ (found : r.total ≤ cap) where
    -- a total found is the least
    pub found_total : r.total ≡ answer_total (stack_of k) s
    found_total =
        scan_finds (stack_of k) s g (held_stands k s g ready) ready.fits ready.wide cap t r i (cap_used k s g ready cap capped) found

    pub row_place_asks : PlaceAsks g r.total × SeparateAsks g r.total t
    row_place_asks = found_place_asks k s g ready cap t r i capped found found_total

    pub row_answers : (p : Placement) → PlacementIs g r.total p → AnswerIs (stack_of k) s p
    row_answers p q = found_placed k s g ready cap t r i capped found found_total p q
