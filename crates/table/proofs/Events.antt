-- What the scan of an event's spread says of the walk. Assumes nothing.
use mathlib.Core.Path.{◌≡◌, refl, ◌∙◌}
use mathlib.Core.Bool.{true}
use mathlib.Core.List.{List}
use Prim.Native.Nat.{ℕ, zero, suc, ◌+◌, ◌≤◌, ◌<◌}
use native.Mathlib.Omega.{arith}
use Rattle.stack.specs.Stack.{Stack, sum, first_spread}
use Rattle.stack.specs.Lengths.{lengths, last_position}
use Rattle.stack.specs.Limits.{within_limits}
use Rattle.stack.specs.Value.{stack_of}
use Rattle.stack.specs.declared.Stack.{Stack as StackStruct}
use Rattle.stack.proofs.Within.{stack_channels}
use Rattle.arrays.specs.Arrays.{entry}
use Rattle.arrays.specs.declared.Given.{Given}
use Rattle.arrays.specs.declared.StripSpans.{StripSpans}
use Rattle.scan.specs.declared.Scan.{Scan}
use Rattle.answer.specs.Solve.{answer_total}
use Rattle.rows.specs.Walk.{widest}
use Rattle.answer.specs.Arrays.{Ready}
use Rattle.answer.proofs.Standing.{held_stands, cap_used}
use Rattle.rows.specs.Evaluate.{Evaluated}
use Rattle.rows.proofs.Settled.{widest_small, first_widest}
use Rattle.rows.proofs.Steps.{scan_passes, scan_stays, scan_most}
use Rattle.rows.proofs.Evaluating.{found_total}
use Rattle.table.specs.Walking.{Holding}

module _ (k : StackStruct) (s cap : ℕ) (g : Given) (t : List StripSpans) (r : Scan) (fits : s < 4294967296) (wide : first_spread (stack_of k).strips ≤ s)
    (e : Evaluated k s cap g t r) where
  ready : Ready k s g
  ready = record { fits = fits; wide = wide; held = e.held; filled = e.spread_windows }

  -- what is given is held on
  pub holds_on : Holding k g t
  holds_on = record { held = e.held; sized = e.scanned.table.sized }

  -- until the jump is reached the total stays
  pub event_stays : answer_total (stack_of k) s ≡ r.total → (d : ℕ) → d < r.jump → s + d ≤ widest (stack_of k) → r.total ≤ answer_total (stack_of k) (s + d)
  event_stays e₀ d j w = go r.total refl
    where
      go : (n : ℕ) → r.total ≡ n → n ≤ answer_total (stack_of k) (s + d)
      go zero z = omega arith
      go (suc v) z =
          omega (arith, scan_stays (stack_of k) s g (held_stands k s g ready) fits wide cap t _ e.scanned e.growths r.jump (rw (stack_channels k) e.spread_growths) e.none_less v (e₀ ∙ z) z d j (omega (arith, widest_small (stack_of k) e.held.good)))

  pub event_least : cap ≤ entry g.plan.above 0 → r.total ≤ cap → r.total ≡ answer_total (stack_of k) s
  event_least c f = found_total k s g ready cap t _ e.scanned c f

  -- no total up to the cap: the total before stays
  pub event_passed : (before : ℕ) → cap ≤ entry g.plan.above 0 → before ≡ suc cap → answer_total (stack_of k) s ≤ before → cap < r.total → (answer_total (stack_of k) s ≡ before) × (r.total ≡ before)
  event_passed before c b h l =
      let st = held_stands k s g ready in
      let over = scan_passes (stack_of k) s g st fits wide cap t _ e.scanned (cap_used k s g ready cap c) l in
      let most = scan_most (stack_of k) s g st fits wide cap t _ e.scanned in
      (omega arith, omega arith)

-- the first spread is small
pub spread_fits : (k : Stack) (s : ℕ) → within_limits k ≡ true → s ≡ first_spread k.strips → s < 4294967296
spread_fits k s e h = omega (arith, first_widest k e, widest_small k e)

-- the greatest spread of use as the code has it
pub sum_widest : (k : StackStruct) (p w : ℕ) → p ≡ last_position (stack_of k).strips → w ≡ sum (lengths (stack_of k).strips) → widest (stack_of k) ≡ p + w
unfolding widest
sum_widest k p w h i = rw (h, i)
