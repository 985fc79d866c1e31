-- A step of the walk: an event at which the total stays, or falls with its row. Assumes nothing.
use mathlib.Core.Path.{◌≡◌, refl, sym, ap, ◌∙◌}
use mathlib.Core.Bool.{true}
use mathlib.Core.List.{List}
use Prim.Native.Nat.{ℕ, ◌+◌, ◌-◌, ◌≤◌, ◌<◌}
use native.Mathlib.Omega.{arith}
use Rattle.stack.specs.Stack.{first_spread}
use Rattle.stack.specs.Limits.{within_limits}
use Rattle.stack.specs.Value.{stack_of}
use Rattle.stack.specs.declared.Stack.{Stack as StackStruct}
use Rattle.arrays.specs.Arrays.{entry}
use Rattle.arrays.specs.declared.Given.{Given}
use Rattle.arrays.specs.declared.StripSpans.{StripSpans}
use Rattle.answer.specs.Arrays.{with_windows}
use Rattle.scan.specs.declared.Scan.{Scan}
use Rattle.rows.specs.Walk.{row_at}
use Rattle.rows.specs.Evaluate.{Evaluated}
use Rattle.rows.proofs.Settled.{widest_small}
use Rattle.writing.specs.Output.{LinePutAt}
use Rattle.writing.specs.TableText.{row_text}
use Rattle.table.specs.Walking.{StepAsks, Stepping}
use Rattle.table.specs.declared.Walk.{Walk}
use Rattle.table.proofs.Events.{holds_on, event_stays, event_least, event_passed}
use Rattle.table.proofs.Walks.{stepped_on, stepped_down}

module _ (k : StackStruct) (w : Walk) (g : Given) (t : List StripSpans) (out : List ℕ) (asks : StepAsks k w g t out) where
  abbrev next : ℕ
  next = w.spread + w.jump

  good : within_limits (stack_of k) ≡ true
  good = asks.here.holding.held.good

  pub step_fits : next < 4294967296
  step_fits = omega (arith, asks.inside, widest_small (stack_of k) good)

  wide : first_spread (stack_of k).strips ≤ next
  wide = omega (arith, asks.here.walking.from)

  capped : w.total - 1 ≤ entry g.plan.above 0
  capped = omega (arith, asks.here.capped, asks.some)

  -- the next event's spread worked out, with other windows
  module _ (f : Given) (u : List StripSpans) (r : Scan) (kept : f ≡ with_windows g f.windows) (e : Evaluated k next (w.total - 1) f u r) where
    same_above : entry f.plan.above 0 ≡ entry g.plan.above 0
    same_above = ap (λ (x : Given). entry x.plan.above 0) kept

    pub step_on : w.total - 1 < r.total → Stepping k f u out (record { spread = next; total = w.total; jump = r.jump; at = w.at })
    step_on h =
        let same = event_passed k next _ f u r step_fits wide e w.total (omega (arith, capped, same_above)) (omega (arith, asks.some)) asks.here.walking.least h in
        record {
          walking = stepped_on (stack_of k) good _ w asks.here.walking next r.jump e.jump_some refl asks.inside same.0 (rw same.1 at (event_stays k next _ f u r step_fits wide e (same.0 ∙ sym same.1)));
          holding = holds_on k next _ f u r step_fits wide e;
          capped = omega (arith, asks.here.capped, same_above);
        }

    module _ (found : r.total ≤ w.total - 1) where
      pub step_down : (at : ℕ) (after : List ℕ) → LinePutAt w.at (row_text (row_at (stack_of k) next)) out after at →
          Stepping k f u after (record { spread = next; total = r.total; jump = r.jump; at = at })
      step_down at after row =
          let least = event_least k next _ f u r step_fits wide e (omega (arith, capped, same_above)) found in
          record {
            walking = stepped_down (stack_of k) good _ w asks.here.walking next r.jump e.jump_some refl asks.inside r.total at _ (sym least) (omega (arith, found, asks.some)) (event_stays k next _ f u r step_fits wide e (sym least)) row;
            holding = holds_on k next _ f u r step_fits wide e;
            capped = omega (arith, found, asks.here.capped, same_above);
          }
