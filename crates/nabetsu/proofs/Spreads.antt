-- One spread of a text is that of the stack which is read in it. Assumes nothing.
use mathlib.Core.Path.{◌≡◌, refl}
use mathlib.Core.Bool.{true}
use mathlib.Core.List.{List}
use Prim.Native.Nat.{ℕ, ◌≤◌}
use Rattle.stack.specs.Stack.{first_spread}
use Rattle.stack.specs.Limits.{all_rising, within_limits}
use Rattle.stack.specs.Value.{stack_of}
use Rattle.stack.proofs.Within.{within_rising, strips_count}
use Rattle.text.specs.Text.{refusal, text_refusal, stack_in}
use Rattle.std.specs.Prelude.{Ok, Err}
use Rattle.stack.specs.declared.Stack.{Stack as StackStruct}
use Rattle.text.specs.Outcome.{number_of}
use Rattle.text.specs.declared.Refused.{Refused}
use Rattle.text.proofs.Refusals.{or_else_fine, first_refused, or_else_then}
use Rattle.reading.specs.Driver.{StackRead}
use Rattle.reading.proofs.Within.{accepted_within}
use Rattle.reply.specs.Refusals.{narrow_refusal}
use Rattle.spread.specs.Answers.{TotalResult, PlacementResult, TotalOr, PlacementOr, spread_refusal, TotalSays, PlacementSays}
use Rattle.spread.proofs.Spreads.{fine_wide}
use Rattle.spread.proofs.Totals as totals
use Rattle.spread.proofs.Placements as placements
use Rattle.nabetsu.specs.Best.{TotalBest, PlacementBest}

-- where nothing is refused for the spread, nothing is refused of the text, and the spread is not narrow
module _ (bs : List ℕ) (s : ℕ) (e : (spread_refusal bs s).number ≡ 0) where
  pub spread_accepted : (text_refusal bs).number ≡ 0
  unfolding spread_refusal
  spread_accepted = (or_else_fine (text_refusal bs) _ e).0

  pub spread_within : within_limits (stack_in bs) ≡ true
  spread_within = accepted_within bs spread_accepted

  pub spread_wide : first_spread (stack_in bs).strips ≤ s
  unfolding spread_refusal
  spread_wide = fine_wide (text_refusal bs) (stack_in bs) s e

-- a text that is refused, and the stack that is read
module _ (bs : List ℕ) (s : ℕ) where
  refused_first : (e : Refused) → refusal (number_of e.why) e.line e.field ≡ text_refusal bs → refusal (number_of e.why) e.line e.field ≡ spread_refusal bs s
  unfolding spread_refusal
  refused_first e q = first_refused e (text_refusal bs) _ q

  pub total_refused : (e : Refused) → refusal (number_of e.why) e.line e.field ≡ text_refusal bs → TotalSays bs s (Err e)
  unfolding TotalSays
  total_refused e q = totals.total_refused (spread_refusal bs s) (stack_in bs) s e (refused_first e q)

  pub placement_refused : (v : ℕ) (e : Refused) → refusal (number_of e.why) e.line e.field ≡ text_refusal bs → PlacementSays bs s v (Err e)
  unfolding PlacementSays
  placement_refused v e q = placements.placement_refused (spread_refusal bs s) (stack_in bs) s v e (refused_first e q)

  module _ (k : StackStruct) (t : StackRead bs (Ok k)) where
    spread_is : narrow_refusal (stack_of k) s ≡ spread_refusal bs s
    unfolding spread_refusal
    spread_is = rw t.stack (or_else_then (text_refusal bs) _ _ t.outcome refl)

    pub total_read : (r : TotalResult) → TotalOr (narrow_refusal (stack_of k) s) (stack_of k) s r → TotalSays bs s r
    unfolding TotalSays
    total_read r x = rw (spread_is, t.stack) at x

    pub placement_read : (v : ℕ) (r : PlacementResult) → PlacementOr (narrow_refusal (stack_of k) s) (stack_of k) s v r → PlacementSays bs s v r
    unfolding PlacementSays
    placement_read v r x = rw (spread_is, t.stack) at x

-- THE THIRD DEMAND of what is returned
module _ (bs : List ℕ) (s : ℕ) where
  rises : (spread_refusal bs s).number ≡ 0 → all_rising (stack_in bs).channels ≡ true
  rises e = within_rising (stack_in bs) (spread_within bs s e)

  pub total_best : (r : TotalResult) → TotalSays bs s r → TotalBest bs s r
  unfolding TotalSays
  total_best r t = totals.total_best (spread_refusal bs s) (stack_in bs) s r rises t

  pub placement_best : (v : ℕ) (r : PlacementResult) → PlacementSays bs s v r → PlacementBest bs s v r
  unfolding PlacementSays
  placement_best v r p = placements.placement_best (spread_refusal bs s) (stack_in bs) s v r rises (λ e. strips_count (stack_in bs) (spread_within bs s e)) p
