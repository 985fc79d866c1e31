-- The laws of a session's spreads: an empty session, a single strip, and a stack within the limits; and the third demand of what is returned. Assumes nothing.
use mathlib.Core.Path.{◌≡◌, ap, ◌∙◌}
use mathlib.Core.Bool.{true}
use Prim.Native.Nat.{ℕ, ◌≤◌}
use native.Mathlib.Omega.{arith}
use lib.Dec.{eqb}
use lib.ListN.{length}
use borrow.Author.Tests.{ne_eqb, eqb-false}
use Rattle.numbers.specs.Lists.{tabulate}
use Rattle.stack.specs.Stack.{Stack, stack}
use Rattle.stack.specs.Limits.{within_limits}
use Rattle.text.specs.Text.{refusal}
use Rattle.text.proofs.Refusals.{when_fine}
use Rattle.reply.specs.Refusals.{narrow_refusal}
use Rattle.spread.specs.Answers.{TotalResult, PlacementResult, TotalOr, PlacementOr}
use Rattle.spread.specs.Best.{BestTotal, BestPlacement}
use Rattle.spread.specs.Single.{one_strip}
use Rattle.spread.proofs.Totals.{total_best}
use Rattle.spread.proofs.Placements.{placement_best}
use Rattle.session.specs.Session.{Made, session_refusal, SessionTotalSays, SessionPlacementSays}
use Rattle.session.specs.Value.{strip_at, held_of}
use Rattle.session.specs.declared.Session.{Session}
use Rattle.session.proofs.Values.{strips_long}
use Rattle.session.proofs.Made.{made_built, built_within, built_rising, built_count}

-- where a spread is not refused there is a strip
pub some_strip : (k : Stack) (s : ℕ) → (session_refusal k s).number ≡ 0 → length k.strips ≡ 0 → ⊥
unfolding session_refusal
some_strip k s e = eqb-false (length k.strips) 0 (when_fine (eqb (length k.strips) 0) 12 0 0 (narrow_refusal k s) e).0

-- THE THIRD DEMAND of what is returned
module _ (k : Stack) (s : ℕ) (m : Made k) where
  pub session_total_best : (r : TotalResult) → SessionTotalSays k s r → BestTotal (session_refusal k s) k s r
  unfolding SessionTotalSays
  session_total_best r t = total_best (session_refusal k s) k s r (λ e. built_rising k (made_built k m)) t

  pub session_placement_best : (v : ℕ) (r : PlacementResult) → SessionPlacementSays k s v r → BestPlacement (session_refusal k s) k s v r
  unfolding SessionPlacementSays
  session_placement_best v r p =
      placement_best (session_refusal k s) k s v r (λ e. built_rising k (made_built k m)) (λ e. built_count k (made_built k m) (some_strip k s e)) p

-- WHAT IS HELD, by the number of strips
module _ (s : Session) (w : ℕ) where
  pub none_refused : s.count ≡ 0 → refusal 13 0 0 ≡ session_refusal (held_of s) w
  unfolding session_refusal
  none_refused e = rw (strips_long s, e)

  some_refused : (s.count ≡ 0 → ⊥) → session_refusal (held_of s) w ≡ narrow_refusal (held_of s) w
  unfolding session_refusal
  some_refused h = rw (strips_long s, ne_eqb s.count 0 h)

  single_is : s.count ≡ 1 → held_of s ≡ one_strip (strip_at s 0).length
  unfolding held_of stack tabulate
  single_is e = rw e

  -- a single strip
  single_refused : s.count ≡ 1 → session_refusal (held_of s) w ≡ narrow_refusal (one_strip (strip_at s 0).length) w
  single_refused e = some_refused (λ z. omega arith) ∙ ap (λ k. narrow_refusal k w) (single_is e)

  pub single_total_says : (r : TotalResult) → s.count ≡ 1 →
      TotalOr (narrow_refusal (one_strip (strip_at s 0).length) w) (one_strip (strip_at s 0).length) w r → SessionTotalSays (held_of s) w r
  unfolding SessionTotalSays
  single_total_says r e t = rw (single_refused e, single_is e) t

  pub single_placement_says : (v : ℕ) (r : PlacementResult) → s.count ≡ 1 →
      PlacementOr (narrow_refusal (one_strip (strip_at s 0).length) w) (one_strip (strip_at s 0).length) w v r → SessionPlacementSays (held_of s) w v r
  unfolding SessionPlacementSays
  single_placement_says v r e p = rw (single_refused e, single_is e) p

  -- two strips or more
  module _ (k : Stack) (some : s.count ≡ 0 → ⊥) (q : k ≡ held_of s) where
    pub stack_total_says : (r : TotalResult) → TotalOr (narrow_refusal k w) k w r → SessionTotalSays (held_of s) w r
    unfolding SessionTotalSays
    stack_total_says r t = rw (some_refused some, ← q) t

    pub stack_placement_says : (v : ℕ) (r : PlacementResult) → PlacementOr (narrow_refusal k w) k w v r → SessionPlacementSays (held_of s) w v r
    unfolding SessionPlacementSays
    stack_placement_says v r p = rw (some_refused some, ← q) p

pub stack_within : (s : Session) (k : Stack) → Made (held_of s) → 2 ≤ s.count → k ≡ held_of s → within_limits k ≡ true
stack_within s k m h q = rw q (built_within (held_of s) (made_built (held_of s) m) (omega (arith, strips_long s)))
