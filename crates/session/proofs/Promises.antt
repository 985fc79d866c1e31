-- The promises of Promise.antt, proved. Assumes nothing.
use mathlib.Core.Path.{◌≡◌, sym}
use mathlib.Core.Bool.{true, false}
use mathlib.Core.List.{[], ◌∷◌}
use Prim.Native.Nat.{ℕ, ◌≤◌}
use native.Mathlib.Omega.{arith}
use lib.Dec.{eqb}
use lib.ListN.{length, get_or}
use borrow.Author.Tests.{ne_eqb}
use Rattle.numbers.specs.Lists.{tabulate}
use Rattle.numbers.proofs.Lists.{length_tabulate, get_or_tabulate}
use Rattle.stack.specs.Limits.{within_limits}
use Rattle.stack.specs.Stack.{stack}
use Rattle.text.specs.Text.{refusal, fine, or_else}
use Rattle.stack_text.specs.StackText.{StackTextRead}
use Rattle.stack_text.proofs.StackBack.{stack_text_read}
use Rattle.spread.specs.Answers.{TotalResult, PlacementResult, total_told, Totalled, placed_is, PlacedFor, placed, unmet, Placed, spread_refusal, TotalSays, PlacementSays}
use Rattle.spread.specs.Single.{one_strip}
use Rattle.spread.proofs.Single.{only_zero, placement_zero, wide_told}
use Rattle.answer.proofs.Alone.{placement_alone, placement_met}
use Rattle.session.specs.Session.{session_refusal, SessionTotalSays, SessionPlacementSays}
use Rattle.session.specs.Promise.{MadeHeld, GivenThere, SessionAsText, SessionSingle}
use Rattle.session.proofs.Made.{made_built, built_within, built_held}

pub made_held : MadeHeld
unfolding MadeHeld
made_held k m = built_held k (made_built k m)

pub given_there : GivenThere
unfolding GivenThere
given_there vs c =
    let long = length_tabulate c 0 (λ i. get_or vs i 0) in
    (tabulate c 0 (λ i. get_or vs i 0), record { count_is = sym long; in_place = λ i h k. sym (get_or_tabulate c i (λ j. get_or vs j 0) 0 (omega (arith, long))) })

-- the text of the same stack is accepted and read back, so every spread of the session is that of its text
pub session_as_text : SessionAsText
unfolding SessionAsText StackTextRead SessionTotalSays TotalSays session_refusal spread_refusal SessionPlacementSays PlacementSays or_else fine refusal
session_as_text k m n =
    let w : within_limits k ≡ true = built_within k (made_built k m) n in
    let t = stack_text_read k w in
    let z : eqb (length k.strips) 0 ≡ false = ne_eqb (length k.strips) 0 (λ e. omega arith) in
    record {
      accepted = t.0;
      read = t.1;
      totals = λ s r. rw (z, t.0, t.1) (λ a. a, λ a. a);
      placements = λ s v r. rw (z, t.0, t.1) (λ a. a, λ a. a);
    }

-- A SINGLE STRIP
module _ (l s : ℕ) (fits : l ≤ s) where
  not_refused : session_refusal (one_strip l) s ≡ fine
  unfolding session_refusal stack
  not_refused = sym (wide_told l s fits)

  single_total : (r : TotalResult) → SessionTotalSays (one_strip l) s r → total_told fine 0 r
  unfolding SessionTotalSays Totalled fine refusal
  single_total r t =
      let u : Totalled 0 fine (one_strip l) s r = rw not_refused at t in
      rw (only_zero l s u.0 u.1.met) at u.2

  placed_zero : (r : PlacementResult) → PlacedFor (one_strip l) s 0 r → placed_is fine 0 [] (0 ∷ []) r
  placed_zero r (placed ts xs a p) =
      let same = placement_alone (one_strip l) s 0 ts xs [] (0 ∷ []) a (placement_zero l s fits) in
      rw (same.0, same.1) at p
  placed_zero r (unmet n p) = absurd (n (placement_met (one_strip l) s 0 [] (0 ∷ []) (placement_zero l s fits)))

  placed_other : (v : ℕ) (r : PlacementResult) → (v ≡ 0 → ⊥) → PlacedFor (one_strip l) s v r → placed_is (refusal 10 0 0) 0 [] [] r
  placed_other v r h (placed ts xs a p) = absurd (h (only_zero l s v (placement_met (one_strip l) s v ts xs a)))
  placed_other v r h (unmet n p) = p

  placed_there : (v : ℕ) (r : PlacementResult) → SessionPlacementSays (one_strip l) s v r → PlacedFor (one_strip l) s v r
  unfolding SessionPlacementSays Placed fine refusal
  placed_there v r p =
      let u : Placed 0 fine (one_strip l) s v r = rw not_refused at p in u

pub session_single : SessionSingle
unfolding SessionSingle
session_single l s h = record {
  total = λ r t. single_total l s h r t;
  placement = λ r p. placed_zero l s h r (placed_there l s h 0 r p);
  unmet = λ v r n p. placed_other l s h v r n (placed_there l s h v r p);
}
