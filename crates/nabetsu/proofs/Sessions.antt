-- The laws of the entries for sessions: a refused text or step, and what the session that is replayed answers. Assumes nothing.
use mathlib.Core.Path.{◌≡◌, refl, ap, ◌∙◌}
use mathlib.Core.List.{List}
use Prim.Native.Nat.{ℕ}
use Rattle.std.specs.Prelude.{Err}
use Rattle.text.specs.Text.{refusal, fine}
use Rattle.text.specs.Outcome.{number_of, refusal_of}
use Rattle.text.specs.declared.Refused.{Refused}
use Rattle.text.proofs.Refusals.{word_not_fine, first_refused, or_else_then}
use Rattle.spread.specs.Answers.{TotalResult, PlacementResult}
use Rattle.spread.specs.Best.{BestTotal, BestPlacement}
use Rattle.spread.proofs.Totals as totals
use Rattle.spread.proofs.Placements as placements
use Rattle.session.specs.Session.{session_refusal, SessionTotalSays, SessionPlacementSays}
use Rattle.session.specs.Value.{held_of}
use Rattle.replay.specs.Replay.{State, state, replayed, steps_refusal, StepsTotalSays, StepsPlacementSays}
use Rattle.replay.specs.Value.{state_of}
use Rattle.replay.specs.declared.Replay.{Replay}
use Rattle.nabetsu.specs.Sessions.{StepsTotalBest, StepsPlacementBest}

module _ (bs : List ℕ) (s : ℕ) (p : Replay) (e : state_of p ≡ replayed bs) where
  held_is : held_of p.session ≡ (replayed bs).held
  unfolding state_of state
  held_is = ap (λ (x : State). x.held) e

  refused_is : refusal_of p.outcome ≡ (replayed bs).refused
  unfolding state_of state
  refused_is = ap (λ (x : State). x.refused) e

  -- what is refused of the text or of the last step
  module _ (u : Refused) (q : refusal (number_of u.why) u.line u.field ≡ refusal_of p.outcome) where
    refused_first : refusal (number_of u.why) u.line u.field ≡ steps_refusal bs s
    unfolding steps_refusal
    refused_first = first_refused u (replayed bs).refused (session_refusal (replayed bs).held s) (q ∙ refused_is)

    not_fine : (steps_refusal bs s).number ≡ 0 → ⊥
    not_fine z = word_not_fine u (rw (← refused_first) at z)

    pub steps_total_refused : StepsTotalSays bs s (Err u)
    unfolding StepsTotalSays
    steps_total_refused = totals.total_refused (steps_refusal bs s) (replayed bs).held s u refused_first

    pub steps_total_refused_best : StepsTotalBest bs s (Err u)
    unfolding StepsTotalSays
    steps_total_refused_best = totals.total_best (steps_refusal bs s) (replayed bs).held s (Err u) (λ n. absurd (not_fine n)) steps_total_refused

    pub steps_placement_refused : (v : ℕ) → StepsPlacementSays bs s v (Err u)
    unfolding StepsPlacementSays
    steps_placement_refused v = placements.placement_refused (steps_refusal bs s) (replayed bs).held s v u refused_first

    pub steps_placement_refused_best : (v : ℕ) → StepsPlacementBest bs s v (Err u)
    unfolding StepsPlacementSays
    steps_placement_refused_best v =
        placements.placement_best (steps_refusal bs s) (replayed bs).held s v (Err u) (λ n. absurd (not_fine n)) (λ n. absurd (not_fine n)) (steps_placement_refused v)

  -- what the session answers
  module _ (q : fine ≡ refusal_of p.outcome) where
    going : session_refusal (held_of p.session) s ≡ steps_refusal bs s
    unfolding steps_refusal
    going = rw held_is (or_else_then (replayed bs).refused (session_refusal (replayed bs).held s) _ (q ∙ refused_is) refl)

    pub steps_total : (r : TotalResult) → SessionTotalSays (held_of p.session) s r → StepsTotalSays bs s r
    unfolding SessionTotalSays StepsTotalSays
    steps_total r t = rw (going, held_is) at t

    pub steps_total_best : (r : TotalResult) → BestTotal (session_refusal (held_of p.session) s) (held_of p.session) s r → StepsTotalBest bs s r
    steps_total_best r t = rw (going, held_is) at t

    pub steps_placement : (v : ℕ) (r : PlacementResult) → SessionPlacementSays (held_of p.session) s v r → StepsPlacementSays bs s v r
    unfolding SessionPlacementSays StepsPlacementSays
    steps_placement v r t = rw (going, held_is) at t

    pub steps_placement_best : (v : ℕ) (r : PlacementResult) → BestPlacement (session_refusal (held_of p.session) s) (held_of p.session) s v r → StepsPlacementBest bs s v r
    steps_placement_best v r t = rw (going, held_is) at t
