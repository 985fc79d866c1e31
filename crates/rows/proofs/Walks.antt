-- How the walk over the spreads goes on from one event to the next: without a row where the total stays, with one where it falls, and to its end.
-- Assumes nothing.
use mathlib.Core.Path.{◌≡◌, refl, ◌∙◌}
use mathlib.Core.Bool.{true}
use mathlib.Core.List.{[], ◌∷◌}
use Prim.Native.Nat.{ℕ, zero, suc, ◌+◌, ◌-◌, ◌≤◌, ◌<◌}
use native.Mathlib.Omega.{arith}
use mathlib.Core.Logic.{◌⊎◌, inl, inr}
use borrow.Author.Tests.{lt-ltb, le-ltb}
use Rattle.numbers.proofs.Orders.{le_or_lt}
use Rattle.stack.specs.Stack.{Stack}
use Rattle.stack.specs.Limits.{within_limits}
use Rattle.answer.specs.Solve.{answer_total}
use Rattle.rows.specs.Walk.{row_at, rows_walk}
use Rattle.rows.proofs.Jumps.{moved, walk_jumps}

-- nothing falls below 0
pub walk_zero : (k : Stack) (n s : ℕ) → rows_walk k n s 0 ≡ []
unfolding rows_walk
walk_zero k zero s = refl
walk_zero k (suc n) s = rw (le-ltb (answer_total k s) 0 (omega arith)) (walk_zero k n (suc s))

module _ (k : Stack) (good : within_limits k ≡ true) (w s v : ℕ) (h : s ≤ w) where
  one : suc w - s ≡ suc (w - s)
  one = omega arith

  -- a spread at which the total stays, and one at which it falls
  pub walk_stays : v ≤ answer_total k s → rows_walk k (suc w - s) s v ≡ rows_walk k (w - s) (suc s) v
  unfolding rows_walk
  walk_stays t = rw (one, le-ltb (answer_total k s) v t)

  pub walk_falls : answer_total k s < v → rows_walk k (suc w - s) s v ≡ row_at k s ∷ rows_walk k (w - s) (suc s) (answer_total k s)
  unfolding rows_walk
  walk_falls t = rw (one, lt-ltb (answer_total k s) v t)

  -- on to the next event
  pub walk_next : (jump : ℕ) → 0 < jump → ((d : ℕ) → d < jump → s + d ≤ w → v ≤ answer_total k (s + d)) → rows_walk k (w - s) (suc s) v ≡ rows_walk k (suc w - (s + jump)) (s + jump) v
  unfolding rows_walk
  walk_next jump j stay = go (le_or_lt (s + jump) (suc w))
    where
      go : (s + jump ≤ suc w) ⊎ (suc w < s + jump) → rows_walk k (w - s) (suc s) v ≡ rows_walk k (suc w - (s + jump)) (s + jump) v
      go (inl l) =
          let e : w - s ≡ (jump - 1) + (suc w - (s + jump)) = omega arith in
          let f : suc s + (jump - 1) ≡ s + jump = omega arith in
          rw e (walk_jumps k good (suc w - (s + jump)) (jump - 1) (suc s) v (λ i m. rw (moved s i) (stay (suc i) (omega arith) (omega arith))) ∙ rw f)
      go (inr l) =
          let e : w - s ≡ (w - s) + 0 = omega arith in
          let z : suc w - (s + jump) ≡ 0 = omega arith in
          rw (e, z) (walk_jumps k good 0 (w - s) (suc s) v (λ i m. rw (moved s i) (stay (suc i) (omega arith) (omega arith))))
