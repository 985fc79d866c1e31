-- A channel's limits: past the last separation of the list nothing changes; the open separations are those from the least open one on; what fits at a
-- separation fits at every greater one.
-- Assumes nothing.
use mathlib.Core.Path.{◌≡◌, ap}
use mathlib.Core.List.{List}
use Prim.Native.Nat.{ℕ, suc, ◌≤◌, min}
use native.Mathlib.Omega.{arith}
use lib.ListN.{get_or}
use borrow.Author.Tests.{leb-true, le-leb}
use Rattle.spans.specs.Spans.{Limit, limit, Fits, last, low_at, high_at}
use Rattle.spans.specs.Solver.{opens, first_open, least_open}
use Rattle.spans.specs.Placed.{Widens}
use Rattle.spans.proofs.First.{first_holds, first_least}

module _ (c : List Limit) where
  pub low_capped : (q : ℕ) → low_at c (min q (last c)) ≡ low_at c q
  unfolding low_at
  low_capped q = ap (λ (i : ℕ). (get_or c i (limit 0 0)).low) (omega arith)

  pub high_capped : (q : ℕ) → high_at c (min q (last c)) ≡ high_at c q
  unfolding high_at
  high_capped q = ap (λ (i : ℕ). (get_or c i (limit 0 0)).high) (omega arith)

  -- an open separation is not below the least one
  pub least_open_least : (q : ℕ) → low_at c q ≤ high_at c q → least_open c ≤ min q (last c)
  unfolding first_open
  least_open_least q h =
      first_least (opens (low_at c) (high_at c)) 0 (suc (last c)) (min q (last c)) (omega arith) (omega arith)
      (le-leb (low_at c (min q (last c))) (high_at c (min q (last c))) (omega (arith, low_capped q, high_capped q)))

  least_open_opens : least_open c ≤ last c → low_at c (least_open c) ≤ high_at c (least_open c)
  unfolding first_open
  least_open_opens h = leb-true _ _ (first_holds (opens (low_at c) (high_at c)) 0 (suc (last c)) (omega arith))

  -- an open separation, and all from it on
  pub open_on : Widens c → (q : ℕ) → least_open c ≤ q → q ≤ last c → low_at c q ≤ high_at c q
  open_on wide q h k = omega (arith, least_open_opens (omega arith), wide.lower (least_open c) q h, wide.higher (least_open c) q h)

-- at a wider limit what fits fits still
pub fits_wider : (b : ℕ) (c : List Limit) → Widens c → (q n x y : ℕ) → q ≤ n → Fits b (low_at c q) (high_at c q) x y → Fits b (low_at c n) (high_at c n) x y
fits_wider b c wide q n x y h f = omega (arith, wide.lower q n h, wide.higher q n h)

pub fits_capped : (b : ℕ) (c : List Limit) (q x y : ℕ) → Fits b (low_at c q) (high_at c q) x y → Fits b (low_at c (min q (last c))) (high_at c (min q (last c))) x y
fits_capped b c q x y f = omega (arith, low_capped c q, high_capped c q)
