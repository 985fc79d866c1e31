-- In a legal placement of a stack within the limits every channel can be shown, and its paths are inside the spread. Assumes nothing.
use mathlib.Core.Path.{◌≡◌, refl}
use mathlib.Core.Bool.{true}
use mathlib.Core.List.{List, [], ◌∷◌}
use Prim.Native.Nat.{ℕ, zero, suc, ◌+◌, ◌≤◌, ◌<◌}
use native.Mathlib.Omega.{arith}
use borrow.Author.Tests.{leb-true, le-leb}
use lib.IntN.{pos}
use lib.ListN.{length, get_or}
use Rattle.numbers.proofs.Bools.{ands, and_both, or_left, or_right}
use Rattle.stack.specs.Stack.{Pair, strip_in, channel_in, Stack, p_at, q_at, legal}
use Rattle.stack.specs.Limits.{on_strips, pairs_within, channel_within, within_limits}
use Rattle.stack.proofs.Within.{limits_each}
use Rattle.stack.proofs.Placements.{legal_each, stands_within}
use Rattle.stack.proofs.Feasible.{feasible_says}
use Rattle.stack.proofs.OnStrips.{terminals_on}
use Rattle.routing.specs.Paths.{Point, same_point, on_path}
use Rattle.routing.specs.Wiring.{wiring, drawn_path, listed}
use Rattle.routing.proofs.Points.{same_point_self}
use Rattle.routing.proofs.Sufficiency.{wiring_led, wiring_clear}
use Rattle.routing.proofs.Runs.{ColumnBetween, path_within, wiring_at}
use Rattle.page.specs.Promise.{inside, path_inside, all_inside, LedInside}
use Rattle.page.specs.Arrivals.{ChannelPlaced}

-- INSIDE, point by point
inside_column : (s n : ℕ) (z : Point) → z.column ≡ pos n → n ≤ s → inside s z ≡ true
unfolding inside
inside_column s n z e l = rw e (le-leb n s l)

points_inside : (s : ℕ) (w : List Point) → ((z : Point) → on_path z w ≡ true → inside s z ≡ true) → path_inside s w ≡ true
unfolding path_inside on_path
points_inside s [] h = refl
points_inside s (z ∷ zs) h =
    and_both (inside s z) (path_inside s zs) (h z (or_left (same_point z z) (on_path z zs) (same_point_self z)))
    (points_inside s zs (λ y o. h y (or_right (same_point y z) (on_path y zs) o)))

listed_inside : (s : ℕ) (f : ℕ → List Point) (n : ℕ) → ((j : ℕ) → j < n → path_inside s (f j) ≡ true) → all_inside s (listed f n) ≡ true
unfolding all_inside listed
listed_inside s f zero h = refl
listed_inside s f (suc n) h = and_both (path_inside s (f 0)) (all_inside s (listed (λ i. f (suc i)) n)) (h 0 (omega arith)) (listed_inside s (λ i. f (suc i)) n (λ j l. h (suc j) (omega arith)))

module _ (s : ℕ) (c : List Pair) (t a b : ℕ) (p : ChannelPlaced s c t a b) where
  wiring_inside : all_inside s (wiring c t a b) ≡ true
  unfolding wiring
  wiring_inside =
      listed_inside s (λ j. drawn_path c t a b j) (length c) λ j k. points_inside s (drawn_path c t a b j) λ z e.
      let w : ColumnBetween (a + p_at c j) (b + q_at c j) z = path_within c t a b p.rises p.good j k z (rw (wiring_at c t a b j k) e) in
      inside_column s w.column z w.is (omega (arith, w.upto, p.from_within j k, p.upto_within j k))

  pub placed_led : LedInside s c t a b (wiring c t a b)
  placed_led = record { led = wiring_led c t a b p.rises p.good; clear = wiring_clear c t a b p.rises p.good; inside = wiring_inside }

pub channel_placed : (k : Stack) (s : ℕ) (ts xs : List ℕ) (i : ℕ) → within_limits k ≡ true → legal k s ts xs ≡ true → i < length k.channels
    → ChannelPlaced s (channel_in k i).pairs (get_or ts i 0) (get_or xs i 0) (get_or xs (suc i) 0)
unfolding channel_within pairs_within
channel_placed k s ts xs i w e l =
    let c = (channel_in k i).pairs in
    let p = legal_each k s ts xs e in
    let z = limits_each k w in
    let limits = z.channels i l in
    let fits = λ (i : ℕ) (l : i < length k.strips). stands_within s (strip_in k i) (get_or xs i 0) (p.stand i l) in
    let o : on_strips (strip_in k i).length (strip_in k (suc i)).length c ≡ true = search ands in
    record {
      rises = search ands;
      good = (feasible_says (channel_in k i) _ _ _ (p.wired i l)).1;
      few = leb-true (length c) 32 (search ands);
      from_within = λ j h. omega (arith, (terminals_on _ _ c o j h).0, fits i (omega (arith, z.count)));
      upto_within = λ j h. omega (arith, (terminals_on _ _ c o j h).1, fits (suc i) (omega (arith, z.count)));
    }
