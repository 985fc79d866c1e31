-- Pairs that can be drawn are wirable at t - 1, however their paths run. With r = t - 1: if R(r) fails at j, or L(r) at j + r, then some cut is passed by each of
-- the paths j to j + r, all in the same direction; each has a point on the cut between the edges, and there are only r such points: two paths would share one.
-- Assumes nothing.
use mathlib.Core.Path.{◌≡◌, refl, sym, ap, ◌∙◌}
use mathlib.Core.Bool.{true}
use mathlib.Core.List.{List}
use Prim.Native.Nat.{ℕ, suc, ◌+◌, ◌-◌, ◌≤◌, ◌<◌, min, max}
use lib.ListN.{length}
use lib.IntN.{pos}
use native.Mathlib.Omega.{arith}
use Rattle.numbers.proofs.Pigeonhole.{Placed, Alone, pigeonhole}
use Rattle.stack.specs.Stack.{Pair, p_at, q_at, edge_clear}
use Rattle.stack.specs.Limits.{rising}
use Rattle.routing.specs.Paths.{point, is_path, on_path, ChannelDrawn}
use Rattle.routing.proofs.Points.{path_at, all_paths_elim, none_meet_elim}
use Rattle.stack.proofs.Rising.{rising_before}
use Rattle.stack.proofs.Feasible.{ByPairs, by_pairs_clear}
use Rattle.routing.proofs.Crossing.{Cut, Crosses, crosses_left, crosses_right}

-- pair i's terminals are not before pair j's and not after pair k's
record PairBetween (c : List Pair) (j i k : ℕ) : Type 0 where
  from_lower : p_at c j ≤ p_at c i
  upto_lower : p_at c i ≤ p_at c k
  from_upper : q_at c j ≤ q_at c i
  upto_upper : q_at c i ≤ q_at c k

-- the cut that is passed from left to right: from column p on track 1 a column to the left on each further track, down to column q
right_slow : (p q y z : ℕ) → suc y ≡ z → (max (p - (y - 1)) q ≤ suc (max (p - (z - 1)) q)) × (max (p - (z - 1)) q ≤ suc (max (p - (y - 1)) q))
right_slow p q y z e = omega arith

right_top : (p q r x : ℕ) → p < q + r → r ≤ suc x → max (p - x) q ≡ q
right_top p q r x h l = omega arith

right_cut : (p q t r : ℕ) → t - 1 ≡ r → p < q + r → Cut t (λ y. max (p - (y - 1)) q)
right_cut p q t r s h =
    record {
      left = λ y z e. (right_slow p q y z e).0;
      right = λ y z e. (right_slow p q y z e).1;
      top = λ y z e u. right_top p q r (y - 1) h (omega arith) ∙ sym (right_top p q r (z - 1) h (omega arith));
      bottom = λ y z e u. ap (λ n. max (p - n) q) (omega arith);
    }

-- r tracks are between the edges
module _ (c : List Pair) (t r a b : ℕ) (s : t - 1 ≡ r) (up : rising c ≡ true) (d : ChannelDrawn c t a b) where
  -- r + 1 paths cannot all have a point of the cut between the edges
  crowded : (k : ℕ → ℕ) (j : ℕ) → ((n : ℕ) → n ≤ r → Crosses t k (path_at d.paths (j + n))) → ⊥
  unfolding Placed Alone
  crowded k j f =
      pigeonhole r (λ n y. on_path (point (pos (k (suc y))) (suc y)) (path_at d.paths (j + n)) ≡ true)
      (λ n h. place n (f n h))
      (λ m n y l h o u. none_meet_elim (point (pos (k (suc y))) (suc y)) d.paths d.clear (j + m) (j + n) (omega arith) o u)
    where
      place : (n : ℕ) → Crosses t k (path_at d.paths (j + n))
          → (y : ℕ) × (y < r) × (on_path (point (pos (k (suc y))) (suc y)) (path_at d.paths (j + n)) ≡ true)
      place n x =
          let i = x.inner in
          let e : x.track ≡ suc (x.track - 1) = omega arith in
          (x.track - 1, omega arith, rw e at x.on)

  -- the paths from j to j + r: their terminals are between those of pair j and pair j + r
  between : (j n i : ℕ) → j + r ≡ i → i < length c → n ≤ r → PairBetween c j (j + n) i
  between j n i e h g =
      let u = rising_before c up j n (j + n) refl (omega arith) in
      let v = rising_before c up (j + n) (r - n) i (omega arith) h in
      omega arith

  led_at : (j n i : ℕ) → j + r ≡ i → i < length c → n ≤ r
      → is_path t (point (pos (a + p_at c (j + n))) 0) (point (pos (b + q_at c (j + n))) t) (path_at d.paths (j + n)) ≡ true
  led_at j n i e h g = all_paths_elim t a b c d.paths d.led (j + n) (omega arith)

  -- were L(r) to fail at pair i = j + r, each of the paths j to i would pass a cut from right to left
  drawn_left : (j i : ℕ) → j + r ≡ i → i < length c → b + q_at c i < a + p_at c j + r → ⊥
  drawn_left j i e h l =
      crowded k j λ n g.
      let u = between j n i e h g in
      crosses_left t k cut (a + p_at c (j + n)) (b + q_at c (j + n)) (path_at d.paths (j + n)) (led_at j n i e h g)
      (omega arith) (omega arith) (omega arith)
    where
      k : ℕ → ℕ
      k y = min (a + p_at c j + (y - 1)) (b + q_at c i)

      cut : Cut t k
      cut = omega arith

  -- were R(r) to fail at pair j, each of the paths j to i = j + r would pass a cut from left to right
  drawn_right : (j i : ℕ) → j + r ≡ i → i < length c → a + p_at c i < b + q_at c j + r → ⊥
  drawn_right j i e h l =
      crowded k j λ n g.
      let u = between j n i e h g in
      crosses_right t k cut (a + p_at c (j + n)) (b + q_at c (j + n)) (path_at d.paths (j + n)) (led_at j n i e h g)
      (omega arith) (omega arith) (omega arith)
    where
      k : ℕ → ℕ
      k y = max (a + p_at c i - (y - 1)) (b + q_at c j)

      cut : Cut t k
      cut = right_cut (a + p_at c i) (b + q_at c j) t r s l

  drawn_by_pairs : ByPairs c r a b
  drawn_by_pairs = record { left = λ j i e h. omega (arith, drawn_left j i e h); right = λ j i e h. omega (arith, drawn_right j i e h) }

pub drawn_clear : (c : List Pair) (t a b : ℕ) → rising c ≡ true → ChannelDrawn c t a b → edge_clear c t a b ≡ true
drawn_clear c t a b up d = by_pairs_clear c t a b (drawn_by_pairs c t (t - 1) a b refl up d)
