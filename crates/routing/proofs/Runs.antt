-- Where the paths of the wiring run: each stays between its own terminals' columns; going right it leads from column x to x + 1 on the track above the one that
-- document 02's P1 counts and on no other, and going left likewise from x + 1 to x. Assumes nothing.
use mathlib.Core.Path.{◌≡◌, refl, ap}
use mathlib.Core.Bool.{true, ◌&&◌}
use mathlib.Core.List.{List, [], ◌∷◌}
use mathlib.Core.Logic.{⊎_elim, ◌↔◌}
use Prim.Native.Nat.{ℕ, zero, suc, ◌+◌, ◌-◌, ◌≤◌, ◌<◌, min, max}
use lib.ListN.{length}
use lib.IntN.{pos}
use native.Mathlib.Decide.{ℕ_discrete}
use native.Mathlib.Omega.{arith}
use Rattle.numbers.proofs.Bools.{and_left, and_right, or_either, or_left, or_right}
use Rattle.stack.specs.Stack.{Pair, p_at, q_at, edge_clear}
use Rattle.stack.specs.Limits.{rising}
use Rattle.routing.specs.Paths.{Point, point, same_point, on_path}
use Rattle.routing.specs.Wiring.{riser, rest, staircase, right_track, left_track, drawn_path, wiring, begins, leads, runs}
use Rattle.routing.proofs.Points.{path_at, pos_injective, same_point_self}
use Rattle.routing.proofs.Staircase.{Course, On, on_staircase}
use Rattle.routing.proofs.Listed.{listed_at}
use Rattle.routing.proofs.Sufficiency.{OnPath, OnRight, OnLeft, right, left, Goes, rightward, leftward, goes, right_course, left_course, path_points}

-- what a path does from the top of an upright piece on, it does from the foot on
pub leads_riser : (u v : Point) (x y n z : ℕ) (ws : List Point) → y + n ≡ z → leads u v (point (pos x) z ∷ ws) ≡ true
    → leads u v (point (pos x) y ∷ riser x y n ws) ≡ true
unfolding leads riser
leads_riser u v x y zero z ws e h = let d : y ≡ z = omega arith in rw d h
leads_riser u v x y (suc n) z ws e h =
    or_right (same_point u (point (pos x) y) && begins v (riser x y (suc n) ws)) (leads u v (riser x y (suc n) ws))
    (leads_riser u v x (suc y) n z ws (omega arith) h)

pub begins_on : (v : Point) (ws : List Point) → begins v ws ≡ true → on_path v ws ≡ true
unfolding begins on_path
begins_on v [] h = h
begins_on v (b ∷ ws) h = or_left (same_point v b) (on_path v ws) h

-- both points are on the path
pub leads_on : (u v : Point) (ws : List Point) → leads u v ws ≡ true → (on_path u ws ≡ true) × (on_path v ws ≡ true)
unfolding leads on_path
leads_on u v [] h = (h, h)
leads_on u v (a ∷ ws) h = ⊎_elim first (λ e. later (leads_on u v ws e)) (or_either (same_point u a && begins v ws) (leads u v ws) h)
  where
    first : (same_point u a && begins v ws) ≡ true → (on_path u (a ∷ ws) ≡ true) × (on_path v (a ∷ ws) ≡ true)
    first e = (
      or_left (same_point u a) (on_path u ws) (and_left (same_point u a) (begins v ws) e),
      or_right (same_point v a) (on_path v ws) (begins_on v ws (and_right (same_point u a) (begins v ws) e)),
    )

    later : (on_path u ws ≡ true) × (on_path v ws ≡ true) → (on_path u (a ∷ ws) ≡ true) × (on_path v (a ∷ ws) ≡ true)
    later e = (or_right (same_point u a) (on_path u ws) e.0, or_right (same_point v a) (on_path v ws) e.1)

module _ (x h : ℕ → ℕ) (t w : ℕ) (s : Course x h t w) where
  -- it runs from each column but the last to the next
  rest_runs : (i : ℕ) → i < w → (n k y : ℕ) → k + n ≡ w → y ≤ h k → k ≤ i → runs (x i) (x (suc i)) (h i) (point (pos (x k)) y ∷ rest x h t n k y) ≡ true
  unfolding rest leads begins
  rest_runs i l zero k y e m g = absurd (omega arith)
  rest_runs i l (suc n) k y e m g =
      leads_riser (point (pos (x i)) (h i)) (point (pos (x (suc i))) (h i)) (x k) y (h k - y) (h k)
      (point (pos (x (suc k))) (h k) ∷ rest x h t n (suc k) (h k)) (omega arith)
      (go (ℕ_discrete i k) (rest_runs i l n (suc k) (h k) (omega arith) (s.rises k)))
    where
      ws : List Point
      ws = point (pos (x (suc k))) (h k) ∷ rest x h t n (suc k) (h k)

      go : Dec (i ≡ k) → (suc k ≤ i → runs (x i) (x (suc i)) (h i) ws ≡ true) → runs (x i) (x (suc i)) (h i) (point (pos (x k)) (h k) ∷ ws) ≡ true
      go (yes d) f = rw (d, same_point_self (point (pos (x k)) (h k)), same_point_self (point (pos (x (suc k))) (h k)))
      go (no d) f =
          or_right (same_point (point (pos (x i)) (h i)) (point (pos (x k)) (h k)) && begins (point (pos (x (suc i))) (h i)) ws)
          (runs (x i) (x (suc i)) (h i) ws) (f (omega arith))

  -- if no column comes twice, the points at the k-th column are from the run before to the run after
  on_column : ((i k : ℕ) → i ≤ w → k ≤ w → x i ≡ x k → i ≡ k) → (k y : ℕ) → k ≤ w → on_path (point (pos (x k)) y) (staircase x h t w) ≡ true
      → ((i : ℕ) → suc i ≡ k → h i ≤ y) × (k < w → y ≤ h k)
  unfolding point
  on_column once k y l e = at (on_staircase x h t w s (point (pos (x k)) y) e)
    where
      at : On x h t w (point (pos (x k)) y) → ((i : ℕ) → suc i ≡ k → h i ≤ y) × (k < w → y ≤ h k)
      at o =
          let m = once o.at k o.within l (pos_injective (pos (x k)) (x o.at) (x k) o.column refl) in
          (λ i d. o.from i (omega arith), λ d. let u = o.upto (omega arith) in omega (arith, ap h m))

  -- from the k-th column the path runs on the k-th track, and on no other
  pub runs_on : ((i k : ℕ) → i ≤ w → k ≤ w → x i ≡ x k → i ≡ k) → (k u v g y : ℕ) → k < w → x k ≡ u → x (suc k) ≡ v → h k ≡ g
      → runs u v y (staircase x h t w) ≡ true ↔ (y ≡ g)
  unfolding staircase
  runs_on once k u v g y l d e f = rw (← d, ← e, ← f) (one, same)
    where
      one : runs (x k) (x (suc k)) y (staircase x h t w) ≡ true → y ≡ h k
      one r =
          let o = leads_on (point (pos (x k)) y) (point (pos (x (suc k))) y) (staircase x h t w) r in
          omega (arith, (on_column once k y (omega arith) o.0).1 l, (on_column once (suc k) y l o.1).0 k refl)

      same : y ≡ h k → runs (x k) (x (suc k)) y (staircase x h t w) ≡ true
      same r = rw r (rest_runs k l w 0 0 (omega arith) (omega arith) (omega arith))

-- the path of pair j
pub wiring_at : (c : List Pair) (t a b j : ℕ) → j < length c → path_at (wiring c t a b) j ≡ drawn_path c t a b j
unfolding wiring
wiring_at c t a b j l = listed_at (λ i. drawn_path c t a b i) (length c) j l

-- a point between columns p and q
pub record ColumnBetween (p q : ℕ) (z : Point) : Type 0 where
  pub column : ℕ
  pub is : z.column ≡ pos column
  pub from : min p q ≤ column
  pub upto : column ≤ max p q

module _ (c : List Pair) (t a b : ℕ) (up : rising c ≡ true) (f : edge_clear c t a b ≡ true) (j : ℕ) (l : j < length c) where
  -- each path stays between its own terminals' columns
  pub path_within : (z : Point) → on_path z (path_at (wiring c t a b) j) ≡ true → ColumnBetween (a + p_at c j) (b + q_at c j) z
  unfolding OnRight OnLeft
  path_within z o = go (path_points c t a b up f j l z (rw (wiring_at c t a b j l) at o))
    where
      go : OnPath c t a j (a + p_at c j) (b + q_at c j) z → ColumnBetween (a + p_at c j) (b + q_at c j) z
      go (right u x) = record { column = a + p_at c j + x.at; is = x.column; from = omega arith; upto = omega arith }
      go (left u x) = record { column = a + p_at c j - x.at; is = x.column; from = omega arith; upto = omega arith }

  -- a path going right runs from column x to x + 1 on the track above the one that P1 counts, and on no other
  pub runs_right : (x y : ℕ) → a + p_at c j ≤ x → x < b + q_at c j
      → runs x (suc x) y (path_at (wiring c t a b) j) ≡ true ↔ (y ≡ suc (right_track c a j x))
  runs_right x y g h = rw (wiring_at c t a b j l) (go (goes c t a b up f j l))
    where
      go : Goes c t a b j → runs x (suc x) y (drawn_path c t a b j) ≡ true ↔ (y ≡ suc (right_track c a j x))
      go (rightward u e) =
          let p = a + p_at c j in
          let q = b + q_at c j in
          let d : p + (x - p) ≡ x = omega arith in
          rw e (runs_on (λ k. p + k) (λ k. suc (right_track c a j (p + k))) t (q - p) (right_course c t a b up f j p q l refl refl)
          (λ i k m n d. omega arith) (x - p) x (suc x) (suc (right_track c a j x)) y (omega arith) d (omega arith) (ap (λ (v : ℕ). suc (right_track c a j v)) d))
      go (leftward u e) = absurd (omega arith)

  -- and going left from column x + 1 to x
  pub runs_left : (x y : ℕ) → b + q_at c j ≤ x → x < a + p_at c j
      → runs (suc x) x y (path_at (wiring c t a b) j) ≡ true ↔ (y ≡ suc (left_track c a j (suc x)))
  runs_left x y g h = rw (wiring_at c t a b j l) (go (goes c t a b up f j l))
    where
      go : Goes c t a b j → runs (suc x) x y (drawn_path c t a b j) ≡ true ↔ (y ≡ suc (left_track c a j (suc x)))
      go (rightward u e) = absurd (omega arith)
      go (leftward u e) =
          let p = a + p_at c j in
          let q = b + q_at c j in
          let d : p - (p - suc x) ≡ suc x = omega arith in
          rw e (runs_on (λ k. p - k) (λ k. suc (left_track c a j (p - k))) t (p - q) (left_course c t a b up f j p q l refl refl)
          (λ i k m n d. omega arith) (p - suc x) (suc x) x (suc (left_track c a j (suc x))) y (omega arith) d (omega arith)
          (ap (λ (v : ℕ). suc (left_track c a j v)) d))
