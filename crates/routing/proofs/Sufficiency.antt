-- Pairs that are wirable at t - 1 can be drawn, by the paths of document 02's path rule one track higher with an upright step below. Each is a staircase whose runs
-- are between the edges. Two that go the same way share no point, since at a column where both are the one from behind comes on a higher track than the other
-- leaves on; two that go different ways have no column in common. Assumes nothing.
use mathlib.Core.Path.{◌≡◌, refl, ap, ◌∙◌}
use mathlib.Core.Bool.{Bool, true, false}
use mathlib.Core.List.{List}
use mathlib.Core.Logic.{inl, inr}
use Prim.Native.Nat.{ℕ, zero, suc, ◌+◌, ◌-◌, ◌≤◌, ◌<◌}
use lib.Dec.{leb}
use lib.ListN.{length}
use lib.IntN.{pos}
use native.Mathlib.Omega.{arith}
use borrow.Author.Tests.{leb-true, leb-false}
use Rattle.stack.specs.Stack.{Pair, p_at, q_at, edge_clear}
use Rattle.stack.specs.Limits.{rising}
use Rattle.routing.specs.Paths.{Point, point, is_path, on_path, none_meet, all_paths, ChannelDrawn}
use Rattle.routing.specs.Wiring.{right_track, left_track, rest, staircase, path_between, path, with_step_below, drawn_path, wiring}
use Rattle.routing.proofs.Points.{pos_injective}
use Rattle.stack.proofs.Rising.{rising_before}
use Rattle.stack.proofs.Feasible.{ByPairs, clear_by_pairs}
use Rattle.routing.proofs.Staircase.{Beside, Course, On, staircase_path, on_staircase, staircase_raised}
use Rattle.routing.proofs.Tracks.{right_rises, left_rises, right_below, left_below, right_beyond, left_beyond}
use Rattle.routing.proofs.Listed.{Disjoint, all_paths_listed, none_meet_listed}

-- the path of a pair from column p to column q that goes right, or left: its runs are one track above those counted
abbrev pub stairs_right : List Pair → (t lower j p q : ℕ) → List Point
stairs_right c t a j p q = staircase (λ k. p + k) (λ k. suc (right_track c a j (p + k))) t (q - p)

abbrev pub stairs_left : List Pair → (t lower j p q : ℕ) → List Point
stairs_left c t a j p q = staircase (λ k. p - k) (λ k. suc (left_track c a j (p - k))) t (p - q)

-- a point of it
unfoldable pub OnRight : List Pair → (t lower j p q : ℕ) → Point → Type 0
OnRight c t a j p q z = On (λ k. p + k) (λ k. suc (right_track c a j (p + k))) t (q - p) z

unfoldable pub OnLeft : List Pair → (t lower j p q : ℕ) → Point → Type 0
OnLeft c t a j p q z = On (λ k. p - k) (λ k. suc (left_track c a j (p - k))) t (p - q) z

pub data OnPath (c : List Pair) (t a j p q : ℕ) (z : Point) : Type 0 where
  right : p ≤ q → OnRight c t a j p q z → OnPath c t a j p q z
  left : q < p → OnLeft c t a j p q z → OnPath c t a j p q z

-- the path drawn of pair j goes right or left
pub data Goes (c : List Pair) (t a b j : ℕ) : Type 0 where
  rightward : a + p_at c j ≤ b + q_at c j → drawn_path c t a b j ≡ stairs_right c t a j (a + p_at c j) (b + q_at c j) → Goes c t a b j
  leftward : b + q_at c j < a + p_at c j → drawn_path c t a b j ≡ stairs_left c t a j (a + p_at c j) (b + q_at c j) → Goes c t a b j

-- with a track or more it is P1's path one track higher; with none it is one point, if the path has but one column
drawn_stairs : (c : List Pair) (t a b j : ℕ) (x h : ℕ → ℕ) (w : ℕ) → ((n : ℕ) → path c n a b j ≡ staircase x h n w) → (t ≡ 0 → w ≡ 0)
    → drawn_path c t a b j ≡ staircase x (λ k. suc (h k)) t w
unfolding drawn_path staircase rest
drawn_stairs c zero a b j x h w e none = let one : staircase x h 0 w ≡ staircase x (λ k. suc (h k)) 0 w = rw (none refl) in e 0 ∙ one
drawn_stairs c (suc t) a b j x h w e none = ap with_step_below (e t) ∙ staircase_raised x h t w

module _ (c : List Pair) (t a b : ℕ) (up : rising c ≡ true) (f : edge_clear c t a b ≡ true) where
  by_pairs : ByPairs c (t - 1) a b
  by_pairs = clear_by_pairs c t a b f

  -- a path's columns and the tracks of its runs are a staircase's
  pub right_course : (j p q : ℕ) → j < length c → a + p_at c j ≡ p → b + q_at c j ≡ q → Course (λ k. p + k) (λ k. suc (right_track c a j (p + k))) t (q - p)
  unfolding Beside
  right_course j p q l d e =
      record {
        beside = λ k h. inl (omega arith);
        rises = λ k. let e : p + suc k ≡ suc (p + k) = omega arith in rw e (omega (arith, right_rises c a up j (p + k) l (omega arith)));
        above = λ k. omega arith;
        below = λ k h. omega (arith, right_below c a up (t - 1) b by_pairs j (p + k) l (omega arith) (omega arith));
      }

  pub left_course : (j p q : ℕ) → j < length c → a + p_at c j ≡ p → b + q_at c j ≡ q → Course (λ k. p - k) (λ k. suc (left_track c a j (p - k))) t (p - q)
  unfolding Beside
  left_course j p q l d e =
      record {
        beside = λ k h. inr (omega arith);
        rises = λ k. omega (arith, left_rises c a up j (p - k) (p - suc k) l (omega arith) (omega arith));
        above = λ k. omega arith;
        below = λ k h. omega (arith, left_below c a up (t - 1) b by_pairs j (p - k) l (omega arith) (omega arith));
      }

  module _ (j : ℕ) (l : j < length c) where
    abbrev p : ℕ
    p = a + p_at c j

    abbrev q : ℕ
    q = b + q_at c j

    -- without tracks every path is straight
    straight : t ≡ 0 → p ≡ q
    straight z =
        let e : j + (t - 1) ≡ j = omega arith in
        omega (arith, by_pairs.left j j e l, by_pairs.right j j e l)

    pub goes : Goes c t a b j
    unfolding path path_between
    goes = go (leb p q) refl
      where
        go : (v : Bool) → leb p q ≡ v → Goes c t a b j
        go true e =
            rightward (leb-true p q e)
            (drawn_stairs c t a b j (λ k. p + k) (λ k. right_track c a j (p + k)) (q - p) (λ n. rw e) (λ z. omega (arith, straight z)))
        go false e =
            leftward (leb-false p q e)
            (drawn_stairs c t a b j (λ k. p - k) (λ k. left_track c a j (p - k)) (p - q) (λ n. rw e) (λ z. omega (arith, straight z)))

    path_led : is_path t (point (pos p) 0) (point (pos q) t) (drawn_path c t a b j) ≡ true
    path_led = go goes
      where
        go : Goes c t a b j → is_path t (point (pos p) 0) (point (pos q) t) (drawn_path c t a b j) ≡ true
        go (rightward u e) =
            rw e (staircase_path (λ k. p + k) (λ k. suc (right_track c a j (p + k))) t (q - p) (right_course j p q l refl refl) p q (omega arith) (omega arith))
        go (leftward u e) =
            rw e (staircase_path (λ k. p - k) (λ k. suc (left_track c a j (p - k))) t (p - q) (left_course j p q l refl refl) p q (omega arith) (omega arith))

    pub path_points : (z : Point) → on_path z (drawn_path c t a b j) ≡ true → OnPath c t a j p q z
    unfolding OnRight OnLeft
    path_points z o = go goes
      where
        go : Goes c t a b j → OnPath c t a j p q z
        go (rightward u e) = right u (on_staircase (λ k. p + k) (λ k. suc (right_track c a j (p + k))) t (q - p) (right_course j p q l refl refl) z (rw e at o))
        go (leftward u e) = left u (on_staircase (λ k. p - k) (λ k. suc (left_track c a j (p - k))) t (p - q) (left_course j p q l refl refl) z (rw e at o))

  -- no point is on the paths of two pairs
  clear : (i j : ℕ) (z : Point) → i < j → j < length c → OnPath c t a i (a + p_at c i) (b + q_at c i) z
      → OnPath c t a j (a + p_at c j) (b + q_at c j) z → ⊥
  unfolding OnRight OnLeft
  clear i j z l h (right u x) (right v y) =
      let s = rising_before c up i (j - i) j (omega arith) h in
      let e = pos_injective z.column (a + p_at c i + x.at) (a + p_at c j + y.at) x.column y.column in
      let k = x.at - 1 in
      let g = right_beyond c a up i j (a + p_at c i + k) (a + p_at c j + y.at) l h (omega arith) (omega arith) (omega arith) in
      let m : suc (right_track c a i (a + p_at c i + k)) ≤ z.track = x.from k (omega arith) in
      let n : z.track ≤ suc (right_track c a j (a + p_at c j + y.at)) = y.upto (omega arith) in
      omega arith
  clear i j z l h (right u x) (left v y) =
      let s = rising_before c up i (j - i) j (omega arith) h in
      let e = pos_injective z.column (a + p_at c i + x.at) (a + p_at c j - y.at) x.column y.column in
      omega arith
  clear i j z l h (left u x) (right v y) =
      let s = rising_before c up i (j - i) j (omega arith) h in
      let e = pos_injective z.column (a + p_at c i - x.at) (a + p_at c j + y.at) x.column y.column in
      omega arith
  clear i j z l h (left u x) (left v y) =
      let s = rising_before c up i (j - i) j (omega arith) h in
      let e = pos_injective z.column (a + p_at c i - x.at) (a + p_at c j - y.at) x.column y.column in
      let k = y.at - 1 in
      let g = left_beyond c a up i j (a + p_at c j - k) (a + p_at c i - x.at) l h (omega arith) (omega arith) (omega arith) in
      let m : suc (left_track c a j (a + p_at c j - k)) ≤ z.track = y.from k (omega arith) in
      let n : z.track ≤ suc (left_track c a i (a + p_at c i - x.at)) = x.upto (omega arith) in
      omega arith

  paths_disjoint : (i j : ℕ) → i < j → j < length c → Disjoint (drawn_path c t a b i) (drawn_path c t a b j)
  unfolding Disjoint
  paths_disjoint i j l h z o u = clear i j z l h (path_points i (omega arith) z o) (path_points j h z u)

pub wiring_led : (c : List Pair) (t a b : ℕ) → rising c ≡ true → edge_clear c t a b ≡ true → all_paths t a b c (wiring c t a b) ≡ true
unfolding wiring
wiring_led c t a b up f =
    all_paths_listed t a b c (λ j. drawn_path c t a b j) (λ j l. path_led c t a b up f j l)

pub wiring_clear : (c : List Pair) (t a b : ℕ) → rising c ≡ true → edge_clear c t a b ≡ true → none_meet (wiring c t a b) ≡ true
unfolding wiring
wiring_clear c t a b up f =
    none_meet_listed (λ j. drawn_path c t a b j) (length c) (paths_disjoint c t a b up f)

unfoldable pub clear_drawn : (c : List Pair) (t a b : ℕ) → rising c ≡ true → edge_clear c t a b ≡ true → ChannelDrawn c t a b
clear_drawn c t a b up f = record { paths = wiring c t a b; led = wiring_led c t a b up f; clear = wiring_clear c t a b up f }

pub clear_drawn_paths : (c : List Pair) (t a b : ℕ) (up : rising c ≡ true) (f : edge_clear c t a b ≡ true)
    → (clear_drawn c t a b up f).paths ≡ wiring c t a b
unfolding clear_drawn
clear_drawn_paths c t a b up f = refl
