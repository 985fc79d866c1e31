-- A staircase whose tracks never fall and stay between the edges is a path, and its points are at each column from the track of the run before to the track of
-- the run after. One track higher with an upright step below, it is the staircase of the tracks above. By induction on the columns to go. Assumes nothing.
use mathlib.Core.Path.{◌≡◌, refl, ap, ◌∙◌}
use mathlib.Core.Bool.{true}
use mathlib.Core.List.{List, [], ◌∷◌}
use mathlib.Core.Logic.{◌⊎◌, inl, inr, ⊎_map, ⊎_elim}
use Prim.Native.Nat.{ℕ, zero, suc, ◌+◌, ◌-◌, ◌≤◌, ◌<◌}
use lib.IntN.{pos}
use native.Mathlib.Omega.{arith}
use borrow.Author.Tests.{le-leb, lt-ltb, eq-eqb, ne_eqb}
use Rattle.numbers.proofs.Bools.{and_both, or_either}
use Rattle.routing.specs.Paths.{Point, point, next, same_column, same_point, is_step, chain, is_path, on_path}
use Rattle.routing.specs.Wiring.{riser, rest, staircase, raised, with_step_below}
use Rattle.routing.proofs.Points.{same_point_equal, same_point_self}

-- a step of one column, to the right or to the left
unfoldable pub Beside : (x z : ℕ) → Type 0
Beside x z = (suc x ≡ z) ⊎ (suc z ≡ x)

-- the columns x and the tracks h of a path of w columns to track t
pub record Course (x h : ℕ → ℕ) (t w : ℕ) : Type 0 where
  pub beside : (k : ℕ) → k < w → Beside (x k) (x (suc k))
  pub rises : (k : ℕ) → h k ≤ h (suc k)
  pub above : (k : ℕ) → 0 < h k
  pub below : (k : ℕ) → k < w → h k < t

up_step : (t x y : ℕ) → y < t → is_step t (point (pos x) y) (point (pos x) (suc y)) ≡ true
unfolding is_step point same_column
up_step t x y l = rw (le-leb y t (omega arith), le-leb (suc y) t (omega arith), eq-eqb x x refl, eq-eqb (suc y) (suc y) refl)

along_step : (t x z y : ℕ) → 0 < y → y < t → Beside x z → is_step t (point (pos x) y) (point (pos z) y) ≡ true
unfolding is_step point same_column next Beside
along_step t x z y o l (inl e) = rw (le-leb y t (omega arith), eq-eqb y y refl, lt-ltb 0 y o, lt-ltb y t l, ne_eqb x z (omega arith), eq-eqb (suc x) z e)
along_step t x z y o l (inr e) =
    rw (le-leb y t (omega arith), eq-eqb y y refl, lt-ltb 0 y o, lt-ltb y t l, ne_eqb x z (omega arith), ne_eqb (suc x) z (omega arith), eq-eqb (suc z) x e)

riser_chain : (t : ℕ) (g : Point) (x y n z : ℕ) (ws : List Point) → y + n ≡ z → z ≤ t → chain t g (point (pos x) z) ws ≡ true
    → chain t g (point (pos x) y) (riser x y n ws) ≡ true
unfolding chain riser
riser_chain t g x y zero z ws e l h = let d : y ≡ z = omega arith in rw d h
riser_chain t g x y (suc n) z ws e l h =
    and_both (is_step t (point (pos x) y) (point (pos x) (suc y))) (chain t g (point (pos x) (suc y)) (riser x (suc y) n ws))
    (up_step t x y (omega arith)) (riser_chain t g x (suc y) n z ws (omega arith) l h)

module _ (x h : ℕ → ℕ) (t w : ℕ) (s : Course x h t w) where
  rest_chain : (n k y : ℕ) → k + n ≡ w → y ≤ t → y ≤ h k → chain t (point (pos (x w)) t) (point (pos (x k)) y) (rest x h t n k y) ≡ true
  unfolding chain rest point
  rest_chain zero k y e l z =
      let d : k ≡ w = omega arith in
      riser_chain t (point (pos (x w)) t) (x k) y (t - y) t [] (omega arith) (omega arith)
      (rw (d, same_point_self (point (pos (x w)) t), le-leb t t (omega arith)))
  rest_chain (suc n) k y e l z =
      let b = s.below k (omega arith) in
      riser_chain t (point (pos (x w)) t) (x k) y (h k - y) (h k) (point (pos (x (suc k))) (h k) ∷ rest x h t n (suc k) (h k)) (omega arith) (omega arith)
      (and_both (is_step t (point (pos (x k)) (h k)) (point (pos (x (suc k))) (h k)))
      (chain t (point (pos (x w)) t) (point (pos (x (suc k))) (h k)) (rest x h t n (suc k) (h k)))
      (along_step t (x k) (x (suc k)) (h k) (s.above k) b (s.beside k (omega arith)))
      (rest_chain n (suc k) (h k) (omega arith) (omega arith) (s.rises k)))

  pub staircase_path : (p q : ℕ) → x 0 ≡ p → x w ≡ q → is_path t (point (pos p) 0) (point (pos q) t) (staircase x h t w) ≡ true
  unfolding is_path staircase
  staircase_path p q d e = rw (← d, ← e, same_point_self (point (pos (x 0)) 0)) (rest_chain w 0 0 (omega arith) (omega arith) (omega arith))

-- a point upright above track y, up to track u
record Upright (x y u : ℕ) (z : Point) : Type 0 where
  column : z.column ≡ pos x
  from : y ≤ z.track
  upto : z.track ≤ u

at_foot : (z : Point) (x y u : ℕ) → y ≤ u → same_point z (point (pos x) y) ≡ true → Upright x y u z
unfolding point
at_foot z x y u l e =
    let q = same_point_equal z (point (pos x) y) e in
    let d = ap (λ (v : Point). v.track) q in
    record { column = ap (λ (v : Point). v.column) q; from = omega arith; upto = omega arith }

on_riser : (z : Point) (x y n u : ℕ) (ws : List Point) → y + n ≡ u → on_path z (point (pos x) y ∷ riser x y n ws) ≡ true
    → Upright x y u z ⊎ (on_path z ws ≡ true)
unfolding on_path riser
on_riser z x y zero u ws e o = ⊎_map (at_foot z x y u (omega arith)) (λ k. k) (or_either (same_point z (point (pos x) y)) (on_path z ws) o)
on_riser z x y (suc n) u ws e o =
    go (or_either (same_point z (point (pos x) y)) (on_path z (riser x y (suc n) ws)) o) (λ k. on_riser z x (suc y) n u ws (omega arith) k)
  where
    go : (same_point z (point (pos x) y) ≡ true) ⊎ (on_path z (riser x y (suc n) ws) ≡ true)
        → (on_path z (riser x y (suc n) ws) ≡ true → Upright x (suc y) u z ⊎ (on_path z ws ≡ true)) → Upright x y u z ⊎ (on_path z ws ≡ true)
    go (inl k) f = inl (at_foot z x y u (omega arith) k)
    go (inr k) f = ⊎_map (λ v. record { column = v.column; from = omega arith; upto = v.upto }) (λ k. k) (f k)

-- a point of the path: at some column, not below the run on which the path comes to it, nor above the run on which it leaves
pub record On (x h : ℕ → ℕ) (t w : ℕ) (z : Point) : Type 0 where
  pub at : ℕ
  pub within : at ≤ w
  pub column : z.column ≡ pos (x at)
  pub from : (k : ℕ) → suc k ≡ at → h k ≤ z.track
  pub upto : at < w → z.track ≤ h at
  pub top : z.track ≤ t

module _ (x h : ℕ → ℕ) (t w : ℕ) (s : Course x h t w) where
  -- y is the track on which the path came to the k-th column
  run_before : (k i : ℕ) → suc i ≡ suc k → h i ≤ h k
  run_before k i d = let q : i ≡ k = omega arith in rw q (omega arith)

  on_rest : (z : Point) (n k y : ℕ) → k + n ≡ w → y ≤ t → y ≤ h k → ((i : ℕ) → suc i ≡ k → h i ≤ y)
      → on_path z (point (pos (x k)) y ∷ rest x h t n k y) ≡ true → On x h t w z
  unfolding on_path rest
  on_rest z zero k y e l m f o = ⊎_elim last (λ v. let g : ◌≡◌ {A = ℕ} 0 1 = cc in absurd (omega arith)) (on_riser z (x k) y (t - y) t [] (omega arith) o)
    where
      last : Upright (x k) y t z → On x h t w z
      last v =
          record { at = k; within = omega arith; column = v.column; from = λ i d. let g = f i d in omega arith; upto = λ d. omega arith; top = v.upto }
  on_rest z (suc n) k y e l m f o =
      let b = s.below k (omega arith) in
      ⊎_elim (here b) (λ v. on_rest z n (suc k) (h k) (omega arith) (omega arith) (s.rises k) (run_before k) v)
      (on_riser z (x k) y (h k - y) (h k) (point (pos (x (suc k))) (h k) ∷ rest x h t n (suc k) (h k)) (omega arith) o)
    where
      here : h k < t → Upright (x k) y (h k) z → On x h t w z
      here b v =
          record { at = k; within = omega arith; column = v.column; from = λ i d. let g = f i d in omega arith; upto = λ d. v.upto; top = omega arith }

  pub on_staircase : (z : Point) → on_path z (staircase x h t w) ≡ true → On x h t w z
  unfolding staircase
  on_staircase z o = on_rest z w 0 0 (omega arith) (omega arith) (omega arith) (λ i d. absurd (omega arith)) o

-- ONE TRACK HIGHER
raised_riser : (x y n : ℕ) (ws : List Point) → raised (riser x y n ws) ≡ riser x (suc y) n (raised ws)
unfolding riser raised point
raised_riser x y zero ws = refl
raised_riser x y (suc n) ws = ap (λ (zs : List Point). point (pos x) (suc (suc y)) ∷ zs) (raised_riser x (suc y) n ws)

module _ (x h : ℕ → ℕ) (t : ℕ) where
  raised_rest : (n k y : ℕ) → raised (rest x h t n k y) ≡ rest x (λ i. suc (h i)) (suc t) n k (suc y)
  unfolding rest raised point
  raised_rest zero k y = let e : suc t - suc y ≡ t - y = omega arith in rw e (raised_riser (x k) y (t - y) [])
  raised_rest (suc n) k y =
      let e : suc (h k) - suc y ≡ h k - y = omega arith in
      rw (e, ← raised_rest n (suc k) (h k)) (raised_riser (x k) y (h k - y) (point (pos (x (suc k))) (h k) ∷ rest x h t n (suc k) (h k)))

  -- the upright step from track 0 to track 1
  first_step : (n k : ℕ) → point (pos (x k)) 1 ∷ rest x (λ i. suc (h i)) (suc t) n k 1 ≡ rest x (λ i. suc (h i)) (suc t) n k 0
  unfolding rest riser
  first_step zero k = let e : suc t - 0 ≡ suc t = omega arith in let d : suc t - 1 ≡ t = omega arith in rw (e, d)
  first_step (suc n) k = let e : suc (h k) - 0 ≡ suc (h k) = omega arith in let d : suc (h k) - 1 ≡ h k = omega arith in rw (e, d)

  pub staircase_raised : (n : ℕ) → with_step_below (staircase x h t n) ≡ staircase x (λ i. suc (h i)) (suc t) n
  unfolding staircase with_step_below raised point
  staircase_raised n =
      ap (λ (zs : List Point). point (pos (x 0)) 0 ∷ zs) (ap (λ (zs : List Point). point (pos (x 0)) 1 ∷ zs) (raised_rest n 0 0) ∙ first_step n 0)
