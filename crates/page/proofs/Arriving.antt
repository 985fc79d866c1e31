-- A staircase by the columns at which it comes to each track: its points on a track are those from one such column to the next, it runs between them, and it
-- rises at the last of them. Assumes nothing.
use mathlib.Core.Path.{◌≡◌, refl, ap}
use mathlib.Core.Bool.{true}
use mathlib.Core.List.{List, [], ◌∷◌}
use mathlib.Core.Logic.{◌⊎◌, inl, inr}
use Prim.Native.Nat.{ℕ, zero, suc, ◌+◌, ◌-◌, ◌≤◌, ◌<◌, min, max}
use native.Mathlib.Omega.{arith}
use native.Mathlib.Decide.{ℕ_discrete}
use lib.IntN.{pos}
use Rattle.numbers.proofs.Bools.{or_left, or_right}
use Rattle.numbers.proofs.Orders.{le_or_lt, lt_or_eq}
use Rattle.routing.specs.Paths.{Point, point, on_path}
use Rattle.routing.specs.Wiring.{riser, rest, staircase, leads, runs}
use Rattle.routing.proofs.Staircase.{Course, On, on_staircase}
use Rattle.routing.proofs.Runs.{leads_riser, leads_on, runs_on}
use Rattle.page.specs.Page.{steps_between}
use Rattle.page.proofs.Leads.{on_here, leads_first, leads_later}

-- UPRIGHT PIECES are walked upward
riser_rises : (x y n u z : ℕ) (ws : List Point) → y + n ≡ u → y ≤ z → z < u
    → leads (point (pos x) z) (point (pos x) (suc z)) (point (pos x) y ∷ riser x y n ws) ≡ true
unfolding riser
riser_rises x y zero u z ws e l m = absurd (omega arith)
riser_rises x y (suc n) u z ws e l m = go (ℕ_discrete z y) (λ d. riser_rises x (suc y) n u z ws (omega arith) d m)
  where
    go : Dec (z ≡ y) → (suc y ≤ z → leads (point (pos x) z) (point (pos x) (suc z)) (point (pos x) (suc y) ∷ riser x (suc y) n ws) ≡ true)
        → leads (point (pos x) z) (point (pos x) (suc z)) (point (pos x) y ∷ point (pos x) (suc y) ∷ riser x (suc y) n ws) ≡ true
    go (yes d) f = rw d (leads_first (point (pos x) y) (point (pos x) (suc y)) (riser x (suc y) n ws))
    go (no d) f = leads_later (point (pos x) z) (point (pos x) (suc z)) (point (pos x) y) (point (pos x) (suc y) ∷ riser x (suc y) n ws) (f (omega arith))

module _ (x h : ℕ → ℕ) (t w : ℕ) (s : Course x h t w) where
  rest_rises : (i z : ℕ) → i ≤ w → ((m : ℕ) → suc m ≡ i → h m ≤ z) → (i < w → z < h i) → z < t → (n k y : ℕ) → k + n ≡ w → y ≤ h k → k ≤ i → (k ≡ i → y ≤ z)
      → leads (point (pos (x i)) z) (point (pos (x i)) (suc z)) (point (pos (x k)) y ∷ rest x h t n k y) ≡ true
  unfolding rest
  rest_rises i z l a b c zero k y e m g f =
      let d : k ≡ i = omega arith in
      let u = f d in
      rw (← d) (riser_rises (x k) y (t - y) t z [] (omega arith) (omega arith) c)
  rest_rises i z l a b c (suc n) k y e m g f = go (ℕ_discrete k i) (λ j. rest_rises i z l a b c n (suc k) (h k) (omega arith) (s.rises k) j (λ d. a k d))
    where
      ws : List Point
      ws = point (pos (x (suc k))) (h k) ∷ rest x h t n (suc k) (h k)

      go : Dec (k ≡ i) → (suc k ≤ i → leads (point (pos (x i)) z) (point (pos (x i)) (suc z)) ws ≡ true)
          → leads (point (pos (x i)) z) (point (pos (x i)) (suc z)) (point (pos (x k)) y ∷ riser (x k) y (h k - y) ws) ≡ true
      go (yes d) next =
          let u = f d in
          let v = b (omega arith) in
          let hk = ap h d in
          rw (← d) (riser_rises (x k) y (h k - y) (h k) z ws (omega arith) (omega arith) (omega arith))
      go (no d) next =
          leads_riser (point (pos (x i)) z) (point (pos (x i)) (suc z)) (x k) y (h k - y) (h k) ws (omega arith)
          (leads_later (point (pos (x i)) z) (point (pos (x i)) (suc z)) (point (pos (x k)) (h k)) ws (next (omega arith)))

  -- it rises from a track that is neither below the run on which it comes to the column nor on or above the run on which it leaves
  stairs_rise : (i z : ℕ) → i ≤ w → ((m : ℕ) → suc m ≡ i → h m ≤ z) → (i < w → z < h i) → z < t
      → leads (point (pos (x i)) z) (point (pos (x i)) (suc z)) (staircase x h t w) ≡ true
  unfolding staircase
  stairs_rise i z l a b c = rest_rises i z l a b c w 0 0 (omega arith) (omega arith) (omega arith) (λ d. omega arith)

  first_on : on_path (point (pos (x 0)) 0) (staircase x h t w) ≡ true
  unfolding staircase
  first_on = on_here (point (pos (x 0)) 0) (point (pos (x 0)) 0) (rest x h t w 0 0) refl

  -- a track between the two is on the path
  on_stairs : ((i k : ℕ) → i ≤ w → k ≤ w → x i ≡ x k → i ≡ k) → (i z : ℕ) → i ≤ w → ((m : ℕ) → suc m ≡ i → h m ≤ z) → (i < w → z ≤ h i) → z ≤ t
      → on_path (point (pos (x i)) z) (staircase x h t w) ≡ true
  on_stairs once i z l a b c = go (lt_or_eq i w l) (lt_or_eq z t c)
    where
      rise : (y : ℕ) → ((m : ℕ) → suc m ≡ i → h m ≤ y) → (i < w → y < h i) → y < t → leads (point (pos (x i)) y) (point (pos (x i)) (suc y)) (staircase x h t w) ≡ true
      rise y f g d = stairs_rise i y l f g d

      arrival : (y : ℕ) → ((m : ℕ) → suc m ≡ i → h m ≤ y) → (i < w → y < h i) → y < t → on_path (point (pos (x i)) y) (staircase x h t w) ≡ true
      arrival y f g d = (leads_on (point (pos (x i)) y) (point (pos (x i)) (suc y)) (staircase x h t w) (rise y f g d)).0

      run : i < w → z ≡ h i → on_path (point (pos (x i)) z) (staircase x h t w) ≡ true
      run d e =
          (leads_on (point (pos (x i)) z) (point (pos (x (suc i))) z) (staircase x h t w)
          ((runs_on x h t w s once i (x i) (x (suc i)) (h i) z d refl refl refl).1 e)).0

      last : (y : ℕ) → y ≡ t → i ≡ w → on_path (point (pos (x i)) y) (staircase x h t w) ≡ true
      last zero e d = go (le_or_lt w 0)
        where
          go : (w ≤ 0) ⊎ (0 < w) → on_path (point (pos (x i)) 0) (staircase x h t w) ≡ true
          go (inl k) = let r : i ≡ 0 = omega arith in rw r first_on
          go (inr k) = let u = s.below 0 k in absurd (omega arith)
      last (suc y) e d =
          (leads_on (point (pos (x i)) y) (point (pos (x i)) (suc y)) (staircase x h t w)
          (rise y (λ m f. let u = s.below m (omega arith) in omega arith) (λ f. absurd (omega arith)) (omega arith))).1

      go : (i < w) ⊎ (i ≡ w) → (z < t) ⊎ (z ≡ t) → on_path (point (pos (x i)) z) (staircase x h t w) ≡ true
      go (inl d) e = at (lt_or_eq z (h i) (b d))
        where
          at : (z < h i) ⊎ (z ≡ h i) → on_path (point (pos (x i)) z) (staircase x h t w) ≡ true
          at (inl f) = let u = s.below i d in arrival z a (λ g. f) (omega arith)
          at (inr f) = run d f
      go (inr d) (inl e) = arrival z a (λ f. absurd (omega arith)) e
      go (inr d) (inr e) = last z e d

-- ARRIVALS: f y is the first of the columns 0 to w at which the staircase is on track y, and w where it is on it at none of them but perhaps the last
pub record Reaches (h f : ℕ → ℕ) (w : ℕ) : Type 0 where
  pub within : (y : ℕ) → f y ≤ w
  pub earlier : (k y : ℕ) → k < f y → h k < y
  pub later : (k y : ℕ) → k < w → f y ≤ k → y ≤ h k

-- runs one track higher come to each track where they came to the one below it
pub reaches_raised : (h f : ℕ → ℕ) (w : ℕ) → Reaches h f w → Reaches (λ k. suc (h k)) (λ y. f (y - 1)) w
reaches_raised h f w r = record {
  within = λ y. r.within (y - 1);
  earlier = λ k y l. omega (arith, r.earlier k (y - 1) l);
  later = λ k y l m. omega (arith, r.later k (y - 1) l m);
}

arrivals_rise : {h f : ℕ → ℕ} {w : ℕ} → Reaches h f w → (y : ℕ) → f y ≤ f (suc y)
arrivals_rise {h} {f} {w} r y = go (le_or_lt (f y) (f (suc y)))
  where
    go : (f y ≤ f (suc y)) ⊎ (f (suc y) < f y) → f y ≤ f (suc y)
    go (inl l) = l
    go (inr l) = absurd (omega (arith, r.within y, r.earlier (f (suc y)) y l, r.later (f (suc y)) (suc y) (omega (arith, r.within y)) (omega arith)))

-- a point from one arrival to the next
pub record Between (t : ℕ) (g : ℕ → ℕ) (z : Point) : Type 0 where
  pub column : ℕ
  pub is : z.column ≡ pos column
  pub from : min (g z.track) (g (suc z.track)) ≤ column
  pub upto : column ≤ max (g z.track) (g (suc z.track))
  pub top : z.track ≤ t

-- a path by its arrivals g
pub record Arriving (t : ℕ) (g : ℕ → ℕ) (w : List Point) : Type 0 where
  pub way : ((y : ℕ) → g y ≤ g (suc y)) ⊎ ((y : ℕ) → g (suc y) ≤ g y)
  pub on : (z : Point) → on_path z w ≡ true → Between t g z
  pub there : (c y : ℕ) → y ≤ t → min (g y) (g (suc y)) ≤ c → c ≤ max (g y) (g (suc y)) → on_path (point (pos c) y) w ≡ true
  pub runs : (c y : ℕ) → min (g y) (g (suc y)) ≤ c → c < max (g y) (g (suc y)) → steps_between (point (pos c) y) (point (pos (suc c)) y) w ≡ true
  pub rises : (y : ℕ) → y < t → leads (point (pos (g (suc y))) y) (point (pos (g (suc y))) (suc y)) w ≡ true

module _ (x h f : ℕ → ℕ) (t w : ℕ) (s : Course x h t w) (r : Reaches h f w) (once : (i k : ℕ) → i ≤ w → k ≤ w → x i ≡ x k → i ≡ k) where
  -- a point of the staircase, by its column's place
  record Placed (z : Point) : Type 0 where
    at : ℕ
    column : z.column ≡ pos (x at)
    from : f z.track ≤ at
    upto : at ≤ f (suc z.track)
    top : z.track ≤ t

  placed : (z : Point) → on_path z (staircase x h t w) ≡ true → Placed z
  placed z o =
      let u = on_staircase x h t w s z o in
      record { at = u.at; column = u.column; from = from u (le_or_lt (f z.track) u.at); upto = upto u (le_or_lt u.at (f (suc z.track))); top = u.top }
    where
      from : (u : On x h t w z) → (f z.track ≤ u.at) ⊎ (u.at < f z.track) → f z.track ≤ u.at
      from u (inl l) = l
      from u (inr l) =
          let m = u.upto (omega (arith, r.within z.track)) in
          absurd (omega (arith, r.earlier u.at z.track l))

      upto : (u : On x h t w z) → (u.at ≤ f (suc z.track)) ⊎ (f (suc z.track) < u.at) → u.at ≤ f (suc z.track)
      upto u (inl l) = l
      upto u (inr l) =
          let m = u.from (u.at - 1) (omega arith) in
          absurd (omega (arith, u.within, r.later (u.at - 1) (suc z.track) (omega (arith, u.within)) (omega arith)))

  low : (i y : ℕ) → i ≤ f (suc y) → (m : ℕ) → suc m ≡ i → h m ≤ y
  low i y l m e = omega (arith, r.earlier m (suc y) (omega arith))

  here : (i y : ℕ) → y ≤ t → f y ≤ i → i ≤ f (suc y) → on_path (point (pos (x i)) y) (staircase x h t w) ≡ true
  here i y l m n = on_stairs x h t w s once i y (omega (arith, r.within (suc y))) (low i y n) (λ d. r.later i y d m) l

  runs_here : (i y : ℕ) → f y ≤ i → i < f (suc y) → runs (x i) (x (suc i)) y (staircase x h t w) ≡ true
  runs_here i y m n =
      let d : i < w = omega (arith, r.within (suc y)) in
      (runs_on x h t w s once i (x i) (x (suc i)) (h i) y d refl refl refl).1 (omega (arith, r.later i y d m, r.earlier i (suc y) n))

  rises_here : (y : ℕ) → y < t → leads (point (pos (x (f (suc y)))) y) (point (pos (x (f (suc y)))) (suc y)) (staircase x h t w) ≡ true
  rises_here y l =
      stairs_rise x h t w s (f (suc y)) y (r.within (suc y)) (low (f (suc y)) y (omega arith)) (λ d. r.later (f (suc y)) (suc y) d (omega arith)) l

-- RIGHT AND LEFT
pub right_arriving : (p : ℕ) (h f : ℕ → ℕ) (t w : ℕ) → Course (λ k. p + k) h t w → Reaches h f w → Arriving t (λ y. p + f y) (staircase (λ k. p + k) h t w)
unfolding steps_between
right_arriving p h f t w s r = record {
  way = inl (λ y. omega (arith, arrivals_rise r y));
  on = λ z o.
      let u = placed x h f t w s r once z o in
      record { column = p + u.at; is = u.column; from = omega (arith, u.from); upto = omega (arith, u.upto); top = u.top };
  there = λ c y l m n.
      let e : p + (c - p) ≡ c = omega (arith, arrivals_rise r y) in
      rw e at (here x h f t w s r once (c - p) y l (omega (arith, arrivals_rise r y)) (omega (arith, arrivals_rise r y)));
  runs = λ c y m n.
      let e : p + (c - p) ≡ c = omega (arith, arrivals_rise r y) in
      let d : p + suc (c - p) ≡ suc c = omega (arith, arrivals_rise r y) in
      or_left (leads (point (pos c) y) (point (pos (suc c)) y) ws) (leads (point (pos (suc c)) y) (point (pos c) y) ws)
      (rw (e, d) at (runs_here x h f t w s r once (c - p) y (omega (arith, arrivals_rise r y)) (omega (arith, arrivals_rise r y))));
  rises = λ y l. rises_here x h f t w s r once y l;
}
  where
    x : ℕ → ℕ
    x = λ k. p + k

    ws : List Point
    ws = staircase (λ k. p + k) h t w

    once : (i k : ℕ) → i ≤ w → k ≤ w → p + i ≡ p + k → i ≡ k
    once i k l m e = omega arith

left_ends : (p a b : ℕ) → a ≤ b → (min (p - a) (p - b) ≡ p - b) × (max (p - a) (p - b) ≡ p - a)
left_ends p a b l = (omega arith, omega arith)

left_there : (p a b c : ℕ) → a ≤ b → b ≤ p → p - b ≤ c → c ≤ p - a → (p - (p - c) ≡ c) × (a ≤ p - c) × (p - c ≤ b)
left_there p a b c l m g h = (omega arith, omega arith, omega arith)

left_runs : (p a b c : ℕ) → a ≤ b → b ≤ p → p - b ≤ c → c < p - a → (p - (p - suc c) ≡ suc c) × (p - suc (p - suc c) ≡ c) × (a ≤ p - suc c) × (p - suc c < b)
left_runs p a b c l m g h = (omega arith, omega arith, omega arith, omega arith)

pub left_arriving : (p : ℕ) (h f : ℕ → ℕ) (t w : ℕ) → w ≤ p → Course (λ k. p - k) h t w → Reaches h f w → Arriving t (λ y. p - f y) (staircase (λ k. p - k) h t w)
unfolding steps_between
left_arriving p h f t w wide s r = record {
  way = inr (λ y. omega (arith, arrivals_rise r y));
  on = λ z o.
      let u = placed x h f t w s r once z o in
      record { column = p - u.at; is = u.column; from = rw (ends z.track).0 (omega (arith, u.upto)); upto = rw (ends z.track).1 (omega (arith, u.from)); top = u.top };
  there = λ c y l m n.
      let d = left_there p (f y) (f (suc y)) c (arrivals_rise r y) (below y) (rw (ends y).0 at m) (rw (ends y).1 at n) in
      rw d.0 at (here x h f t w s r once (p - c) y l d.1 d.2);
  runs = λ c y m n.
      let d = left_runs p (f y) (f (suc y)) c (arrivals_rise r y) (below y) (rw (ends y).0 at m) (rw (ends y).1 at n) in
      or_right (leads (point (pos c) y) (point (pos (suc c)) y) ws) (leads (point (pos (suc c)) y) (point (pos c) y) ws)
      (rw (d.0, d.1) at (runs_here x h f t w s r once (p - suc c) y d.2 d.3));
  rises = λ y l. rises_here x h f t w s r once y l;
}
  where
    x : ℕ → ℕ
    x = λ k. p - k

    ws : List Point
    ws = staircase (λ k. p - k) h t w

    once : (i k : ℕ) → i ≤ w → k ≤ w → p - i ≡ p - k → i ≡ k
    once i k l m e = omega arith

    ends : (y : ℕ) → (min (p - f y) (p - f (suc y)) ≡ p - f (suc y)) × (max (p - f y) (p - f (suc y)) ≡ p - f y)
    ends y = left_ends p (f y) (f (suc y)) (arrivals_rise r y)

    below : (y : ℕ) → f (suc y) ≤ p
    below y = omega (arith, r.within (suc y))
