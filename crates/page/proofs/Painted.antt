-- The page that the code paints is the page of the wiring: on a path with known arrivals a point has the arms that are drawn, and no other path is at the point.
-- Assumes nothing.
use mathlib.Core.Path.{◌≡◌, refl, sym, ap, ◌∙◌}
use mathlib.Core.Bool.{Bool, true, false, ◌&&◌, cond}
use mathlib.Core.List.{List, [], ◌∷◌}
use mathlib.Core.Logic.{◌⊎◌, inl, inr, ⊎_elim}
use Prim.Native.Nat.{ℕ, zero, suc, ◌≤◌, ◌<◌, min, max}
use native.Mathlib.Omega.{arith}
use borrow.Author.Tests.{leb-true, ltb-true, eqb-true, le-leb, lt-ltb, le-ltb, eq-eqb}
use lib.Dec.{ltb, leb, eqb}
use lib.IntN.{pos, negsuc}
use lib.ListN.{length}
use Rattle.numbers.proofs.Bools.{and_left, and_right, and_both, or_either, or_left, or_right, not_true_false, impossible}
use Rattle.numbers.proofs.Orders.{eq_or_not}
use Rattle.stack.specs.Stack.{Pair, edge_clear}
use Rattle.stack.specs.Limits.{rising}
use Rattle.routing.specs.Paths.{Point, point, on_path, none_meet}
use Rattle.routing.specs.Wiring.{leads, drawn_path, wiring, listed}
use Rattle.routing.proofs.Points.{path_at, pos_injective}
use Rattle.routing.proofs.Sufficiency.{wiring_clear}
use Rattle.routing.proofs.Runs.{leads_on, wiring_at}
use Rattle.page.specs.Page.{on_some, steps_between, joined, before, arm_left, arm_right, arm_up, arm_down, arms_character, character}
use Rattle.page.specs.Arrivals.{EndsAre, arrival, drawn, painted, track_painted}
use Rattle.page.proofs.Arms.{joined_arm, arm_on, same_path}
use Rattle.page.proofs.Arriving.{Arriving}
use Rattle.page.proofs.Arrivals.{path_arriving}

same_bool : (a b : Bool) → (a ≡ true → b ≡ true) → (b ≡ true → a ≡ true) → a ≡ b
same_bool true b f g = sym (f refl)
same_bool false true f g = g refl
same_bool false false f g = refl

steps_on : (u v : Point) (w : List Point) → steps_between u v w ≡ true → (on_path u w ≡ true) × (on_path v w ≡ true)
unfolding steps_between
steps_on u v w e = ⊎_elim (λ h. leads_on u v w h) (λ h. let o = leads_on v u w h in (o.1, o.0)) (or_either (leads u v w) (leads v u w) e)

steps_back : (u v : Point) (w : List Point) → steps_between u v w ≡ true → steps_between v u w ≡ true
unfolding steps_between
steps_back u v w e = ⊎_elim (or_right (leads v u w) (leads u v w)) (or_left (leads v u w) (leads u v w)) (or_either (leads u v w) (leads v u w) e)

-- ONE PATH: its points and their arms
module _ (t : ℕ) (g : ℕ → ℕ) (w : List Point) (f : Arriving t g w) where
  on_at : (c y : ℕ) → on_path (point (pos c) y) w ≡ true → (min (g y) (g (suc y)) ≤ c) × (c ≤ max (g y) (g (suc y))) × (y ≤ t)
  unfolding point
  on_at c y o =
      let b = f.on (point (pos c) y) o in
      let e = pos_injective (pos c) c b.column refl b.is in
      (omega (arith, b.from), omega (arith, b.upto), b.top)

  none_before : (y : ℕ) → on_path (point (negsuc 0) y) w ≡ true → ⊥
  unfolding point
  none_before y o = let b = f.on (point (negsuc 0) y) o in let e = b.is in let z : ◌≡◌ {A = ℕ} 0 1 = cc in omega arith

  covers : (c y : ℕ) → y ≤ t → (leb (min (g y) (g (suc y))) c && leb c (max (g y) (g (suc y)))) ≡ on_path (point (pos c) y) w
  covers c y l =
      same_bool (leb (min (g y) (g (suc y))) c && leb c (max (g y) (g (suc y)))) (on_path (point (pos c) y) w)
      (λ e.
      f.there c y l (leb-true (min (g y) (g (suc y))) c (and_left (leb (min (g y) (g (suc y))) c) _ e))
      (leb-true c (max (g y) (g (suc y))) (and_right (leb (min (g y) (g (suc y))) c) _ e)))
      (λ o. let h = on_at c y o in and_both (leb (min (g y) (g (suc y))) c) (leb c (max (g y) (g (suc y)))) (le-leb (min (g y) (g (suc y))) c h.0) (le-leb c (max (g y) (g (suc y))) h.1))

  one_arrival : (c y : ℕ) → on_path (point (pos c) y) w ≡ true → on_path (point (pos c) (suc y)) w ≡ true → c ≡ g (suc y)
  one_arrival c y o k = let h = on_at c y o in let i = on_at c (suc y) k in go f.way h.0 h.1 i.0 i.1
    where
      go : ((n : ℕ) → g n ≤ g (suc n)) ⊎ ((n : ℕ) → g (suc n) ≤ g n) → min (g y) (g (suc y)) ≤ c → c ≤ max (g y) (g (suc y))
          → min (g (suc y)) (g (suc (suc y))) ≤ c → c ≤ max (g (suc y)) (g (suc (suc y))) → c ≡ g (suc y)
      go (inl r) a b d e = omega (arith, r y, r (suc y))
      go (inr r) a b d e = omega (arith, r y, r (suc y))

  module _ (c y : ℕ) (o : on_path (point (pos c) y) w ≡ true) where
    right_arm : steps_between (point (pos c) y) (point (pos (suc c)) y) w ≡ ltb c (max (g y) (g (suc y)))
    right_arm =
        same_bool (steps_between (point (pos c) y) (point (pos (suc c)) y) w) (ltb c (max (g y) (g (suc y))))
        (λ e. lt-ltb c (max (g y) (g (suc y))) (omega (arith, (on_at (suc c) y (steps_on (point (pos c) y) (point (pos (suc c)) y) w e).1).1)))
        (λ e. f.runs c y (on_at c y o).0 (ltb-true c (max (g y) (g (suc y))) e))

    up_arm : steps_between (point (pos c) y) (point (pos c) (suc y)) w ≡ (eqb c (g (suc y)) && ltb y t)
    unfolding steps_between
    up_arm =
        same_bool (steps_between (point (pos c) y) (point (pos c) (suc y)) w) (eqb c (g (suc y)) && ltb y t)
        (λ e.
        let k = (steps_on (point (pos c) y) (point (pos c) (suc y)) w e).1 in
        and_both (eqb c (g (suc y))) (ltb y t) (eq-eqb c (g (suc y)) (one_arrival c y o k)) (lt-ltb y t (on_at c (suc y) k).2))
        (λ e.
        let d = eqb-true c (g (suc y)) (and_left (eqb c (g (suc y))) (ltb y t) e) in
        or_left (leads (point (pos c) y) (point (pos c) (suc y)) w) (leads (point (pos c) (suc y)) (point (pos c) y) w)
        (rw d (f.rises y (ltb-true y t (and_right (eqb c (g (suc y))) (ltb y t) e)))))

  left_arm : (c y : ℕ) → on_path (point (pos c) y) w ≡ true → steps_between (point (pos c) y) (point (before c) y) w ≡ ltb (min (g y) (g (suc y))) c
  unfolding before
  left_arm zero y o =
      not_true_false (steps_between (point (pos 0) y) (point (negsuc 0) y) w) (λ e. none_before y (steps_on (point (pos 0) y) (point (negsuc 0) y) w e).1)
      ∙ sym (le-ltb (min (g y) (g (suc y))) 0 (omega arith))
  left_arm (suc c) y o =
      same_bool (steps_between (point (pos (suc c)) y) (point (pos c) y) w) (ltb (min (g y) (g (suc y))) (suc c))
      (λ e. lt-ltb (min (g y) (g (suc y))) (suc c) (omega (arith, (on_at c y (steps_on (point (pos (suc c)) y) (point (pos c) y) w e).1).0)))
      (λ e.
      let l = ltb-true (min (g y) (g (suc y))) (suc c) e in
      steps_back (point (pos c) y) (point (pos (suc c)) y) w (f.runs c y (omega arith) (omega (arith, (on_at (suc c) y o).1))))

  down_arm : (c y : ℕ) → on_path (point (pos c) (suc y)) w ≡ true → steps_between (point (pos c) (suc y)) (point (pos c) y) w ≡ (eqb c (g (suc y)) && true)
  unfolding steps_between
  down_arm c y o =
      same_bool (steps_between (point (pos c) (suc y)) (point (pos c) y) w) (eqb c (g (suc y)) && true)
      (λ e. and_both (eqb c (g (suc y))) true (eq-eqb c (g (suc y)) (one_arrival c y (steps_on (point (pos c) (suc y)) (point (pos c) y) w e).1 o)) refl)
      (λ e.
      let d = eqb-true c (g (suc y)) (and_left (eqb c (g (suc y))) true e) in
      or_right (leads (point (pos c) (suc y)) (point (pos c) y) w) (leads (point (pos c) y) (point (pos c) (suc y)) w)
      (rw d (f.rises y (on_at c (suc y) o).2)))

-- ALL PATHS: a point's arms are those of the one path that it is on
joined_at : (u v : Point) (ws : List (List Point)) (j : ℕ) → steps_between u v (path_at ws j) ≡ true → joined u v ws ≡ true
unfolding joined path_at steps_between leads
joined_at u v [] j e = impossible e
joined_at u v (w ∷ ws) zero e = or_left (steps_between u v w) (joined u v ws) e
joined_at u v (w ∷ ws) (suc j) e = or_right (steps_between u v w) (joined u v ws) (joined_at u v ws j e)

joined_is : (u v : Point) (ws : List (List Point)) → none_meet ws ≡ true → (j : ℕ) → on_path u (path_at ws j) ≡ true → joined u v ws ≡ steps_between u v (path_at ws j)
unfolding steps_between
joined_is u v ws n j o =
    same_bool (joined u v ws) (steps_between u v (path_at ws j))
    (λ e.
    let a = joined_arm u v ws e in
    rw (← same_path u ws n a.at j (arm_on u v ws a) o)
    (⊎_elim (or_left (leads u v (path_at ws a.at)) (leads v u (path_at ws a.at))) (or_right (leads u v (path_at ws a.at)) (leads v u (path_at ws a.at))) a.step))
    (joined_at u v ws j)

-- a point is on one of the paths, or on none
on_some_at : (z : Point) (ws : List (List Point)) (j : ℕ) → on_path z (path_at ws j) ≡ true → on_some z ws ≡ true
unfolding on_some path_at on_path
on_some_at z [] j o = impossible o
on_some_at z (w ∷ ws) zero o = or_left (on_path z w) (on_some z ws) o
on_some_at z (w ∷ ws) (suc j) o = or_right (on_path z w) (on_some z ws) (on_some_at z ws j o)

record OnOne (z : Point) (ws : List (List Point)) : Type 0 where
  at : ℕ
  within : at < length ws
  on : on_path z (path_at ws at) ≡ true

on_one : (z : Point) (ws : List (List Point)) → on_some z ws ≡ true → OnOne z ws
unfolding on_some path_at
on_one z [] e = impossible e
on_one z (w ∷ ws) e =
    ⊎_elim (λ o. record { at = 0; within = omega arith; on = o })
    (λ o. let r = on_one z ws o in record { at = suc r.at; within = omega (arith, r.within); on = r.on }) (or_either (on_path z w) (on_some z ws) e)

listed_length : (f : ℕ → List Point) (n : ℕ) → length (listed f n) ≡ n
unfolding listed
listed_length f zero = refl
listed_length f (suc n) = ap suc (listed_length (λ i. f (suc i)) n)

wiring_length : (c : List Pair) (t a b : ℕ) → length (wiring c t a b) ≡ length c
unfolding wiring
wiring_length c t a b = listed_length (λ j. drawn_path c t a b j) (length c)

module _ (ws : List (List Point)) (n : none_meet ws ≡ true) (t : ℕ) (g : ℕ → ℕ) (j : ℕ) (f : Arriving t g (path_at ws j)) where
  down_at : (c y : ℕ) → on_path (point (pos c) y) (path_at ws j) ≡ true → arm_down c y ws ≡ (eqb c (g y) && ltb 0 y)
  unfolding arm_down
  down_at c zero o = sym (not_true_false (eqb c (g 0) && false) (λ e. impossible (and_right (eqb c (g 0)) false e)))
  down_at c (suc y) o = rw (lt-ltb 0 (suc y) (omega arith)) (joined_is (point (pos c) (suc y)) (point (pos c) y) ws n j o ∙ down_arm t g (path_at ws j) f c y o)

  shown : (c y : ℕ) → on_path (point (pos c) y) (path_at ws j) ≡ true
      → arms_character (ltb (min (g y) (g (suc y))) c) (ltb c (max (g y) (g (suc y)))) (eqb c (g (suc y)) && ltb y t) (eqb c (g y) && ltb 0 y) ≡ character c y ws
  unfolding character arm_left arm_right arm_up
  shown c y o =
      rw (
        on_some_at (point (pos c) y) ws j o,
        joined_is (point (pos c) y) (point (before c) y) ws n j o,
        left_arm t g (path_at ws j) f c y o,
        joined_is (point (pos c) y) (point (pos (suc c)) y) ws n j o,
        right_arm t g (path_at ws j) f c y o,
        joined_is (point (pos c) y) (point (pos c) (suc y)) ws n j o,
        up_arm t g (path_at ws j) f c y o,
        down_at c y o,
      )

-- THE PAGE PAINTED
module _ (c : List Pair) (t a b m : ℕ) (from upto : List ℕ) (ends : EndsAre c a b m from upto) (r : rising c ≡ true) (f : edge_clear c t a b ≡ true) (x y : ℕ) (l : y ≤ t) where
  ws : List (List Point)
  ws = wiring c t a b

  z : Point
  z = point (pos x) y

  arriving : (j : ℕ) → j < m → Arriving t (λ v. arrival from upto m j v) (path_at ws j)
  unfolding ws
  arriving j h = rw (wiring_at c t a b j (omega (arith, ends.count))) (path_arriving c t a b m from upto ends r f j (omega (arith, ends.count)))

  -- one path more is drawn where it is, and leaves the rest as it was
  drawn_is : (j : ℕ) → j < m → (old : ℕ) → drawn (arrival from upto m j y) (arrival from upto m j (suc y)) (ltb y t) (ltb 0 y) x old ≡ cond (on_path z (path_at ws j)) (character x y ws) old
  unfolding drawn z ws
  drawn_is j h old = rw (covers t g (path_at ws j) (arriving j h) x y l) (go (on_path (point (pos x) y) (path_at ws j)) refl)
    where
      g : ℕ → ℕ
      g = λ v. arrival from upto m j v

      go : (v : Bool) → on_path (point (pos x) y) (path_at ws j) ≡ v
          → cond v (arms_character (ltb (min (g y) (g (suc y))) x) (ltb x (max (g y) (g (suc y)))) (eqb x (g (suc y)) && ltb y t) (eqb x (g y) && ltb 0 y)) old ≡ cond v (character x y ws) old
      go true e = shown ws (wiring_clear c t a b r f) t g j (arriving j h) x y e
      go false e = refl

  -- the column once the first n paths are drawn
  begun : ℕ → ℕ
  begun n = painted (λ j. arrival from upto m j y) (λ j. arrival from upto m j (suc y)) (ltb y t) (ltb 0 y) n x 46

  one_more : (n : ℕ) → n < m → begun (suc n) ≡ cond (on_path z (path_at ws n)) (character x y ws) (begun n)
  unfolding begun painted
  one_more n h = drawn_is n h (painted (λ j. arrival from upto m j y) (λ j. arrival from upto m j (suc y)) (ltb y t) (ltb 0 y) n x 46)

  painted_none : (n : ℕ) → n ≤ m → on_some z ws ≡ false → begun n ≡ 46
  unfolding begun painted
  painted_none zero h e = refl
  painted_none (suc n) h e =
      one_more n h ∙ rw (not_true_false (on_path z (path_at ws n)) (λ o. impossible (sym e ∙ on_some_at z ws n o))) (painted_none n (omega arith) e)

  painted_one : (j : ℕ) → on_path z (path_at ws j) ≡ true → (n : ℕ) → n ≤ m → j < n → begun n ≡ character x y ws
  painted_one j o zero h k = absurd (omega arith)
  painted_one j o (suc n) h k = one_more n h ∙ go (on_path z (path_at ws n)) refl (λ d. painted_one j o n (omega arith) d)
    where
      go : (v : Bool) → on_path z (path_at ws n) ≡ v → (j < n → begun n ≡ character x y ws) → cond v (character x y ws) (begun n) ≡ character x y ws
      go true e next = refl
      go false e next = next (⊎_elim (λ d. absurd (impossible (sym e ∙ rw d at o))) (λ d. omega arith) (eq_or_not j n))

  pub painted_right : track_painted from upto m t y x ≡ character x y (wiring c t a b)
  unfolding ws z character begun track_painted
  painted_right = go (on_some z ws) refl
    where
      go : (v : Bool) → on_some z ws ≡ v → begun m ≡ character x y ws
      go true e = let u = on_one z ws e in painted_one u.at u.on m (omega arith) (omega (arith, u.within, ends.count, wiring_length c t a b))
      go false e = painted_none m (omega arith) e ∙ rw e
