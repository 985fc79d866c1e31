-- No other path is as told: a path that is nowhere twice, and whose steps are upright or the runs of a staircase, is the staircase. Off the way it is stuck:
-- it could only come back through a point where it has been. Assumes nothing.
use mathlib.Core.Path.{◌≡◌, refl, sym, ap, ◌∙◌}
use mathlib.Core.Bool.{true, ◌&&◌, ◌||◌}
use mathlib.Core.List.{List, [], ◌∷◌}
use mathlib.Core.Logic.{◌⊎◌, inl, inr, ⊎_elim}
use Prim.Native.Nat.{ℕ, zero, suc, ◌+◌, ◌-◌, ◌≤◌, ◌<◌}
use native.Mathlib.Omega.{arith}
use native.Mathlib.Decide.{ℕ_discrete}
use borrow.Author.Tests.{leb-true, eqb-true}
use lib.Dec.{ltb, leb, eqb}
use lib.IntN.{ℤ, pos, negsuc}
use Rattle.numbers.proofs.Bools.{ands, and_right, or_either, impossible}
use Rattle.routing.specs.Paths.{Point, point, next, same_column, is_step, chain, on_path}
use Rattle.routing.specs.Wiring.{riser, rest, leads}
use Rattle.routing.proofs.Points.{same_point_equal, pos_injective}
use Rattle.routing.proofs.Staircase.{Course}
use Rattle.page.specs.Promise.{once}
use Rattle.page.proofs.Leads.{column_is, track_is, not_on, once_rest, on_here, on_later, leads_first, leads_later}

-- AN UPRIGHT STEP goes one track up or down
next_differs : (x : ℤ) → same_column (next x) x ≡ true → ⊥
unfolding next same_column
next_differs (pos n) e = let d = eqb-true (suc n) n e in omega arith
next_differs (negsuc zero) e = impossible e
next_differs (negsuc (suc n)) e = let d = eqb-true n (suc n) e in omega arith

upright : (t : ℕ) (a b : Point) → is_step t a b ≡ true → a.column ≡ b.column → (suc a.track ≡ b.track) ⊎ (suc b.track ≡ a.track)
unfolding is_step
upright t a b e c = ⊎_elim up along (or_either _ _ (and_right (leb a.track t && leb b.track t) _ e))
  where
    up : (same_column a.column b.column && (eqb (suc a.track) b.track || eqb (suc b.track) a.track)) ≡ true → (suc a.track ≡ b.track) ⊎ (suc b.track ≡ a.track)
    up h =
        ⊎_elim (λ u. inl (eqb-true (suc a.track) b.track u)) (λ d. inr (eqb-true (suc b.track) a.track d))
        (or_either (eqb (suc a.track) b.track) (eqb (suc b.track) a.track) (and_right (same_column a.column b.column) _ h))

    along : ((eqb a.track b.track && (ltb 0 a.track && ltb a.track t)) && (same_column (next a.column) b.column || same_column (next b.column) a.column)) ≡ true → (suc a.track ≡ b.track) ⊎ (suc b.track ≡ a.track)
    along h =
        ⊎_elim (λ u. absurd (next_differs b.column (rw c at u))) (λ u. absurd (next_differs a.column (rw (sym c) at u)))
        (or_either (same_column (next a.column) b.column) (same_column (next b.column) a.column) (and_right (eqb a.track b.track && (ltb 0 a.track && ltb a.track t)) _ h))

step_within : (t : ℕ) (a b : Point) → is_step t a b ≡ true → b.track ≤ t
unfolding is_step
step_within t a b e = let l : leb b.track t ≡ true = search ands in leb-true b.track t l

points_same : (a b : Point) → a.column ≡ b.column → a.track ≡ b.track → a ≡ b
points_same a b x y = λ i. record { column = x i; track = y i }

-- THE STEPS ALLOWED
pub data Step (x h : ℕ → ℕ) (w : ℕ) (u v : Point) : Type 0 where
  stands : u.column ≡ v.column → Step x h w u v
  run : (k : ℕ) → k < w → u ≡ point (pos (x k)) (h k) → v ≡ point (pos (x (suc k))) (h k) → Step x h w u v

abbrev pub Steps : (x h : ℕ → ℕ) → (w : ℕ) → List Point → Type 0
Steps x h w ws = (u v : Point) → leads u v ws ≡ true → Step x h w u v

module _ (x h : ℕ → ℕ) (t w : ℕ) (inj : (i k : ℕ) → i ≤ w → k ≤ w → x i ≡ x k → i ≡ k) where
  goal : Point
  goal = point (pos (x w)) t

  steps_later : (a : Point) (ws : List Point) → Steps x h w (a ∷ ws) → Steps x h w ws
  steps_later a ws s u v e = s u v (leads_later u v a ws e)

  same_k : (k m : ℕ) (a : Point) (y : ℕ) → k ≤ w → m ≤ w → a.column ≡ pos (x k) → a ≡ point (pos (x m)) y → (k ≡ m) × (a.track ≡ y)
  same_k k m a y l n c e = (
    inj k m l n (pos_injective a.column (x k) (x m) c (ap (λ (p : Point). p.column) e ∙ column_is (pos (x m)) y)),
    ap (λ (p : Point). p.track) e ∙ track_is (pos (x m)) y,
  )

  -- below a point where it has been, with nothing to do there
  stuck_below : (k y : ℕ) (a : Point) (ws : List Point) → k ≤ w → (k < w → y ≤ h k) → y ≤ t → a.column ≡ pos (x k) → a.track < y
      → chain t goal a ws ≡ true → Steps x h w (a ∷ ws) → (on_path (point (pos (x k)) y) (a ∷ ws) ≡ true → ⊥) → ⊥
  unfolding chain goal
  stuck_below k y a [] l b m c lo e s n =
      let q = same_k k w a t l (omega arith) c (same_point_equal a (point (pos (x w)) t) (search ands)) in
      omega (arith, q.1)
  stuck_below k y a (d ∷ ds) l b m c lo e s n =
      go (s a d (leads_first a d ds)) (λ cc lt. stuck_below k y d ds l b m cc lt (search ands) (steps_later a (d ∷ ds) s) (λ o. n (on_later (point (pos (x k)) y) a (d ∷ ds) o)))
    where
      go : Step x h w a d → (d.column ≡ pos (x k) → d.track < y → ⊥) → ⊥
      go (run j i u v) ih = let q = same_k k j a (h j) l (omega arith) c u in let r = b (omega (arith, q.0)) in let g = ap h q.0 in omega (arith, q.1)
      go (stands u) ih = ⊎_elim rises (λ f. ih (sym u ∙ c) (omega arith)) (upright t a d (search ands) u)
        where
          rises : suc a.track ≡ d.track → ⊥
          rises f = top (ℕ_discrete d.track y)
            where
              top : Dec (d.track ≡ y) → ⊥
              top (yes z) = n (on_later (point (pos (x k)) y) a (d ∷ ds) (on_here (point (pos (x k)) y) d ds (points_same (point (pos (x k)) y) d (column_is (pos (x k)) y ∙ sym c ∙ u) (track_is (pos (x k)) y ∙ sym z))))
              top (no z) = ih (sym u ∙ c) (omega arith)

  -- above the track of the run that it should have taken
  stuck_above : (k : ℕ) (a : Point) (ws : List Point) → k < w → a.column ≡ pos (x k) → h k < a.track
      → chain t goal a ws ≡ true → Steps x h w (a ∷ ws) → (on_path (point (pos (x k)) (h k)) (a ∷ ws) ≡ true → ⊥) → ⊥
  unfolding chain goal
  stuck_above k a [] l c hi e s n =
      let q = same_k k w a t (omega arith) (omega arith) c (same_point_equal a (point (pos (x w)) t) (search ands)) in
      omega (arith, q.0)
  stuck_above k a (d ∷ ds) l c hi e s n =
      go (s a d (leads_first a d ds)) (λ cc lt. stuck_above k d ds l cc lt (search ands) (steps_later a (d ∷ ds) s) (λ o. n (on_later (point (pos (x k)) (h k)) a (d ∷ ds) o)))
    where
      go : Step x h w a d → (d.column ≡ pos (x k) → h k < d.track → ⊥) → ⊥
      go (run j i u v) ih = let q = same_k k j a (h j) (omega arith) (omega arith) c u in let g = ap h q.0 in omega (arith, q.1)
      go (stands u) ih = ⊎_elim (λ f. ih (sym u ∙ c) (omega arith)) falls (upright t a d (search ands) u)
        where
          falls : suc d.track ≡ a.track → ⊥
          falls f = top (ℕ_discrete d.track (h k))
            where
              top : Dec (d.track ≡ h k) → ⊥
              top (yes z) = n (on_later (point (pos (x k)) (h k)) a (d ∷ ds) (on_here (point (pos (x k)) (h k)) d ds (points_same (point (pos (x k)) (h k)) d (column_is (pos (x k)) (h k) ∙ sym c ∙ u) (track_is (pos (x k)) (h k) ∙ sym z))))
              top (no z) = ih (sym u ∙ c) (omega arith)

up_one : (z : Point) (x y : ℕ) (a : Point) → a ≡ point (pos x) y → a.column ≡ z.column → suc a.track ≡ z.track → z ≡ point (pos x) (suc y)
up_one z x y a e c f =
    points_same z (point (pos x) (suc y)) (sym c ∙ ap (λ (p : Point). p.column) e ∙ column_is (pos x) y ∙ sym (column_is (pos x) (suc y)))
    (sym f ∙ ap suc (ap (λ (p : Point). p.track) e ∙ track_is (pos x) y) ∙ sym (track_is (pos x) (suc y)))

module _ (x h : ℕ → ℕ) (t w : ℕ) (c : Course x h t w) (inj : (i k : ℕ) → i ≤ w → k ≤ w → x i ≡ x k → i ≡ k) where
  -- THE REST OF THE PATH from column k and track y
  pub rest_alone : (ws : List Point) (n k y : ℕ) (a : Point) → k + n ≡ w → a ≡ point (pos (x k)) y → y ≤ t → (0 < n → y ≤ h k)
      → chain t (point (pos (x w)) t) a ws ≡ true → once (a ∷ ws) ≡ true → Steps x h w (a ∷ ws) → ws ≡ rest x h t n k y
  unfolding chain rest riser goal
  rest_alone [] zero k y a e p l m g o s =
      let q = same_k x h t w inj k w a t (omega arith) (omega arith) (ap (λ (p : Point). p.column) p ∙ column_is (pos (x k)) y) (same_point_equal a (point (pos (x w)) t) (search ands)) in
      let r = ap (λ (p : Point). p.track) p ∙ track_is (pos (x k)) y in
      let d : t - y ≡ 0 = omega (arith, q.1) in
      rw d refl
  rest_alone [] (suc n) k y a e p l m g o s =
      let q = same_k x h t w inj k w a t (omega arith) (omega arith) (ap (λ (p : Point). p.column) p ∙ column_is (pos (x k)) y) (same_point_equal a (point (pos (x w)) t) (search ands)) in
      absurd (omega (arith, q.0))
  rest_alone (b ∷ bs) zero k y a e p l m g o s =
      go (s a b (leads_first a b bs)) (λ f u. rest_alone bs zero k (suc y) b e f u (λ z. absurd (omega arith)) (search ands) (once_rest a (b ∷ bs) o) (steps_later x h t w inj a (b ∷ bs) s))
    where
      column : a.column ≡ pos (x k)
      column = ap (λ (p : Point). p.column) p ∙ column_is (pos (x k)) y

      track : a.track ≡ y
      track = ap (λ (p : Point). p.track) p ∙ track_is (pos (x k)) y

      go : Step x h w a b → (b ≡ point (pos (x k)) (suc y) → suc y ≤ t → bs ≡ riser (x k) (suc y) (t - suc y) []) → b ∷ bs ≡ riser (x k) y (t - y) []
      go (run j i u v) ih = let q = same_k x h t w inj k j a (h j) (omega arith) (omega arith) column u in absurd (omega (arith, q.0))
      go (stands u) ih = ⊎_elim rises falls (upright t a b (search ands) u)
        where
          rises : suc a.track ≡ b.track → b ∷ bs ≡ riser (x k) y (t - y) []
          rises f =
              let z = up_one b (x k) y a p u f in
              let lt = step_within t a b (search ands) in
              let r : suc y ≤ t = omega (arith, track) in
              let d : t - y ≡ suc (t - suc y) = omega arith in
              rw (d, z) (ap (λ (v : List Point). point (pos (x k)) (suc y) ∷ v) (ih z r))

          falls : suc b.track ≡ a.track → b ∷ bs ≡ riser (x k) y (t - y) []
          falls f =
              absurd (stuck_below x h t w inj k y b bs (omega arith) (λ z. absurd (omega arith)) l (sym u ∙ column) (omega (arith, track)) (search ands) (steps_later x h t w inj a (b ∷ bs) s)
              (λ z. not_on a (b ∷ bs) o (rw p z)))
  rest_alone (b ∷ bs) (suc n) k y a e p l m g o s =
      go (s a b (leads_first a b bs))
      (λ f u. rest_alone bs (suc n) k (suc y) b e f (omega (arith, c.below k (omega arith))) (λ z. u) (search ands) (once_rest a (b ∷ bs) o) (steps_later x h t w inj a (b ∷ bs) s))
      (λ f. rest_alone bs n (suc k) (h k) b (omega arith) f (omega (arith, c.below k (omega arith))) (λ z. c.rises k) (search ands) (once_rest a (b ∷ bs) o) (steps_later x h t w inj a (b ∷ bs) s))
    where
      column : a.column ≡ pos (x k)
      column = ap (λ (p : Point). p.column) p ∙ column_is (pos (x k)) y

      track : a.track ≡ y
      track = ap (λ (p : Point). p.track) p ∙ track_is (pos (x k)) y

      behind : List Point
      behind = point (pos (x (suc k))) (h k) ∷ rest x h t n (suc k) (h k)

      go : Step x h w a b → (b ≡ point (pos (x k)) (suc y) → suc y ≤ h k → bs ≡ riser (x k) (suc y) (h k - suc y) behind)
          → (b ≡ point (pos (x (suc k))) (h k) → bs ≡ rest x h t n (suc k) (h k)) → b ∷ bs ≡ riser (x k) y (h k - y) behind
      go (run j i u v) ih next =
          let q = same_k x h t w inj k j a (h j) (omega arith) (omega arith) column u in
          let z : b ≡ point (pos (x (suc k))) (h k) = rw q.0 v in
          let hk = ap h q.0 in
          let d : h k - y ≡ 0 = omega (arith, track, q.1) in
          rw (d, z) (ap (λ (v : List Point). point (pos (x (suc k))) (h k) ∷ v) (next z))
      go (stands u) ih next = ⊎_elim rises falls (upright t a b (search ands) u)
        where
          rises : suc a.track ≡ b.track → b ∷ bs ≡ riser (x k) y (h k - y) behind
          rises f = top (ℕ_discrete y (h k))
            where
              top : Dec (y ≡ h k) → b ∷ bs ≡ riser (x k) y (h k - y) behind
              top (yes z) =
                  absurd (stuck_above x h t w inj k b bs (omega arith) (sym u ∙ column) (omega (arith, track)) (search ands) (steps_later x h t w inj a (b ∷ bs) s)
                  (λ r. not_on a (b ∷ bs) o (rw (p ∙ ap (λ (v : ℕ). point (pos (x k)) v) z) r)))
              top (no z) =
                  let i = m (omega arith) in
                  let v = up_one b (x k) y a p u f in
                  let d : h k - y ≡ suc (h k - suc y) = omega arith in
                  rw (d, v) (ap (λ (v : List Point). point (pos (x k)) (suc y) ∷ v) (ih v (omega arith)))

          falls : suc b.track ≡ a.track → b ∷ bs ≡ riser (x k) y (h k - y) behind
          falls f =
              absurd (stuck_below x h t w inj k y b bs (omega arith) (λ z. m (omega arith)) l (sym u ∙ column) (omega (arith, track)) (search ands) (steps_later x h t w inj a (b ∷ bs) s)
              (λ z. not_on a (b ∷ bs) o (rw p z)))
