-- The paths drawn are as P1 and P4 tell, and no other path is. Assumes nothing.
use mathlib.Core.Path.{◌≡◌, refl, sym, ap, ◌∙◌}
use mathlib.Core.Bool.{true}
use mathlib.Core.List.{List, [], ◌∷◌}
use mathlib.Core.Logic.{◌⊎◌, inl, inr, ⊎_elim}
use Prim.Native.Nat.{ℕ, zero, suc, ◌+◌, ◌-◌, ◌≤◌, ◌<◌}
use native.Mathlib.Omega.{arith}
use lib.IntN.{pos}
use lib.ListN.{length}
use Rattle.numbers.proofs.Bools.{ands, impossible}
use Rattle.stack.specs.Stack.{Pair, p_at, q_at, edge_clear}
use Rattle.stack.specs.Limits.{rising}
use Rattle.routing.specs.Paths.{Point, point, is_path}
use Rattle.routing.specs.Wiring.{riser, rest, staircase, drawn_path, wiring, leads, right_track, left_track}
use Rattle.routing.proofs.Points.{same_point_equal, all_paths_elim}
use Rattle.routing.proofs.Staircase.{Course}
use Rattle.routing.proofs.Sufficiency.{Goes, rightward, leftward, goes, right_course, left_course, wiring_led}
use Rattle.routing.proofs.Runs.{wiring_at}
use Rattle.page.specs.Promise.{once, Upright, RunsTold, to_right, to_left, PathTold, Told}
use Rattle.page.proofs.Leads.{column_is, here_or_later, begins_is, no_lead}
use Rattle.page.proofs.Plain.{path_once}
use Rattle.page.proofs.Alone.{Step, stands, run, Steps, rest_alone}

-- THE STEPS OF A STAIRCASE are upright or its runs
module _ (x h : ℕ → ℕ) (t w : ℕ) (c : Course x h t w) where
  riser_steps : (u v : Point) (z y n e : ℕ) (ws : List Point) → y + n ≡ e → leads u v (point (pos z) y ∷ riser z y n ws) ≡ true
      → (u.column ≡ v.column) ⊎ (leads u v (point (pos z) e ∷ ws) ≡ true)
  unfolding riser
  riser_steps u v z y zero e ws d l = let q : y ≡ e = omega arith in inr (rw q at l)
  riser_steps u v z y (suc n) e ws d l =
      ⊎_elim
      (λ k. inl (ap (λ (p : Point). p.column) k.0 ∙ column_is (pos z) y ∙ sym (column_is (pos z) (suc y)) ∙ sym (ap (λ (p : Point). p.column) (begins_is v (point (pos z) (suc y)) (riser z (suc y) n ws) k.1))))
      (λ k. riser_steps u v z (suc y) n e ws (omega arith) k)
      (here_or_later u v (point (pos z) y) (riser z y (suc n) ws) l)

  rest_steps : (n k y : ℕ) → k + n ≡ w → y ≤ t → y ≤ h k → Steps x h w (point (pos (x k)) y ∷ rest x h t n k y)
  unfolding rest
  rest_steps zero k y e l m u v g = ⊎_elim stands (λ d. absurd (no_lead u v (point (pos (x k)) t) d)) (riser_steps u v (x k) y (t - y) t [] (omega arith) g)
  rest_steps (suc n) k y e l m u v g =
      ⊎_elim stands
      (λ d. ⊎_elim (λ q. run k (omega arith) q.0 (begins_is v (point (pos (x (suc k))) (h k)) (rest x h t n (suc k) (h k)) q.1))
      (λ q. rest_steps n (suc k) (h k) (omega arith) (omega (arith, c.below k (omega arith))) (c.rises k) u v q)
      (here_or_later u v (point (pos (x k)) (h k)) (point (pos (x (suc k))) (h k) ∷ rest x h t n (suc k) (h k)) d))
      (riser_steps u v (x k) y (h k - y) (h k) (point (pos (x (suc k))) (h k) ∷ rest x h t n (suc k) (h k)) (omega arith) g)

  staircase_steps : Steps x h w (staircase x h t w)
  unfolding staircase
  staircase_steps = rest_steps w 0 0 (omega arith) (omega arith) (omega arith)

  -- and a path with such steps is the staircase
  staircase_alone : ((i k : ℕ) → i ≤ w → k ≤ w → x i ≡ x k → i ≡ k) → (v : List Point) → is_path t (point (pos (x 0)) 0) (point (pos (x w)) t) v ≡ true → once v ≡ true → Steps x h w v
      → v ≡ staircase x h t w
  unfolding staircase is_path
  staircase_alone inj [] e o s = impossible e
  staircase_alone inj (b ∷ bs) e o s =
      let first : b ≡ point (pos (x 0)) 0 = sym (same_point_equal (point (pos (x 0)) 0) b (search ands)) in
      let r : bs ≡ rest x h t w 0 0 = rest_alone x h t w c inj bs w 0 0 b (omega arith) first (omega arith) (λ z. omega arith) (search ands) o s in
      rw (r, first) refl

-- RIGHT AND LEFT
module _ (c : List Pair) (t a b j : ℕ) (r : rising c ≡ true) (f : edge_clear c t a b ≡ true) (l : j < length c) where
  told_right : a + p_at c j ≤ b + q_at c j → (u v : Point) → Step (λ k. a + p_at c j + k) (λ k. suc (right_track c a j (a + p_at c j + k))) (b + q_at c j - (a + p_at c j)) u v
      → Upright u v ⊎ RunsTold c a b j u v
  unfolding Upright
  told_right g u v (stands e) = inl e
  told_right g u v (run k i e d) =
      let p = a + p_at c j in
      let n : p + suc k ≡ suc (p + k) = omega arith in
      inr (to_right (p + k) (omega arith) (omega arith) e (rw n at d))

  right_told : a + p_at c j ≤ b + q_at c j → (u v : Point) → Upright u v ⊎ RunsTold c a b j u v → Step (λ k. a + p_at c j + k) (λ k. suc (right_track c a j (a + p_at c j + k))) (b + q_at c j - (a + p_at c j)) u v
  unfolding Upright
  right_told g u v (inl e) = stands e
  right_told g u v (inr (to_right x m n e d)) =
      let p = a + p_at c j in
      let s : p + (x - p) ≡ x = omega arith in
      let z : p + suc (x - p) ≡ suc x = omega arith in
      run (x - p) (omega arith) (rw s e) (rw (s, z) d)
  right_told g u v (inr (to_left x m n e d)) = absurd (omega arith)

  told_left : b + q_at c j < a + p_at c j → (u v : Point) → Step (λ k. a + p_at c j - k) (λ k. suc (left_track c a j (a + p_at c j - k))) (a + p_at c j - (b + q_at c j)) u v
      → Upright u v ⊎ RunsTold c a b j u v
  unfolding Upright
  told_left g u v (stands e) = inl e
  told_left g u v (run k i e d) =
      let p = a + p_at c j in
      let n : p - k ≡ suc (p - suc k) = omega arith in
      inr (to_left (p - suc k) (omega arith) (omega arith) (rw n at e) (rw n at d))

  left_told : b + q_at c j < a + p_at c j → (u v : Point) → Upright u v ⊎ RunsTold c a b j u v → Step (λ k. a + p_at c j - k) (λ k. suc (left_track c a j (a + p_at c j - k))) (a + p_at c j - (b + q_at c j)) u v
  unfolding Upright
  left_told g u v (inl e) = stands e
  left_told g u v (inr (to_right x m n e d)) = absurd (omega arith)
  left_told g u v (inr (to_left x m n e d)) =
      let p = a + p_at c j in
      let s : p - (p - suc x) ≡ suc x = omega arith in
      let z : p - suc (p - suc x) ≡ x = omega arith in
      run (p - suc x) (omega arith) (rw s e) (rw (s, z) d)

  path_told : PathTold c t a b j (drawn_path c t a b j)
  path_told = record {
    path = rw (wiring_at c t a b j l) at (all_paths_elim t a b c (wiring c t a b) (wiring_led c t a b r f) j l);
    once = path_once c t a b j r f l;
    runs = go (goes c t a b r f j l);
  }
    where
      go : Goes c t a b j → (u v : Point) → leads u v (drawn_path c t a b j) ≡ true → Upright u v ⊎ RunsTold c a b j u v
      go (rightward g e) u v k =
          let p = a + p_at c j in
          let q = b + q_at c j in
          told_right g u v
          (staircase_steps (λ k. p + k) (λ k. suc (right_track c a j (p + k))) t (q - p) (right_course c t a b r f j p q l refl refl) u v (rw e at k))
      go (leftward g e) u v k =
          let p = a + p_at c j in
          let q = b + q_at c j in
          told_left g u v
          (staircase_steps (λ k. p - k) (λ k. suc (left_track c a j (p - k))) t (p - q) (left_course c t a b r f j p q l refl refl) u v (rw e at k))

  told_alone : (w : List Point) → PathTold c t a b j w → w ≡ drawn_path c t a b j
  told_alone w h = go (goes c t a b r f j l)
    where
      go : Goes c t a b j → w ≡ drawn_path c t a b j
      go (rightward g e) =
          let p = a + p_at c j in
          let q = b + q_at c j in
          let s : p + 0 ≡ p = omega arith in
          let z : p + (q - p) ≡ q = omega arith in
          rw e (staircase_alone (λ k. p + k) (λ k. suc (right_track c a j (p + k))) t (q - p) (right_course c t a b r f j p q l refl refl)
          (λ i k m n d. omega arith) w (rw (s, z) h.path) h.once (λ u v k. right_told g u v (h.runs u v k)))
      go (leftward g e) =
          let p = a + p_at c j in
          let q = b + q_at c j in
          let s : p - 0 ≡ p = omega arith in
          let z : p - (p - q) ≡ q = omega arith in
          rw e (staircase_alone (λ k. p - k) (λ k. suc (left_track c a j (p - k))) t (p - q) (left_course c t a b r f j p q l refl refl)
          (λ i k m n d. omega arith) w (rw (s, z) h.path) h.once (λ u v k. left_told g u v (h.runs u v k)))

-- AS TOLD, AND NO OTHER
pub told : Told
unfolding Told
told c t a b j r f l = (path_told c t a b j r f l, λ w h. told_alone c t a b j r f l w h)
