-- What wirable says, pair by pair: for j from 0 to m - t - 1, the upper terminal of pair j + t is at least t columns right of the lower terminal of
-- pair j (L(t)), and the lower terminal of pair j + t at least t columns right of the upper terminal of pair j (R(t)). With the lower edge clear it says so of
-- t - 1. So a channel is feasible at every offset between two at which it is, and with more tracks. Assumes nothing.
use mathlib.Core.Path.{◌≡◌, refl, sym, ◌∙◌}
use mathlib.Core.Bool.{Bool, true, false, ◌&&◌, ◌||◌}
use mathlib.Core.List.{List, [], ◌∷◌}
use Prim.Native.Nat.{ℕ, zero, suc, ◌+◌, ◌-◌, ◌≤◌, ◌<◌, min, max}
use lib.Dec.{leb}
use lib.ListN.{length}
use native.Mathlib.Decide.{ℕ_discrete}
use native.Mathlib.Omega.{arith}
use borrow.Author.Tests.{leb-true, leb-false, le-leb, lt-leb}
use Rattle.numbers.proofs.Bools.{ands, and_left, and_right, and_both}
use Rattle.stack.specs.Limits.{rising}
use Rattle.stack.proofs.Rising.{rising_before}
use Rattle.stack.specs.Stack.{Pair, p_at, q_at, every, left_good, right_good, wirable, edge_clear, Channel, feasible}

pub record ByPairs (c : List Pair) (t a b : ℕ) : Type 0 where
  pub left : (j i : ℕ) → j + t ≡ i → i < length c → a + p_at c j + t ≤ b + q_at c i
  pub right : (j i : ℕ) → j + t ≡ i → i < length c → b + q_at c j + t ≤ a + p_at c i

every_intro : (n j : ℕ) (f : ℕ → Bool) → ((i : ℕ) → j ≤ i → i < j + n → f i ≡ true) → every n j f ≡ true
unfolding every
every_intro zero j f h = refl
every_intro (suc n) j f h = and_both (f j) (every n (suc j) f) (h j (omega arith) (omega arith)) (every_intro n (suc j) f (λ i l u. h i (omega arith) (omega arith)))

pub every_elim : (n j : ℕ) (f : ℕ → Bool) → every n j f ≡ true → (i : ℕ) → j ≤ i → i < j + n → f i ≡ true
unfolding every
every_elim zero j f e i l u = absurd (omega arith)
every_elim (suc n) j f e i l u = go (ℕ_discrete j i) (every_elim n (suc j) f (and_right (f j) (every n (suc j) f) e) i)
  where
    go : Dec (j ≡ i) → (suc j ≤ i → i < suc j + n → f i ≡ true) → f i ≡ true
    go (yes d) g = rw d at (and_left (f j) (every n (suc j) f) e)
    go (no d) g = g (omega arith) (omega arith)

pub by_pairs_wirable : (c : List Pair) (t a b : ℕ) → ByPairs c t a b → wirable c t a b ≡ true
unfolding wirable left_good right_good
by_pairs_wirable c t a b f = go (leb (length c) t) refl
  where
    lefts : t < length c → every (length c - t) t (λ j. left_good c t a b j) ≡ true
    lefts h =
        every_intro (length c - t) t (λ j. left_good c t a b j) λ j l u. omega (arith, le-leb, f.left (j - t) j (omega arith) (omega arith))

    rights : t < length c → every (length c - t) 0 (λ j. right_good c t a b j) ≡ true
    rights h =
        every_intro (length c - t) 0 (λ j. right_good c t a b j) λ j l u. omega (arith, le-leb, f.right j (j + t) (omega arith) (omega arith))

    go : (v : Bool) → leb (length c) t ≡ v
        → (v || (every (length c - t) t (λ j. left_good c t a b j) && every (length c - t) 0 (λ j. right_good c t a b j))) ≡ true
    go true e = refl
    go false e = search (ands, lefts, rights, leb-false)

pub wirable_by_pairs : (c : List Pair) (t a b : ℕ) → wirable c t a b ≡ true → ByPairs c t a b
unfolding wirable left_good right_good
wirable_by_pairs c t a b e = record { left = lefts; right = rights }
  where
    both : t < length c → (every (length c - t) t (λ j. left_good c t a b j) && every (length c - t) 0 (λ j. right_good c t a b j)) ≡ true
    both h = rw (lt-leb (length c) t h) at e

    lefts : (j i : ℕ) → j + t ≡ i → i < length c → a + p_at c j + t ≤ b + q_at c i
    lefts j i s h =
        let k : t < length c = omega arith in
        let g : left_good c t a b i ≡ true = every_elim (length c - t) t (λ j. left_good c t a b j) (search (ands, both)) i (omega arith) (omega arith) in
        let d : i - t ≡ j = omega arith in
        omega (arith, leb-true, rw d at g)

    rights : (j i : ℕ) → j + t ≡ i → i < length c → b + q_at c j + t ≤ a + p_at c i
    rights j i s h =
        let k : t < length c = omega arith in
        let g : right_good c t a b j ≡ true = every_elim (length c - t) 0 (λ j. right_good c t a b j) (search (ands, both)) j (omega arith) (omega arith) in
        omega (arith, leb-true, rw s at g)

-- with - cut off at 0 the lower edge is clear where the pairs are wirable at t - 1, for every t, with pairs and without
pub edge_clear_is : (c : List Pair) (t a b : ℕ) → edge_clear c t a b ≡ wirable c (t - 1) a b
unfolding edge_clear wirable
edge_clear_is [] t a b = rw (le-leb 0 t (omega arith), le-leb 0 (t - 1) (omega arith))
edge_clear_is (p ∷ ps) zero a b = refl
edge_clear_is (p ∷ ps) (suc t) a b = let e : suc t - 1 ≡ t = omega arith in rw e

pub by_pairs_clear : (c : List Pair) (t a b : ℕ) → ByPairs c (t - 1) a b → edge_clear c t a b ≡ true
by_pairs_clear c t a b f = edge_clear_is c t a b ∙ by_pairs_wirable c (t - 1) a b f

pub clear_by_pairs : (c : List Pair) (t a b : ℕ) → edge_clear c t a b ≡ true → ByPairs c (t - 1) a b
clear_by_pairs c t a b e = wirable_by_pairs c (t - 1) a b (sym (edge_clear_is c t a b) ∙ e)

-- feasible, by its two tests
module _ (c : Channel) (t a b : ℕ) where
  pub feasible_says : feasible c t a b ≡ true → (c.floor ≤ t) × (edge_clear c.pairs t a b ≡ true)
  unfolding feasible
  feasible_says e = (leb-true c.floor t (search ands), search ands)

  pub says_feasible : c.floor ≤ t → edge_clear c.pairs t a b ≡ true → feasible c t a b ≡ true
  unfolding feasible
  says_feasible h e = rw (le-leb c.floor t h) e

-- CONVEX and MONOTONE: a channel is feasible at every offset between two at which it is, and with more tracks
module _ (c : Channel) where
  -- the offset y - x is between b - a and e - d; a + d + x is added to each, so that none is negative
  pub feasible_convex : (t a b d e x y : ℕ) → feasible c t a b ≡ true → feasible c t d e ≡ true → min (b + d) (e + a) + x ≤ y + (a + d)
      → y + (a + d) ≤ max (b + d) (e + a) + x → feasible c t x y ≡ true
  feasible_convex t a b d e x y f g h k =
      let one = feasible_says c t a b f in
      let two = feasible_says c t d e g in
      let v = clear_by_pairs c.pairs t a b one.1 in
      let w = clear_by_pairs c.pairs t d e two.1 in
      says_feasible c t x y one.0
      (by_pairs_clear c.pairs t x y (record {
        left = λ j i m l. omega (arith, v.left j i m l, w.left j i m l);
        right = λ j i m l. omega (arith, v.right j i m l, w.right j i m l);
      }))

  pub feasible_monotone : rising c.pairs ≡ true → (t u a b : ℕ) → t ≤ u → feasible c t a b ≡ true → feasible c u a b ≡ true
  feasible_monotone rise t u a b h f =
      let both = feasible_says c t a b f in
      let v = clear_by_pairs c.pairs t a b both.1 in
      let far = λ (j i : ℕ) (l : i < length c.pairs) (k : j + (t - 1) + (u - 1 - (t - 1)) ≡ i). rising_before c.pairs rise (j + (t - 1)) (u - 1 - (t - 1)) i k l in
      says_feasible c u a b (omega (arith, both.0))
      (by_pairs_clear c.pairs u a b (record {
        left = λ j i m l. omega (arith, v.left j (j + (t - 1)) refl (omega arith), (far j i l (omega arith)).upper);
        right = λ j i m l. omega (arith, v.right j (j + (t - 1)) refl (omega arith), (far j i l (omega arith)).lower);
      }))
