-- Pairs are wirable exactly if the offset is between their limits; limits widen as the separation grows; from m tracks on, and in a channel
-- without pairs, every offset is between them. By induction on the terms. Assumes nothing.
use mathlib.Core.Path.{◌≡◌, refl}
use mathlib.Core.Bool.{true}
use mathlib.Core.List.{List}
use Prim.Native.Nat.{ℕ, zero, suc, ◌+◌, ◌*◌, ◌-◌, ◌≤◌, ◌<◌, min, max}
use native.Mathlib.Decide.{ℕ_discrete, le_ind}
use native.Mathlib.Omega.{arith}
use lib.ListN.{length}
use Rattle.stack.specs.Stack.{Pair, q_at, wirable}
use Rattle.stack.specs.Limits.{rising}
use Rattle.stack.proofs.Rising.{Before, rising_before}
use Rattle.stack.proofs.Feasible.{ByPairs, by_pairs_wirable, wirable_by_pairs}
use Rattle.limits.specs.Limits.{low_term, high_term, greatest, least, low_limit, high_limit, Between}

-- a bound on the greatest is a bound on each
pub greatest_at_most : (b : ℕ) (c : List Pair) (t n m : ℕ) → ((i : ℕ) → i < n → low_term b c t i ≤ m) → greatest b c t n ≤ m
unfolding greatest
greatest_at_most b c t zero m h = omega arith
greatest_at_most b c t (suc n) m h = omega (arith, h n (omega arith), greatest_at_most b c t n m (λ i l. h i (omega arith)))

greatest_bounds : (b : ℕ) (c : List Pair) (t n i : ℕ) → i < n → low_term b c t i ≤ greatest b c t n
unfolding greatest
greatest_bounds b c t zero i h = absurd (omega arith)
greatest_bounds b c t (suc n) i h = go (ℕ_discrete i n) (greatest_bounds b c t n i)
  where
    go : Dec (i ≡ n) → (i < n → low_term b c t i ≤ greatest b c t n) → low_term b c t i ≤ max (greatest b c t n) (low_term b c t n)
    go (yes e) f = rw e (omega arith)
    go (no d) f = omega (arith, f (omega arith))

least_at_least : (b : ℕ) (c : List Pair) (t n m : ℕ) → m ≤ 2 * b → ((i : ℕ) → i < n → m ≤ high_term b c t i) → m ≤ least b c t n
unfolding least
least_at_least b c t zero m k h = k
least_at_least b c t (suc n) m k h = omega (arith, h n (omega arith), least_at_least b c t n m k (λ i l. h i (omega arith)))

least_bounds : (b : ℕ) (c : List Pair) (t n i : ℕ) → i < n → least b c t n ≤ high_term b c t i
unfolding least
least_bounds b c t zero i h = absurd (omega arith)
least_bounds b c t (suc n) i h = go (ℕ_discrete i n) (least_bounds b c t n i)
  where
    go : Dec (i ≡ n) → (i < n → least b c t n ≤ high_term b c t i) → min (least b c t n) (high_term b c t n) ≤ high_term b c t i
    go (yes e) f = rw e (omega arith)
    go (no d) f = omega (arith, f (omega arith))

least_at_most : (b : ℕ) (c : List Pair) (t n : ℕ) → least b c t n ≤ 2 * b
unfolding least
least_at_most b c t zero = omega arith
least_at_most b c t (suc n) = omega (arith, least_at_most b c t n)

-- the bias outweighs positions, and terminals with the count of pairs
pub record Biased (b : ℕ) (c : List Pair) (x y : ℕ) : Type 0 where
  pub lower : x ≤ b
  pub upper : y ≤ b
  pub terminal : (j : ℕ) → j < length c → q_at c j + length c ≤ b

module _ (b : ℕ) (c : List Pair) (t x y : ℕ) (bias : Biased b c x y) where
  pub wirable_between : wirable c t x y ≡ true → Between b c t x y
  unfolding low_limit high_limit low_term high_term
  wirable_between e = record {
    left =
        let g : greatest b c t (length c - t) ≤ y + b - x =
        greatest_at_most b c t (length c - t) (y + b - x) (λ i h. omega (arith, f.left i (i + t) refl (omega arith), bias.terminal (i + t) (omega arith), bias.lower)) in
        omega (arith, bias.lower);
    right =
        let g : y + b - x ≤ least b c t (length c - t) =
        least_at_least b c t (length c - t) (y + b - x) (omega (arith, bias.upper)) (λ i h. omega (arith, f.right i (i + t) refl (omega arith), bias.terminal i (omega arith), bias.lower)) in
        omega (arith, bias.lower);
  }
    where
      f : ByPairs c t x y
      f = wirable_by_pairs c t x y e

  pub between_wirable : Between b c t x y → wirable c t x y ≡ true
  unfolding low_limit high_limit low_term high_term
  between_wirable w =
      by_pairs_wirable c t x y
      (record {
        left = λ j i e h.
            let k : i ≡ j + t = omega arith in
            rw k (omega (arith, greatest_bounds b c t (length c - t) j (omega arith), w.left));
        right = λ j i e h.
            let k : i ≡ j + t = omega arith in
            rw k (omega (arith, least_bounds b c t (length c - t) j (omega arith), w.right, bias.terminal j (omega arith)));
      })

-- limits widen: each term is outdone by a term of the smaller separation at the same j
module _ (b : ℕ) (c : List Pair) (rise : rising c ≡ true) where
  low_falls : (t : ℕ) → low_limit b c (suc t) ≤ low_limit b c t
  unfolding low_limit low_term
  low_falls t =
      greatest_at_most b c (suc t) (length c - suc t) (greatest b c t (length c - t))
      (λ i h.
      let k : i + suc t ≡ suc i + t = omega arith in
      let up : Before c i (suc i) 1 = rising_before c rise i 1 (suc i) (omega arith) (omega arith) in
      let g = greatest_bounds b c t (length c - t) (suc i) (omega arith) in
      rw k (omega arith))

  high_rises : (t : ℕ) → high_limit b c t ≤ high_limit b c (suc t)
  unfolding high_limit high_term
  high_rises t =
      least_at_least b c (suc t) (length c - suc t) (least b c t (length c - t)) (least_at_most b c t (length c - t))
      (λ i h.
      let k : i + suc t ≡ suc (i + t) = omega arith in
      let up : Before c (i + t) (suc (i + t)) 1 = rising_before c rise (i + t) 1 (suc (i + t)) (omega arith) (omega arith) in
      let g = least_bounds b c t (length c - t) i (omega arith) in
      rw k (omega arith))

  pub low_widens : (t n : ℕ) → t ≤ n → low_limit b c n ≤ low_limit b c t
  low_widens t n h = le_ind (λ m. low_limit b c m ≤ low_limit b c t) (omega arith) (λ m l k. omega (arith, low_falls m)) n h

  pub high_widens : (t n : ℕ) → t ≤ n → high_limit b c t ≤ high_limit b c n
  high_widens t n h = le_ind (λ m. high_limit b c t ≤ high_limit b c m) (omega arith) (λ m l k. omega (arith, high_rises m)) n h

-- from m tracks on
pub low_open : (b : ℕ) (c : List Pair) (t : ℕ) → length c ≤ t → low_limit b c t ≡ 0
unfolding low_limit greatest
low_open b c t h = let e : length c - t ≡ 0 = omega arith in rw e

pub high_open : (b : ℕ) (c : List Pair) (t : ℕ) → length c ≤ t → high_limit b c t ≡ 2 * b
unfolding high_limit least
high_open b c t h = let e : length c - t ≡ 0 = omega arith in rw e

pub open_between : (b : ℕ) (c : List Pair) (t x y : ℕ) → length c ≤ t → x ≤ b → y ≤ b → Between b c t x y
open_between b c t x y h k l = record { left = omega (arith, low_open b c t h); right = omega (arith, high_open b c t h) }

pub high_bounded : (b : ℕ) (c : List Pair) (t : ℕ) → high_limit b c t ≤ 2 * b
unfolding high_limit
high_bounded b c t = least_at_most b c t (length c - t)
