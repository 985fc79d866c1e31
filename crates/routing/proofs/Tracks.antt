-- The tracks of the runs in a rising channel: each is the greatest n that passes the test that it counts, since the lower terminals rise by at least one
-- column from pair to pair. What follows for the paths is read off that: one lemma on greatest numbers for right and left each time. Assumes nothing.
use mathlib.Core.Path.{◌≡◌, refl}
use mathlib.Core.Bool.{true}
use mathlib.Core.List.{List}
use Prim.Native.Nat.{ℕ, suc, ◌+◌, ◌-◌, ◌≤◌, ◌<◌}
use lib.ListN.{length}
use native.Mathlib.Omega.{arith}
use borrow.Author.Tests.{leb-true, le-leb}
use Rattle.stack.specs.Stack.{Pair, p_at, q_at}
use Rattle.stack.specs.Limits.{rising}
use Rattle.routing.specs.Wiring.{right_test, left_test, right_track, left_track}
use Rattle.stack.proofs.Rising.{rising_before}
use Rattle.stack.proofs.Feasible.{ByPairs}
use Rattle.routing.proofs.Counts.{Greatest, Falls, count_greatest, greatest_beyond, greatest_rises, greatest_below}

module _ (c : List Pair) (a : ℕ) (r : rising c ≡ true) where
  -- the count is the greatest n that passes
  right_falls : (j x : ℕ) → j < length c → Falls (λ n. right_test c a j x n) (length c - suc j)
  unfolding Falls right_test
  right_falls j x l i h e =
      let o = rising_before c r (j + i) 1 (j + suc i) (omega arith) (omega arith) in
      omega (arith, le-leb, leb-true)

  left_falls : (j x : ℕ) → j < length c → Falls (λ n. left_test c a j x n) j
  unfolding Falls left_test
  left_falls j x l i h e =
      let o = rising_before c r (j - suc i) 1 (j - i) (omega arith) (omega arith) in
      omega (arith, le-leb, leb-true)

  pub right_greatest : (j x : ℕ) → j < length c → a + p_at c j ≤ x → Greatest (λ n. right_test c a j x n) (length c - suc j) (right_track c a j x)
  unfolding right_test right_track
  right_greatest j x l h =
      let e : j + 0 ≡ j = omega arith in
      count_greatest (λ n. right_test c a j x n) (length c - suc j) (right_falls j x l) (rw e (omega (arith, le-leb)))

  pub left_greatest : (j x : ℕ) → j < length c → x ≤ a + p_at c j → Greatest (λ n. left_test c a j x n) j (left_track c a j x)
  unfolding left_test left_track
  left_greatest j x l h =
      let e : j - 0 ≡ j = omega arith in
      count_greatest (λ n. left_test c a j x n) j (left_falls j x l) (rw e (omega (arith, le-leb)))

  -- it never falls along the path
  pub right_rises : (j x : ℕ) → j < length c → a + p_at c j ≤ x → right_track c a j x ≤ right_track c a j (suc x)
  unfolding right_test
  right_rises j x l h =
      greatest_rises (λ n. right_test c a j x n) (λ n. right_test c a j (suc x) n) (length c - suc j) (right_track c a j x) (right_track c a j (suc x))
      (right_greatest j x l h) (right_greatest j (suc x) l (omega arith)) (λ i g e. omega (arith, le-leb, leb-true))

  pub left_rises : (j x z : ℕ) → j < length c → x ≤ a + p_at c j → z ≤ x → left_track c a j x ≤ left_track c a j z
  unfolding left_test
  left_rises j x z l h u =
      greatest_rises (λ n. left_test c a j x n) (λ n. left_test c a j z n) j (left_track c a j x) (left_track c a j z)
      (left_greatest j x l h) (left_greatest j z l (omega arith)) (λ i g e. omega (arith, le-leb, leb-true))

  -- of two paths that go the same way, the one from behind comes to a column on a higher track than the other leaves it on
  pub right_beyond : (i j x z : ℕ) → i < j → j < length c → a + p_at c i ≤ x → a + p_at c j ≤ z → z ≤ suc x → right_track c a j z < right_track c a i x
  unfolding right_test
  right_beyond i j x z l h u v w =
      greatest_beyond (λ n. right_test c a j z n) (λ n. right_test c a i x n) (length c - suc j) (length c - suc i) (j - i) (right_track c a j z)
      (right_track c a i x) (right_greatest j z h v) (right_greatest i x (omega arith) u) (omega arith) (omega arith)
      (λ n g e.
      let d : i + (n + (j - i)) ≡ j + n = omega arith in
      rw d (omega (arith, le-leb, leb-true)))

  pub left_beyond : (i j x z : ℕ) → i < j → j < length c → x ≤ a + p_at c j → z ≤ a + p_at c i → x ≤ suc z → left_track c a i z < left_track c a j x
  unfolding left_test
  left_beyond i j x z l h u v w =
      greatest_beyond (λ n. left_test c a i z n) (λ n. left_test c a j x n) i j (j - i) (left_track c a i z)
      (left_track c a j x) (left_greatest i z (omega arith) v) (left_greatest j x h u) (omega arith) (omega arith)
      (λ n g e.
      let d : j - (n + (j - i)) ≡ i - n = omega arith in
      rw d (omega (arith, le-leb, leb-true)))

  -- where the pairs are wirable it is below track t
  module _ (t b : ℕ) (f : ByPairs c t a b) where
    pub right_below : (j x : ℕ) → j < length c → a + p_at c j ≤ x → x < b + q_at c j → right_track c a j x < t
    unfolding right_test
    right_below j x l h u =
        greatest_below (λ n. right_test c a j x n) (length c - suc j) (right_track c a j x) t (right_greatest j x l h)
        (λ n g k e.
        let o = rising_before c r (j + t) (n - t) (j + n) (omega arith) (omega arith) in
        let w = f.right j (j + t) refl (omega arith) in
        omega (arith, leb-true))

    pub left_below : (j x : ℕ) → j < length c → x ≤ a + p_at c j → b + q_at c j < x → left_track c a j x < t
    unfolding left_test
    left_below j x l h u =
        greatest_below (λ n. left_test c a j x n) j (left_track c a j x) t (left_greatest j x l h)
        (λ n g k e.
        let o = rising_before c r (j - n) (n - t) (j - t) (omega arith) (omega arith) in
        let w = f.left (j - t) j (omega arith) l in
        omega (arith, leb-true))
