-- The arrivals that the code computes are those of the wiring's paths: the track that document 02's P1 counts is at least n exactly if the n-th terminal further, or back,
-- passes the test, since the tests fall; the paths drawn come to the track above at the same columns. Assumes nothing.
use mathlib.Core.Path.{◌≡◌, refl}
use mathlib.Core.Bool.{Bool, true, false, cond}
use mathlib.Core.List.{List}
use mathlib.Core.Logic.{◌⊎◌, inl, inr}
use Prim.Native.Nat.{ℕ, suc, ◌+◌, ◌-◌, ◌≤◌, ◌<◌, min, max}
use native.Mathlib.Omega.{arith}
use borrow.Author.Tests.{leb-true, leb-false, le-leb, lt-leb, ltb-true, ltb-false}
use lib.Dec.{ltb, leb}
use lib.ListN.{length, get_or}
use Rattle.numbers.proofs.Orders.{le_or_lt}
use Rattle.stack.specs.Stack.{Pair, p_at, q_at, edge_clear}
use Rattle.stack.specs.Limits.{rising}
use Rattle.stack.proofs.Rising.{rising_before}
use Rattle.routing.specs.Wiring.{right_test, left_test, right_track, left_track, drawn_path}
use Rattle.routing.proofs.Counts.{Greatest}
use Rattle.routing.proofs.Tracks.{right_greatest, left_greatest}
use Rattle.routing.proofs.Sufficiency.{Goes, rightward, leftward, goes, right_course, left_course}
use Rattle.page.specs.Arrivals.{EndsAre, right_arrival, left_arrival, arrival}
use Rattle.page.proofs.Arriving.{Reaches, reaches_raised, Arriving, right_arriving, left_arriving}

-- an arrival is counted from a terminal, or is the last column
data ArrivalRight (from : List ℕ) (m q j y v : ℕ) : Type 0 where
  counted : j + y < m → v ≡ min q (get_or from (j + y) 0 - y) → ArrivalRight from m q j y v
  last : m ≤ j + y → v ≡ q → ArrivalRight from m q j y v

arrival_right : (from : List ℕ) (m q j y : ℕ) → ArrivalRight from m q j y (right_arrival from m q j y)
unfolding right_arrival
arrival_right from m q j y = go (ltb (j + y) m) refl
  where
    go : (v : Bool) → ltb (j + y) m ≡ v → ArrivalRight from m q j y (cond v (min q (get_or from (j + y) 0 - y)) q)
    go true e = counted (ltb-true (j + y) m e) refl
    go false e = last (ltb-false (j + y) m e) refl

data ArrivalLeft (from : List ℕ) (q j y v : ℕ) : Type 0 where
  counted_back : y ≤ j → v ≡ max q (get_or from (j - y) 0 + y) → ArrivalLeft from q j y v
  last_back : j < y → v ≡ q → ArrivalLeft from q j y v

arrival_left : (from : List ℕ) (q j y : ℕ) → ArrivalLeft from q j y (left_arrival from q j y)
unfolding left_arrival
arrival_left from q j y = go (leb y j) refl
  where
    go : (v : Bool) → leb y j ≡ v → ArrivalLeft from q j y (cond v (max q (get_or from (j - y) 0 + y)) q)
    go true e = counted_back (leb-true y j e) refl
    go false e = last_back (leb-false y j e) refl

module _ (c : List Pair) (a b m : ℕ) (from upto : List ℕ) (ends : EndsAre c a b m from upto) (r : rising c ≡ true) (j : ℕ) (l : j < length c) where
  p : ℕ
  p = a + p_at c j

  q : ℕ
  q = b + q_at c j

  from_at : (i : ℕ) → i < m → get_or from i 0 ≡ a + p_at c i
  from_at i h = ends.from_are i h

  module _ (g : p ≤ q) where
    right_between : (y : ℕ) → (p ≤ right_arrival from m q j y) × (right_arrival from m q j y ≤ q)
    unfolding p q
    right_between y = go (arrival_right from m q j y)
      where
        go : ArrivalRight from m q j y (right_arrival from m q j y) → (p ≤ right_arrival from m q j y) × (right_arrival from m q j y ≤ q)
        go (counted h e) =
            let o = rising_before c r j y (j + y) refl (omega (arith, ends.count)) in
            (omega (arith, from_at (j + y) h, o.lower), omega arith)
        go (last h e) = (omega arith, omega arith)

    right_reaches : Reaches (λ k. right_track c a j (p + k)) (λ y. right_arrival from m q j y - p) (q - p)
    unfolding p q right_test
    right_reaches = record {
      within = λ y. omega (arith, (right_between y).1);
      earlier = λ k y h. early k y h (le_or_lt y (right_track c a j (p + k))) (right_greatest c a r j (p + k) l (omega arith));
      later = λ k y h n. late k y h n (arrival_right from m q j y) (right_greatest c a r j (p + k) l (omega arith));
    }
      where
        early : (k y : ℕ) → k < right_arrival from m q j y - p → (y ≤ right_track c a j (p + k)) ⊎ (right_track c a j (p + k) < y)
            → Greatest (λ n. right_test c a j (p + k) n) (length c - suc j) (right_track c a j (p + k)) → right_track c a j (p + k) < y
        early k y h (inr n) s = n
        early k y h (inl n) s = absurd (go (arrival_right from m q j y))
          where
            go : ArrivalRight from m q j y (right_arrival from m q j y) → ⊥
            go (counted d e) =
                let n' = right_track c a j (p + k) in
                let w = s.within in
                let o = rising_before c r (j + y) (n' - y) (j + n') (omega arith) (omega arith) in
                omega (arith, o.lower, from_at (j + y) d, leb-true (a + p_at c (j + n')) (p + k + n') s.passes)
            go (last d e) = omega (arith, s.within, ends.count)

        late : (k y : ℕ) → k < q - p → right_arrival from m q j y - p ≤ k → ArrivalRight from m q j y (right_arrival from m q j y)
            → Greatest (λ n. right_test c a j (p + k) n) (length c - suc j) (right_track c a j (p + k)) → y ≤ right_track c a j (p + k)
        late k y h n (counted d e) s =
            s.most y (omega (arith, ends.count)) (le-leb (a + p_at c (j + y)) (p + k + y) (omega (arith, from_at (j + y) d, (right_between y).0)))
        late k y h n (last d e) s = absurd (omega (arith, (right_between y).0))

  module _ (g : q < p) where
    left_between : (y : ℕ) → (q ≤ left_arrival from q j y) × (left_arrival from q j y ≤ p)
    unfolding p q
    left_between y = go (arrival_left from q j y)
      where
        go : ArrivalLeft from q j y (left_arrival from q j y) → (q ≤ left_arrival from q j y) × (left_arrival from q j y ≤ p)
        go (counted_back h e) =
            let o = rising_before c r (j - y) y j (omega arith) l in
            (omega arith, omega (arith, from_at (j - y) (omega (arith, ends.count)), o.lower))
        go (last_back h e) = (omega arith, omega arith)

    left_reaches : Reaches (λ k. left_track c a j (p - k)) (λ y. p - left_arrival from q j y) (p - q)
    unfolding p q left_test
    left_reaches = record {
      within = λ y. omega (arith, (left_between y).0);
      earlier = λ k y h. early k y h (le_or_lt y (left_track c a j (p - k))) (left_greatest c a r j (p - k) l (omega arith));
      later = λ k y h n. late k y h n (arrival_left from q j y) (left_greatest c a r j (p - k) l (omega arith));
    }
      where
        early : (k y : ℕ) → k < p - left_arrival from q j y → (y ≤ left_track c a j (p - k)) ⊎ (left_track c a j (p - k) < y)
            → Greatest (λ n. left_test c a j (p - k) n) j (left_track c a j (p - k)) → left_track c a j (p - k) < y
        early k y h (inr n) s = n
        early k y h (inl n) s = absurd (go (arrival_left from q j y))
          where
            go : ArrivalLeft from q j y (left_arrival from q j y) → ⊥
            go (counted_back d e) =
                let n' = left_track c a j (p - k) in
                let w = s.within in
                let o = rising_before c r (j - n') (n' - y) (j - y) (omega arith) (omega arith) in
                let v : p - k ≤ a + p_at c (j - n') + n' = leb-true (p - k) (a + p_at c (j - n') + n') s.passes in
                let u : a + p_at c (j - n') + n' ≤ a + p_at c (j - y) + y = omega (arith, o.lower) in
                omega (arith, from_at (j - y) (omega (arith, ends.count)))
            go (last_back d e) = omega (arith, s.within)

        late : (k y : ℕ) → k < p - q → p - left_arrival from q j y ≤ k → ArrivalLeft from q j y (left_arrival from q j y)
            → Greatest (λ n. left_test c a j (p - k) n) j (left_track c a j (p - k)) → y ≤ left_track c a j (p - k)
        late k y h n (counted_back d e) s =
            s.most y d (le-leb (p - k) (a + p_at c (j - y) + y) (omega (arith, from_at (j - y) (omega (arith, ends.count)))))
        late k y h n (last_back d e) s = absurd (omega arith)

-- each path has the arrivals that the code computes
pub path_arriving : (c : List Pair) (t a b m : ℕ) (from upto : List ℕ) → EndsAre c a b m from upto → rising c ≡ true → edge_clear c t a b ≡ true → (j : ℕ) → j < length c
    → Arriving t (λ y. arrival from upto m j y) (drawn_path c t a b j)
unfolding arrival p q
path_arriving c t a b m from upto ends r f j l = go (goes c t a b r f j l)
  where
    begins : get_or from j 0 ≡ a + p_at c j
    begins = ends.from_are j (omega (arith, ends.count))

    stops : get_or upto j 0 ≡ b + q_at c j
    stops = ends.upto_are j (omega (arith, ends.count))

    go : Goes c t a b j → Arriving t (λ y. arrival from upto m j y) (drawn_path c t a b j)
    go (rightward u e) =
        let same : ◌≡◌ {A = ℕ → ℕ} (λ y. a + p_at c j + (right_arrival from m (b + q_at c j) j (y - 1) - (a + p_at c j))) (λ y. arrival from upto m j y) =
        λ i y. arrivals_are y i
        in
        rw (e, ← same)
        (right_arriving (a + p_at c j) (λ k. suc (right_track c a j (a + p_at c j + k))) (λ y. right_arrival from m (b + q_at c j) j (y - 1) - (a + p_at c j)) t (b + q_at c j - (a + p_at c j))
        (right_course c t a b r f j (a + p_at c j) (b + q_at c j) l refl refl) (reaches_raised _ _ _ (right_reaches c a b m from upto ends r j l u)))
      where
        arrivals_are : (y : ℕ) → a + p_at c j + (right_arrival from m (b + q_at c j) j (y - 1) - (a + p_at c j)) ≡ arrival from upto m j y
        arrivals_are y = rw (begins, stops, le-leb (a + p_at c j) (b + q_at c j) u) (omega (arith, (right_between c a b m from upto ends r j l u (y - 1)).0))
    go (leftward u e) =
        let same : ◌≡◌ {A = ℕ → ℕ} (λ y. a + p_at c j - (a + p_at c j - left_arrival from (b + q_at c j) j (y - 1))) (λ y. arrival from upto m j y) =
        λ i y. arrivals_are y i
        in
        rw (e, ← same)
        (left_arriving (a + p_at c j) (λ k. suc (left_track c a j (a + p_at c j - k))) (λ y. a + p_at c j - left_arrival from (b + q_at c j) j (y - 1)) t (a + p_at c j - (b + q_at c j)) (omega arith)
        (left_course c t a b r f j (a + p_at c j) (b + q_at c j) l refl refl) (reaches_raised _ _ _ (left_reaches c a b m from upto ends r j l u)))
      where
        arrivals_are : (y : ℕ) → a + p_at c j - (a + p_at c j - left_arrival from (b + q_at c j) j (y - 1)) ≡ arrival from upto m j y
        arrivals_are y = rw (begins, stops, lt-leb (a + p_at c j) (b + q_at c j) u) (omega (arith, (left_between c a b m from upto ends r j l u (y - 1)).1))
