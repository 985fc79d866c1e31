-- The levels that what is given stands for: their limits are its entries, and a span is worked out from it as from the levels. Assumes nothing.
use mathlib.Core.Path.{◌≡◌, refl, sym, ap, ap₂, ◌∙◌}
use mathlib.Core.Bool.{Bool, true, false}
use mathlib.Core.List.{List, [], ◌∷◌}
use Prim.Native.Nat.{ℕ, zero, suc, ◌+◌, ◌-◌, ◌*◌, ◌≤◌, ◌<◌, min, max}
use native.Mathlib.Omega.{arith}
use native.Mathlib.Nat.{add-zero}
use lib.Dec.{leb}
use lib.ListN.{length, get_or}
use Rattle.stack.specs.Sizes.{last_held}
use Rattle.spans.specs.Spans.{span, Limit, limit, last, low_at, high_at, cut, shift_on, nonempty, join_if, gather}
use Rattle.spans.specs.declared.Span.{Span}
use Rattle.spans.specs.Solver.{Level, first, first_open, least_open, most, start, stop, cell, back, serves, first_serving, least_serving, forward}
use Rattle.spans.proofs.Limits.{low_capped, high_capped}
use Rattle.spans.proofs.First.{first_hit, first_miss}
use Rattle.arrays.specs.Arrays.{bias, entry, low_of, high_of, last_of, window_of, limits_from, level_of, levels, sums, PlanIs, StackAsks}
use Rattle.arrays.specs.declared.Given.{Given}

module _ (low high : ℕ → ℕ) where
  limits_length : (q n : ℕ) → length (limits_from low high q n) ≡ n
  unfolding limits_from
  limits_length q zero = refl
  limits_length q (suc n) = ap suc (limits_length (suc q) n)

  limits_at : (q n j : ℕ) (d : Limit) → j < n → get_or (limits_from low high q n) j d ≡ limit (low (q + j)) (high (q + j))
  unfolding limits_from
  limits_at q zero j d h = absurd (omega arith)
  limits_at q (suc n) zero d h = rw add-zero
  limits_at q (suc n) (suc j) d h = let e : suc q + j ≡ q + suc j = omega arith in rw (← e) (limits_at (suc q) n j d (omega arith))

  pub last_is : (m : ℕ) → last (limits_from low high 0 (suc m)) ≡ m
  unfolding last
  last_is m = omega (arith, limits_length 0 (suc m))

  entry_of : (m q : ℕ) → q ≤ m → get_or (limits_from low high 0 (suc m)) (min q (last (limits_from low high 0 (suc m)))) (limit 0 0) ≡ limit (low q) (high q)
  entry_of m q h =
      let e : min q (last (limits_from low high 0 (suc m))) ≡ q = omega (arith, last_is m) in
      let z : 0 + q ≡ q = omega arith in
      rw e (rw z at (limits_at 0 (suc m) q (limit 0 0) (omega arith)))

  pub low_at_of : (m q : ℕ) → q ≤ m → low_at (limits_from low high 0 (suc m)) q ≡ low q
  unfolding low_at
  low_at_of m q h = ap (λ (l : Limit). l.low) (entry_of m q h)

  pub high_at_of : (m q : ℕ) → q ≤ m → high_at (limits_from low high 0 (suc m)) q ≡ high q
  unfolding high_at
  high_at_of m q h = ap (λ (l : Limit). l.high) (entry_of m q h)

  -- past the last separation the last entry
  pub low_at_any : (m q : ℕ) → low_at (limits_from low high 0 (suc m)) q ≡ low (min q m)
  low_at_any m q = sym (low_capped (limits_from low high 0 (suc m)) q) ∙ rw (last_is m) (low_at_of m (min q m) (omega arith))

  pub high_at_any : (m q : ℕ) → high_at (limits_from low high 0 (suc m)) q ≡ high (min q m)
  high_at_any m q = sym (high_capped (limits_from low high 0 (suc m)) q) ∙ rw (last_is m) (high_at_of m (min q m) (omega arith))

-- a separation of use is in the list and leaves a total of use
pub in_use : (o m a v j : ℕ) → v ≤ m + a → start o m a v ≤ j → j < start o m a v + (stop m v - start o m a v) → (j ≤ m) × (j ≤ v) × (v - j ≤ a)
in_use o m a v j h k n = omega arith

-- what depends on a function only within a range is the same for two that agree there
pub first_same : (f g : ℕ → Bool) (q n : ℕ) → ((j : ℕ) → q ≤ j → j < q + n → f j ≡ g j) → first f q n ≡ first g q n
unfolding first
first_same f g q zero h = refl
first_same f g q (suc n) h =
    go (f q) refl (first_same f g (suc q) n (λ j k m. h j (omega arith) (omega arith)))
  where
    here : f q ≡ g q
    here = h q (omega arith) (omega arith)

    go : (v : Bool) → f q ≡ v → first f (suc q) n ≡ first g (suc q) n → first f q (suc n) ≡ first g q (suc n)
    go true e r = first_hit f q n e ∙ sym (first_hit g q n (sym here ∙ e))
    go false e r = first_miss f q n e ∙ (r ∙ sym (first_miss g q n (sym here ∙ e)))

module _ (b : ℕ) (low₁ low₂ high₁ high₂ : ℕ → ℕ) where
  gather_same : (f₁ f₂ : ℕ → Span) (q n : ℕ) (t : Span) → ((j : ℕ) → q ≤ j → j < q + n → (low₁ j ≡ low₂ j) × (high₁ j ≡ high₂ j) × (f₁ j ≡ f₂ j)) → gather b low₁ high₁ f₁ q n t ≡ gather b low₂ high₂ f₂ q n t
  unfolding gather
  gather_same f₁ f₂ q zero t h = refl
  gather_same f₁ f₂ q (suc n) t h =
      let e : _ = h q (omega arith) (omega arith) in
      rw (e.0, e.1, e.2) (gather_same f₁ f₂ (suc q) n _ (λ j k m. h j (omega arith) (omega arith)))

  -- a cell depends on the limits up to the last separation, and on the spans above for what these leave of its total
  pub cell_same : (f₁ f₂ : ℕ → Span) (o m a : ℕ) (w : Span) (v : ℕ) → v ≤ m + a → ((q : ℕ) → q ≤ m → (low₁ q ≡ low₂ q) × (high₁ q ≡ high₂ q)) → ((q : ℕ) → q ≤ m → q ≤ v → v - q ≤ a → f₁ (v - q) ≡ f₂ (v - q)) → cell b low₁ high₁ o m a f₁ w v ≡ cell b low₂ high₂ o m a f₂ w v
  unfolding cell
  cell_same f₁ f₂ o m a w v h l s =
      ap (cut w)
      (gather_same (λ q. f₁ (v - q)) (λ q. f₂ (v - q)) _ _ _
      (λ j k n. let r : (j ≤ m) × (j ≤ v) × (v - j ≤ a) = in_use o m a v j h k n in ((l j r.0).0, (l j r.0).1, s j r.0 r.1 r.2)))

pub open_of : (low high : ℕ → ℕ) (m : ℕ) → first_open (low_at (limits_from low high 0 (suc m))) (high_at (limits_from low high 0 (suc m))) m ≡ first_open low high m
unfolding first_open
open_of low high m =
    first_same _ _ 0 (suc m)
    (λ j h k. ap₂ (λ (x y : ℕ). leb x y) (low_at_of low high m j (omega arith)) (high_at_of low high m j (omega arith)))

-- the last separations' sums
pub most_sums : (g : Given) (i n : ℕ) → most (levels g i n) ≡ sums g.plan.lasts i n
unfolding most levels sums
most_sums g i zero = refl
most_sums g i (suc n) = ap₂ ◌+◌ (last_is (low_of g i) (high_of g i) (last_of g i)) (most_sums g (suc i) n)

-- one channel more can use its last separation more
pub most_step : (g : Given) (i n : ℕ) → most (levels g i (suc n)) ≡ last_of g i + most (levels g (suc i) n)
unfolding most levels
most_step g i n = ap (λ (m : ℕ). m + most (levels g (suc i) n)) (last_is (low_of g i) (high_of g i) (last_of g i))

pub most_fewer : (g : Given) (d i n : ℕ) → most (levels g (i + d) n) ≤ most (levels g i (d + n))
unfolding most levels
most_fewer g zero i n = let z : 0 + n ≡ n = omega arith in rw (add-zero, z) (omega arith)
most_fewer g (suc d) i n = let z : i + suc d ≡ suc i + d = omega arith in let y : suc d + n ≡ suc (d + n) = omega arith in rw (z, y) (omega (arith, most_fewer g d (suc i) n))

-- the last separations of a stack sum to what the tables hold
pub most_small : (g : Given) → StackAsks g → (i n : ℕ) → i + n ≡ g.channels → most (levels g i n) ≤ last_held * n
unfolding most levels
most_small g s i zero e = omega arith
most_small g s i (suc n) e =
    omega (arith, most_small g s (suc i) n (omega arith), last_is (low_of g i) (high_of g i) (last_of g i), s.listed i (omega arith))

-- what a plan says of the levels
module _ (g : Given) (p : PlanIs g.limits g.channels g.plan) where
  pub least_at : (i : ℕ) → i < g.channels → entry g.plan.leasts i ≡ first_open (low_of g i) (high_of g i) (last_of g i)
  least_at i h = p.leasts.leasts_are i h

  pub above_at : (i n : ℕ) → i + n ≡ g.channels → entry g.plan.above i ≡ most (levels g i n)
  above_at i n e = p.mosts.sums_are i n (omega arith) e ∙ sym (most_sums g i n)

-- THE CODE'S CELL IS THE SPAN: with the spans of the row above in f
abbrev m : (g : Given) (i : ℕ) → ℕ
m g i = last_of g i

abbrev above : (g : Given) (i n : ℕ) → ℕ
above g i n = most (levels g (suc i) n)

module _ (g : Given) (i n v : ℕ) (f : ℕ → Span) where
  pub cell_back : v ≤ m g i + above g i n → ((q : ℕ) → q ≤ m g i → q ≤ v → v - q ≤ above g i n → f (v - q) ≡ back bias (window_of g (suc i)) (levels g (suc i) n) (v - q)) → cell bias (low_of g i) (high_of g i) (first_open (low_of g i) (high_of g i) (m g i)) (m g i) (above g i n) f (window_of g i) v ≡ back bias (window_of g i) (levels g i (suc n)) v
  unfolding back levels
  cell_back h s =
      rw (last_is (low_of g i) (high_of g i) (m g i), open_of (low_of g i) (high_of g i) (m g i))
      (cell_same bias _ _ _ _ f _ _ (m g i) (above g i n) (window_of g i) v h (λ q k. (sym (low_at_of (low_of g i) (high_of g i) (m g i) q k), sym (high_at_of (low_of g i) (high_of g i) (m g i) q k))) s)

-- the least separation that serves, and the forward span, from the arrays and from the levels
module _ (g : Given) (i n : ℕ) (f : ℕ → Span) (s : Span) (v : ℕ) where
  abbrev c : List Limit
  c = limits_from (low_of g i) (high_of g i) 0 (suc (last_of g i))

  -- what a separation leaves of the total, or all that the levels above can use
  abbrev left : (q : ℕ) → ℕ
  left q = min (v - q) (above g i n)

  serves_back : ((q : ℕ) → q ≤ m g i → q ≤ v → f (left q) ≡ back bias (window_of g (suc i)) (levels g (suc i) n) (left q)) → (q : ℕ) → q < stop (m g i) v → serves bias (low_at c) (high_at c) (above g i n) (λ u. back bias (window_of g (suc i)) (levels g (suc i) n) u) s v q ≡ serves bias (low_of g i) (high_of g i) (above g i n) f s v q
  unfolding serves
  serves_back h q k =
      rw (low_at_of (low_of g i) (high_of g i) (m g i) q (omega arith), high_at_of (low_of g i) (high_of g i) (m g i) q (omega arith), h q (omega arith) (omega arith))

  pub serving_back : ((q : ℕ) → q ≤ m g i → q ≤ v → f (left q) ≡ back bias (window_of g (suc i)) (levels g (suc i) n) (left q)) → first_serving bias (low_of g i) (high_of g i) (first_open (low_of g i) (high_of g i) (m g i)) (m g i) (above g i n) f s v ≡ least_serving bias s (level_of g i) (levels g (suc i) n) v
  unfolding first_serving
  serving_back h =
      rw (last_is (low_of g i) (high_of g i) (m g i), open_of (low_of g i) (high_of g i) (m g i))
      (first_same _ _ _ _ (λ q k l. sym (serves_back h q (omega arith))))

  pub forward_back : (q : ℕ) → cut (window_of g (suc i)) (shift_on bias (low_of g i (min q (m g i))) (high_of g i (min q (m g i))) s) ≡ forward bias s (level_of g i) q
  unfolding forward
  forward_back q = rw (low_at_any (low_of g i) (high_of g i) (m g i) q, high_at_any (low_of g i) (high_of g i) (m g i) q)

gather_below : (b : ℕ) (low high : ℕ → ℕ) (f : ℕ → Span) (q n : ℕ) (t : Span) → (gather b low high f q n t).from ≤ t.from
unfolding gather
gather_below b low high f q zero t = omega arith
gather_below b low high f q (suc n) t =
    omega (arith, gather_below b low high f (suc q) n (join_if (nonempty (f q)) b (low q) (high q) (f q) t), joined (nonempty (f q)))
  where
    joined : (v : Bool) → (join_if v b (low q) (high q) (f q) t).from ≤ t.from
    joined true = omega arith
    joined false = omega arith

-- spans stay within their windows, so their ends do not outgrow them
pub back_ends : (b : ℕ) (w : Span) (cs : List Level) (v : ℕ) → ((back b w cs v).from ≤ max w.from w.upto) × ((back b w cs v).upto ≤ w.upto)
unfolding back cell
back_ends b w [] v = omega arith
back_ends b w (c ∷ cs) v =
    omega (arith, gather_below b (low_at c.limits) (high_at c.limits) (λ q. back b c.window cs (v - q)) (start (least_open c.limits) (last c.limits) (most cs) v) (stop (last c.limits) v - start (least_open c.limits) (last c.limits) (most cs) v) (span w.upto 0))
