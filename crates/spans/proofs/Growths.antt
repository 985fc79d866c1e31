-- In a spread wider by less than every lack each span that was empty is empty still, and the others' ends have moved on no further than their growing ends say:
-- no total falls. What an empty span lacks is never 0. Where every window's end grows, it is what the span is short. By induction on the levels. Assumes nothing.
use mathlib.Core.Path.{◌≡◌, refl, ap, ◌∙◌}
use mathlib.Core.Bool.{Bool, true, false}
use mathlib.Core.Logic.{◌⊎◌, inl, inr}
use mathlib.Core.List.{List, [], ◌∷◌}
use Prim.Native.Nat.{ℕ, zero, suc, ◌+◌, ◌*◌, ◌-◌, ◌≤◌, ◌<◌, min, max}
use native.Mathlib.Nat.{le_trans}
use native.Mathlib.Omega.{arith}
use lib.Dec.{ltb}
use borrow.Author.Tests.{ltb-true, ltb-false, lt-ltb, le-ltb}
use Rattle.numbers.proofs.Orders.{le_or_lt}
use Rattle.spans.specs.Spans.{last, low_at, high_at, nonempty}
use Rattle.spans.specs.declared.Span.{Span}
use Rattle.spans.specs.Solver.{Level, least_open, most, start, stop, cell, back, first, first_total, least_total}
use Rattle.spans.specs.Jump.{min_if, max_if, nearest, furthest, between, near_of, reach_of, cell_short, short_at}
use Rattle.spans.specs.Growth.{shifted, furthest_grow, lesser_grow, growing, lack_if, end_lack, grow_of, cell_grow, both_lack, cell_lack, back_grow, lack_at, Grows, WindowGrows, Wider, Lows, Near, GrowBelow, AllGrow, NoneLacks}
use Rattle.spans.proofs.First.{first_holds, first_least}
use Rattle.spans.proofs.Jump.{cell_ends}

-- a growing end shifted back is not less than it would be on whole numbers
shifted_least : (b l g : ℕ) → 0 < g → g + b ≤ shifted b l g + l
unfolding shifted
shifted_least b l zero h = absurd (omega arith)
shifted_least b l (suc g) h = omega arith

-- facts on bare numbers
max_bound : (d a c e x y z : ℕ) → c ≤ max a (e + d) → y ≤ max x (z + d) → max y c ≤ max (max x a) (max z e + d)
max_bound d a c e x y z h k = omega arith

max_more : (d a e x y z : ℕ) → y ≤ max x (z + d) → y ≤ max (max x a) (max z e + d)
max_more d a e x y z k = omega arith

-- SPANS ABOVE, f and in the wider spread t, with the growing ends h
module _ (b d : ℕ) (limit : ℕ → ℕ) (f t : ℕ → Span) (h : ℕ → ℕ) (small : d ≤ b) where
  -- starts come no nearer
  nearest_rises : (q n x y : ℕ) → ((j : ℕ) → q ≤ j → j < q + n → Grows b d (h j) (f j) (t j)) → x ≤ y → nearest b limit f q n x ≤ nearest b limit t q n y
  unfolding nearest
  nearest_rises q zero x y g l = l
  nearest_rises q (suc n) x y g l =
      nearest_rises (suc q) n _ _ (λ j i m. g j (omega arith) (omega arith)) (step (nonempty (f q)) (nonempty (t q)) refl refl (g q (omega arith) (omega arith)))
    where
      step : (u v : Bool) → nonempty (f q) ≡ u → nonempty (t q) ≡ v → Grows b d (h q) (f q) (t q) → min_if u ((f q).from + b - limit q) x ≤ min_if v ((t q).from + b - limit q) y
      step true true i k g = omega (arith, g.stays (ltb-true (t q).from (t q).upto k))
      step true false i k g = omega arith
      step false true i k g = absurd (omega (arith, g.stays (ltb-true (t q).from (t q).upto k), ltb-false (f q).from (f q).upto i))
      step false false i k g = l

  -- ends move on no further than the growing ends say
  end_bound : (q : ℕ) → limit q ≤ 2 * b → Grows b d (h q) (f q) (t q) → (t q).from < (t q).upto →
      (t q).upto + 2 * b - limit q ≤ max ((f q).upto + 2 * b - limit q) (shifted b (limit q) (h q) + d)
  end_bound q l g i = go (le_or_lt (t q).upto (f q).upto) (g.stays i).2
    where
      go : ((t q).upto ≤ (f q).upto) ⊎ ((f q).upto < (t q).upto) → (t q).upto + b ≤ max ((f q).upto + b) (h q + d) →
          (t q).upto + 2 * b - limit q ≤ max ((f q).upto + 2 * b - limit q) (shifted b (limit q) (h q) + d)
      go (inl k) m = omega arith
      go (inr k) m =
          let z : (t q).upto + b ≤ h q + d = omega arith in
          omega (arith, shifted_least b (limit q) (h q) (omega arith))

  furthest_bound : (q n x y z : ℕ) → ((j : ℕ) → limit j ≤ 2 * b) → ((j : ℕ) → q ≤ j → j < q + n → Grows b d (h j) (f j) (t j)) → y ≤ max x (z + d) →
      furthest b limit t q n y ≤ max (furthest b limit f q n x) (furthest_grow b limit f h q n z + d)
  unfolding furthest furthest_grow
  furthest_bound q zero x y z l g e = e
  furthest_bound q (suc n) x y z l g e =
      furthest_bound (suc q) n _ _ _ l (λ j i m. g j (omega arith) (omega arith)) (step (nonempty (f q)) (nonempty (t q)) refl refl (g q (omega arith) (omega arith)))
    where
      step : (u v : Bool) → nonempty (f q) ≡ u → nonempty (t q) ≡ v → Grows b d (h q) (f q) (t q) →
          max_if v ((t q).upto + 2 * b - limit q) y ≤ max (max_if u ((f q).upto + 2 * b - limit q) x) (max_if u (shifted b (limit q) (h q)) z + d)
      step true true i k g = max_bound d _ _ _ x y z (end_bound q (l q) g (ltb-true (t q).from (t q).upto k)) e
      step true false i k g = max_more d _ _ x y z e
      step false true i k g = absurd (omega (arith, g.stays (ltb-true (t q).from (t q).upto k), ltb-false (f q).from (f q).upto i))
      step false false i k g = e

-- the lesser of two ends grows as its growing end says
growing_bound : (d x y g h z : ℕ) → z ≤ max x (g + d) → z ≤ max y (h + d) → z ≤ max (min x y) (growing x y g h + d)
unfolding growing
growing_bound d x y g h z i j = go (ltb y x) refl
  where
    go : (v : Bool) → ltb y x ≡ v → z ≤ max (min x y) (lesser_grow v g h + d)
    go true k = omega (arith, ltb-true y x k)
    go false k = omega (arith, ltb-false y x k)

-- an end that lacks more than d does not reach
lack_bound : (d x e g z : ℕ) → d < end_lack x e g → z ≤ max e (g + d) → z < x
unfolding end_lack
lack_bound d x e g z h i = go (ltb x (suc e)) refl h
  where
    go : (u : Bool) → ltb x (suc e) ≡ u → d < lack_if u x g → z < x
    go true k m = absurd (omega arith)
    go false k m = omega (arith, ltb-false x (suc e) k)

lt_max : (d x y : ℕ) → d < max x y → (d < x) ⊎ (d < y)
lt_max d x y h = go (le_or_lt x d)
  where
    go : (x ≤ d) ⊎ (d < x) → (d < x) ⊎ (d < y)
    go (inl i) = inr (omega arith)
    go (inr i) = inl i

-- an end, raised: the lesser of the window's and the reach, if the span is there
end_window : (b zu s : ℕ) → min zu (s - b) + b ≤ zu + b
end_window b zu s = omega arith

end_reach : (b zu s x : ℕ) → x < min zu (s - b) → min zu (s - b) + b ≤ s
end_reach b zu s x h = omega arith

min_raised : (b wu r x : ℕ) → x < min wu (r - b) → min (wu + b) r ≡ min wu (r - b) + b
min_raised b wu r x h = omega arith

-- A CELL on bare numbers: between its ends n and r in the window (wf, wu), in the wider spread between m and s in (wf, zu)
module _ (b wf wu zu n m s : ℕ) (wide : wu ≤ zu) (starts : n ≤ m) where
  start_rises : max wf (min wu n) ≤ max wf (min zu m)
  start_rises = omega arith

  -- if one of the ends does not come beyond the start it is empty
  empty_window : zu + b < max wf n + 1 + b → min zu (s - b) ≤ max wf (min zu m)
  empty_window h = omega arith

  empty_reach : s < max wf n + 1 + b → min zu (s - b) ≤ max wf (min zu m)
  empty_reach h = omega arith

  module _ (d r g h : ℕ) (grown : zu + b ≤ max (wu + b) (g + d)) (reaches : s ≤ max r (h + d)) where
    was_filled : (min wu (r - b) ≤ max wf (min wu n) → d < max (end_lack (max wf n + 1 + b) (wu + b) g) (end_lack (max wf n + 1 + b) r h)) →
        max wf (min zu m) < min zu (s - b) → max wf (min wu n) < min wu (r - b)
    was_filled lack i = go (le_or_lt (min wu (r - b)) (max wf (min wu n)))
      where
        which : (d < end_lack (max wf n + 1 + b) (wu + b) g) ⊎ (d < end_lack (max wf n + 1 + b) r h) → ⊥
        which (inl k) = omega (arith, empty_window (lack_bound d (max wf n + 1 + b) (wu + b) g (zu + b) k grown))
        which (inr k) = omega (arith, empty_reach (lack_bound d (max wf n + 1 + b) r h s k reaches))

        go : (min wu (r - b) ≤ max wf (min wu n)) ⊎ (max wf (min wu n) < min wu (r - b)) → max wf (min wu n) < min wu (r - b)
        go (inl k) = absurd (which (lt_max d _ _ (lack k)))
        go (inr k) = k

    end_grown : max wf (min wu n) < min wu (r - b) → max wf (min zu m) < min zu (s - b) → min zu (s - b) + b ≤ max (min wu (r - b) + b) (growing (wu + b) r g h + d)
    end_grown i j =
        rw (← min_raised b wu r (max wf (min wu n)) i)
        (growing_bound d (wu + b) r g h (min zu (s - b) + b) (le_trans (end_window b zu s) grown) (le_trans (end_reach b zu s (max wf (min zu m)) j) reaches))

module _ (b d far : ℕ) (low high : ℕ → ℕ) (o m a : ℕ) (f t : ℕ → Span) (h : ℕ → ℕ) (small : d ≤ b) where
  cell_grows : (w z : Span) (g v : ℕ) → WindowGrows b d far g w z → ((j : ℕ) → low j ≤ 2 * b) →
      ((j : ℕ) → start o m a v ≤ j → j < start o m a v + (stop m v - start o m a v) → Grows b d (h (v - j)) (f (v - j)) (t (v - j))) →
      ((cell b low high o m a f w v).upto ≤ (cell b low high o m a f w v).from → d < cell_lack b far low high o m a f h w g v) →
      Grows b d (cell_grow b low o m a f h w g v) (cell b low high o m a f w v) (cell b low high o m a t z v)
  unfolding cell_grow cell_lack
  cell_grows w z g v p l k n =
      rw (cell_ends b far low high o m a f w v (omega arith), cell_ends b far low high o m a t z v p.near, p.start)
      (record { stays = λ i. let e = filled i in (e, start_rises b w.from w.upto z.upto _ _ (reach_of b low o m a t v) p.wider nears, grown e i) })
    where
      was_short : min w.upto (reach_of b low o m a f v - b) ≤ max w.from (min w.upto (near_of b far high o m a f v)) → d < cell_lack b far low high o m a f h w g v
      was_short = rw (cell_ends b far low high o m a f w v (omega arith)) at n

      nears : near_of b far high o m a f v ≤ near_of b far high o m a t v
      nears = nearest_rises b d high (λ q. f (v - q)) (λ q. t (v - q)) (λ q. h (v - q)) small (start o m a v) (stop m v - start o m a v) far far k (omega arith)

      reaches : reach_of b low o m a t v ≤ max (reach_of b low o m a f v) (grow_of b low o m a f h v + d)
      reaches = furthest_bound b d low (λ q. f (v - q)) (λ q. t (v - q)) (λ q. h (v - q)) small (start o m a v) (stop m v - start o m a v) 0 0 0 l k (omega arith)

      filled : max w.from (min z.upto (near_of b far high o m a t v)) < min z.upto (reach_of b low o m a t v - b) →
          max w.from (min w.upto (near_of b far high o m a f v)) < min w.upto (reach_of b low o m a f v - b)
      filled = was_filled b w.from w.upto z.upto _ _ (reach_of b low o m a t v) p.wider nears d (reach_of b low o m a f v) g (grow_of b low o m a f h v) p.within reaches was_short

      grown : max w.from (min w.upto (near_of b far high o m a f v)) < min w.upto (reach_of b low o m a f v - b) →
          max w.from (min z.upto (near_of b far high o m a t v)) < min z.upto (reach_of b low o m a t v - b) →
          min z.upto (reach_of b low o m a t v - b) + b
          ≤ max (min w.upto (reach_of b low o m a f v - b) + b) (growing (w.upto + b) (reach_of b low o m a f v) g (grow_of b low o m a f h v) + d)
      grown = end_grown b w.from w.upto z.upto _ _ (reach_of b low o m a t v) p.wider nears d (reach_of b low o m a f v) g (grow_of b low o m a f h v) p.within reaches

-- the limits are the same, and so are the totals of use
most_wider : (b d far : ℕ) (w z : Span) (g : ℕ) (cs es : List Level) (hs : List ℕ) → Wider b d far w z g cs es hs → most es ≡ most cs
unfolding Wider most
most_wider b d far w z g [] [] hs p = refl
most_wider b d far w z g [] (e ∷ es) hs p = absurd p
most_wider b d far w z g (c ∷ cs) [] hs p = absurd p
most_wider b d far w z g (c ∷ cs) (e ∷ es) [] p = absurd p
most_wider b d far w z g (c ∷ cs) (e ∷ es) (h ∷ hs) p = rw (p.1, most_wider b d far c.window e.window h cs es hs p.2)

-- a separation of use leaves a total of use
left_over : (o m a v j : ℕ) → v ≤ m + a → start o m a v ≤ j → v - j ≤ a
left_over o m a v j h k = omega arith

-- IN A WIDER SPREAD
module _ (b d far v : ℕ) (small : d ≤ b) where
  -- each span stays empty, or its end moves on no further than its growing end says
  pub back_grows : (w z : Span) (g : ℕ) (cs es : List Level) (hs : List ℕ) → Wider b d far w z g cs es hs → Lows b cs → NoneLacks b far d v w g cs hs →
      (u : ℕ) → u ≤ v → u ≤ most cs → Grows b d (back_grow b w g cs hs u) (back b w cs u) (back b z es u)
  unfolding Wider Lows NoneLacks back back_grow most
  back_grows w z g [] [] hs p l n u i k = record { stays = λ m. (p.1, omega (arith, p.0.start), p.0.within) }
  back_grows w z g [] (e ∷ es) hs p l n u i k = absurd p
  back_grows w z g (c ∷ cs) [] hs p l n u i k = absurd p
  back_grows w z g (c ∷ cs) (e ∷ es) [] p l n u i k = absurd p
  back_grows w z g (c ∷ cs) (e ∷ es) (h ∷ hs) p l n u i k =
      rw (p.1, most_wider b d far c.window e.window h cs es hs p.2)
      (cell_grows b d far (low_at c.limits) (high_at c.limits) (least_open c.limits) (last c.limits) (most cs) (λ u. back b c.window cs u) (λ u. back b e.window es u) (λ u. back_grow b c.window h cs hs u) small w z g u p.0 l.0
      (λ j x y. back_grows c.window e.window h cs es hs p.2 l.1 n.1 (u - j) (omega arith) (left_over (least_open c.limits) (last c.limits) (most cs) u j k x))
      (n.0 u i k))

  module _ (w z : Span) (g : ℕ) (cs es : List Level) (hs : List ℕ) (p : Wider b d far w z g cs es hs) (l : Lows b cs) (n : NoneLacks b far d v w g cs hs) where
    -- a total of at most v that could not be had can't be had still
    still_empty : (u : ℕ) → u ≤ v → u ≤ most cs → nonempty (back b z es u) ≡ true → nonempty (back b w cs u) ≡ true
    still_empty u i k m =
        let q = back_grows w z g cs es hs p l n u i k in
        lt-ltb (back b w cs u).from (back b w cs u).upto (q.stays (ltb-true (back b z es u).from (back b z es u).upto m)).0

    -- THE LEAST TOTAL DOES NOT FALL, if the spans for all totals below it were looked at
    pub total_stays : least_total b w cs ≤ suc v → least_total b w cs ≤ most cs → least_total b w cs ≤ least_total b z es
    unfolding least_total first_total
    total_stays i k = go (le_or_lt (first before 0 (suc (most cs))) (first after 0 (suc (most es))))
      where
        before : ℕ → Bool
        before u = nonempty (back b w cs u)

        after : ℕ → Bool
        after u = nonempty (back b z es u)

        go : (first before 0 (suc (most cs)) ≤ first after 0 (suc (most es))) ⊎ (first after 0 (suc (most es)) < first before 0 (suc (most cs))) →
            first before 0 (suc (most cs)) ≤ first after 0 (suc (most es))
        go (inl m) = m
        go (inr m) =
            let e = most_wider b d far w z g cs es hs p in
            let u = first after 0 (suc (most es)) in
            absurd (omega (
              arith,
              first_least before 0 (suc (most cs)) u (omega arith) (omega arith)
                  (still_empty u (omega arith) (omega arith) (first_holds after 0 (suc (most es)) (omega arith))),
            ))

-- GROWING ENDS ARE NOT BEYOND ENDS
shifted_below : (b g u p : ℕ) → p ≤ 2 * b → 0 < u → g ≤ u + b → shifted b p g ≤ u + 2 * b - p
unfolding shifted
shifted_below b zero u p i j m = omega arith
shifted_below b (suc g) u p i j m = omega arith

furthest_below : (b : ℕ) (low : ℕ → ℕ) (f : ℕ → Span) (h : ℕ → ℕ) (q n x z : ℕ) → ((j : ℕ) → low j ≤ 2 * b) →
    ((j : ℕ) → q ≤ j → j < q + n → (f j).from < (f j).upto → h j ≤ (f j).upto + b) → z ≤ x → furthest_grow b low f h q n z ≤ furthest b low f q n x
unfolding furthest furthest_grow
furthest_below b low f h q zero x z l k e = e
furthest_below b low f h q (suc n) x z l k e =
    furthest_below b low f h (suc q) n _ _ l (λ j i m. k j (omega arith) (omega arith)) (step (nonempty (f q)) refl (k q (omega arith) (omega arith)))
  where
    step : (u : Bool) → nonempty (f q) ≡ u → ((f q).from < (f q).upto → h q ≤ (f q).upto + b) → max_if u (shifted b (low q) (h q)) z ≤ max_if u ((f q).upto + 2 * b - low q) x
    step true i m =
        let p = ltb-true (f q).from (f q).upto i in
        omega (arith, shifted_below b (h q) (f q).upto (low q) (l q) (omega arith) (m p))
    step false i m = e

growing_below : (x y g h : ℕ) → g ≤ x → h ≤ y → growing x y g h ≤ min x y
unfolding growing
growing_below x y g h i j = go (ltb y x) refl
  where
    go : (v : Bool) → ltb y x ≡ v → lesser_grow v g h ≤ min x y
    go true k = omega (arith, ltb-true y x k)
    go false k = omega (arith, ltb-false y x k)

-- AN EMPTY SPAN LACKS SOMETHING, at one end or the other
lack_some : (x e g : ℕ) → g ≤ e → e < x → 0 < end_lack x e g
unfolding end_lack
lack_some x e g i h = rw (le-ltb x (suc e) (omega arith)) (omega arith)

min_under : (a c e : ℕ) → max a (min c e) ≤ max a e
min_under a c e = omega arith

either_short : (b wf wu n r : ℕ) → min wu (r - b) ≤ max wf (min wu n) → (wu + b < max wf n + 1 + b) ⊎ (r < max wf n + 1 + b)
either_short b wf wu n r h = go (le_or_lt (max wf n + 1 + b) (wu + b)) (le_or_lt (max wf n + 1 + b) r)
  where
    go : (max wf n + 1 + b ≤ wu + b) ⊎ (wu + b < max wf n + 1 + b) → (max wf n + 1 + b ≤ r) ⊎ (r < max wf n + 1 + b) →
        (wu + b < max wf n + 1 + b) ⊎ (r < max wf n + 1 + b)
    go (inr i) j = inl i
    go (inl i) (inr j) = inr j
    go (inl i) (inl j) = let z : max wf n < min wu (r - b) = omega arith in absurd (omega (arith, min_under wf wu n))

both_some : (b : ℕ) (w : Span) (n r g h : ℕ) → g ≤ w.upto + b → h ≤ r → (between b w n r).upto ≤ (between b w n r).from → 0 < both_lack b w n r g h
both_some b w n r g h i j e = go (either_short b w.from w.upto n r e)
  where
    go : (w.upto + b < max w.from n + 1 + b) ⊎ (r < max w.from n + 1 + b) → 0 < both_lack b w n r g h
    go (inl k) = let z = lack_some (max w.from n + 1 + b) (w.upto + b) g i k in omega arith
    go (inr k) = let z = lack_some (max w.from n + 1 + b) r h j k in omega arith

module _ (b far : ℕ) (low high : ℕ → ℕ) (o m a : ℕ) (f : ℕ → Span) (h : ℕ → ℕ) (w : Span) (g v : ℕ) (wide : w.upto ≤ far) (small : g ≤ w.upto + b) (lows : (j : ℕ) → low j ≤ 2 * b)
    (k : (u : ℕ) → (f u).from < (f u).upto → h u ≤ (f u).upto + b) where
  reach_below : grow_of b low o m a f h v ≤ reach_of b low o m a f v
  reach_below = furthest_below b low (λ q. f (v - q)) (λ q. h (v - q)) (start o m a v) (stop m v - start o m a v) 0 0 lows (λ j x y. k (v - j)) (omega arith)

  cell_below : (cell b low high o m a f w v).from < (cell b low high o m a f w v).upto → cell_grow b low o m a f h w g v ≤ (cell b low high o m a f w v).upto + b
  unfolding cell_grow
  cell_below i =
      let e = cell_ends b far low high o m a f w v wide in
      rw (e, ← min_raised b w.upto (reach_of b low o m a f v) _ (rw e at i))
      (growing_below (w.upto + b) (reach_of b low o m a f v) g (grow_of b low o m a f h v) small reach_below)

  cell_lacks : (cell b low high o m a f w v).upto ≤ (cell b low high o m a f w v).from → 0 < cell_lack b far low high o m a f h w g v
  unfolding cell_lack
  cell_lacks i =
      both_some b w (near_of b far high o m a f v) (reach_of b low o m a f v) g (grow_of b low o m a f h v) small reach_below (rw (cell_ends b far low high o m a f w v wide) at i)

module _ (b far : ℕ) where
  pub back_below : (w : Span) (g : ℕ) (cs : List Level) (hs : List ℕ) → Near far w cs → Lows b cs → GrowBelow b w g cs hs → (u : ℕ) → (back b w cs u).from < (back b w cs u).upto →
      back_grow b w g cs hs u ≤ (back b w cs u).upto + b
  unfolding Near Lows GrowBelow back back_grow
  back_below w g [] hs n l s u i = s
  back_below w g (c ∷ cs) [] n l s u i = absurd s
  back_below w g (c ∷ cs) (h ∷ hs) n l s u i =
      cell_below b far (low_at c.limits) (high_at c.limits) (least_open c.limits) (last c.limits) (most cs) (λ u. back b c.window cs u) (λ u. back_grow b c.window h cs hs u) w g u n.0 s.0 l.0
      (λ u. back_below c.window h cs hs n.1 l.1 s.1 u) i

  -- WHAT AN EMPTY SPAN LACKS IS NEVER 0: the spread always goes on
  pub lack_positive : (w : Span) (g : ℕ) (c : Level) (h : ℕ) (cs : List Level) (hs : List ℕ) → Near far w (c ∷ cs) → Lows b (c ∷ cs) → GrowBelow b w g (c ∷ cs) (h ∷ hs) →
      (u : ℕ) → (back b w (c ∷ cs) u).upto ≤ (back b w (c ∷ cs) u).from → 0 < lack_at b far w g c h cs hs u
  unfolding Near Lows GrowBelow back
  lack_positive w g c h cs hs n l s u i =
      cell_lacks b far (low_at c.limits) (high_at c.limits) (least_open c.limits) (last c.limits) (most cs) (λ u. back b c.window cs u) (λ u. back_grow b c.window h cs hs u) w g u n.0 s.0 l.0
      (λ u. back_below c.window h cs hs n.1 l.1 s.1 u) i

-- WHERE EVERY WINDOW'S END GROWS a span's growing end is its end
shifted_end : (b g u p : ℕ) → p ≤ 2 * b → 0 < u → g ≡ u + b → shifted b p g ≡ u + 2 * b - p
unfolding shifted
shifted_end b zero u p i j m = absurd (omega arith)
shifted_end b (suc g) u p i j m = omega arith

furthest_ends : (b : ℕ) (low : ℕ → ℕ) (f : ℕ → Span) (h : ℕ → ℕ) (q n t : ℕ) → ((j : ℕ) → low j ≤ 2 * b) →
    ((j : ℕ) → (f j).from < (f j).upto → h j ≡ (f j).upto + b) → furthest_grow b low f h q n t ≡ furthest b low f q n t
unfolding furthest furthest_grow
furthest_ends b low f h q zero t l k = refl
furthest_ends b low f h q (suc n) t l k = rw (step (nonempty (f q)) refl) (furthest_ends b low f h (suc q) n _ l k)
  where
    step : (u : Bool) → nonempty (f q) ≡ u → max_if u (shifted b (low q) (h q)) t ≡ max_if u ((f q).upto + 2 * b - low q) t
    step true i =
        let p = ltb-true (f q).from (f q).upto i in
        ap (max t) (shifted_end b (h q) (f q).upto (low q) (l q) (omega arith) (k q p))
    step false i = refl

growing_ends : (x y : ℕ) → growing x y x y ≡ min x y
unfolding growing
growing_ends x y = go (ltb y x) refl
  where
    go : (v : Bool) → ltb y x ≡ v → lesser_grow v x y ≡ min x y
    go true k = omega (arith, ltb-true y x k)
    go false k = omega (arith, ltb-false y x k)

lack_end : (x e : ℕ) → end_lack x e e ≡ x - e
unfolding end_lack
lack_end x e = go (ltb x (suc e)) refl
  where
    go : (v : Bool) → ltb x (suc e) ≡ v → lack_if v x e ≡ x - e
    go true k = omega (arith, ltb-true x (suc e) k)
    go false k = refl

max_gaps : (x a c : ℕ) → max (x - a) (x - c) ≡ x - min a c
max_gaps x a c = omega arith

module _ (b far : ℕ) (low high : ℕ → ℕ) (o m a : ℕ) (f : ℕ → Span) (h : ℕ → ℕ) (w : Span) (v : ℕ) (wide : w.upto ≤ far) (lows : (j : ℕ) → low j ≤ 2 * b)
    (k : (u : ℕ) → (f u).from < (f u).upto → h u ≡ (f u).upto + b) where
  reach_ends : grow_of b low o m a f h v ≡ reach_of b low o m a f v
  reach_ends = furthest_ends b low (λ q. f (v - q)) (λ q. h (v - q)) (start o m a v) (stop m v - start o m a v) 0 lows (λ j. k (v - j))

  cell_end : (cell b low high o m a f w v).from < (cell b low high o m a f w v).upto → cell_grow b low o m a f h w (w.upto + b) v ≡ (cell b low high o m a f w v).upto + b
  unfolding cell_grow
  cell_end i =
      let e = cell_ends b far low high o m a f w v wide in
      rw (e, reach_ends) (growing_ends (w.upto + b) (reach_of b low o m a f v) ∙ min_raised b w.upto (reach_of b low o m a f v) _ (rw e at i))

  cell_lack_short : cell_lack b far low high o m a f h w (w.upto + b) v ≡ cell_short b far low high o m a f w v
  unfolding cell_lack cell_short
  cell_lack_short = rw reach_ends (simp lack_end (max_gaps _ _ _))

module _ (b far : ℕ) where
  back_end : (w : Span) (g : ℕ) (cs : List Level) (hs : List ℕ) → Near far w cs → Lows b cs → AllGrow b w g cs hs → (u : ℕ) → (back b w cs u).from < (back b w cs u).upto →
      back_grow b w g cs hs u ≡ (back b w cs u).upto + b
  unfolding Near Lows AllGrow back back_grow
  back_end w g [] hs n l s u i = s
  back_end w g (c ∷ cs) [] n l s u i = absurd s
  back_end w g (c ∷ cs) (h ∷ hs) n l s u i =
      rw s.0
      (cell_end b far (low_at c.limits) (high_at c.limits) (least_open c.limits) (last c.limits) (most cs) (λ u. back b c.window cs u) (λ u. back_grow b c.window h cs hs u) w u n.0 l.0
      (λ u. back_end c.window h cs hs n.1 l.1 s.1 u) i)

  all_below : (w : Span) (g : ℕ) (cs : List Level) (hs : List ℕ) → AllGrow b w g cs hs → GrowBelow b w g cs hs
  unfolding AllGrow GrowBelow
  all_below w g [] hs s = omega arith
  all_below w g (c ∷ cs) [] s = absurd s
  all_below w g (c ∷ cs) (h ∷ hs) s = (omega (arith, s.0), all_below c.window h cs hs s.1)

  module _ (w : Span) (g : ℕ) (c : Level) (h : ℕ) (cs : List Level) (hs : List ℕ) (n : Near far w (c ∷ cs)) (l : Lows b (c ∷ cs)) (s : AllGrow b w g (c ∷ cs) (h ∷ hs)) (u : ℕ) where
    -- WHAT A SPAN LACKS IS WHAT IT IS SHORT
    pub lack_short : lack_at b far w g c h cs hs u ≡ short_at b far w c cs u
    unfolding Near Lows AllGrow
    lack_short =
        rw s.0
        (cell_lack_short b far (low_at c.limits) (high_at c.limits) (least_open c.limits) (last c.limits) (most cs) (λ u. back b c.window cs u) (λ u. back_grow b c.window h cs hs u) w u n.0 l.0
        (λ u. back_end c.window h cs hs n.1 l.1 s.1 u))

    -- and that is not 0 if it is empty
    pub short_positive : (back b w (c ∷ cs) u).upto ≤ (back b w (c ∷ cs) u).from → 0 < short_at b far w c cs u
    short_positive i = rw lack_short at (lack_positive b far w g c h cs hs n l (all_below w g (c ∷ cs) (h ∷ hs) s) u i)
