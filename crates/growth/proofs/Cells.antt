-- The laws of growing ends and lacks in one cell: of the loop over separations, and of the two ends. Assumes nothing.
use mathlib.Core.Path.{◌≡◌, refl, sym, ap, ◌∙◌}
use mathlib.Core.Bool.{Bool, true, false}
use mathlib.Core.List.{List}
use Prim.Native.Nat.{ℕ, zero, suc, ◌+◌, ◌-◌, ◌*◌, ◌≤◌, ◌<◌, min, max}
use native.Mathlib.Numerals.{add-one}
use native.Mathlib.Omega.{arith}
use borrow.Author.Tests.{lt-ltb, le-ltb, ltb-true}
use Rattle.spans.specs.Spans.{nonempty}
use Rattle.spans.specs.declared.Span.{Span}
use Rattle.spans.specs.Solver.{start, stop}
use Rattle.spans.specs.Jump.{max_if, furthest, near_of, reach_of}
use Rattle.spans.specs.Growth.{shifted, furthest_grow, growing, end_lack, grow_of, cell_grow, both_lack, cell_lack}
use Rattle.spans.proofs.Jump.{cell_ends}
use Rattle.arrays.specs.Arrays.{bias, entry, low_in, high_in, span_in, spans_of}
use Rattle.arrays.specs.declared.ChannelLimits.{ChannelLimits}
use Rattle.arrays.specs.declared.StripSpans.{StripSpans}
use Rattle.arrays.proofs.Searches.{one_left, none_left}
use Rattle.scan.specs.Scan.{EndsAre}
use Rattle.scan.specs.declared.Cell.{Cell}
use Rattle.scan.specs.declared.Ends.{Ends}
use Rattle.scan.proofs.Scanning.{tried_less, near_tried, reach_tried, left_empty}
use Rattle.growth.specs.Growth.{CellAsks, grow_in, lack_in}

-- one growing end shifted back
pub shift_none : (b l g : ℕ) → g ≡ 0 → 0 ≡ shifted b l g
unfolding shifted
shift_none b l zero h = refl
shift_none b l (suc g) h = absurd (omega arith)

pub shift_some : (b l g r : ℕ) → (g ≡ 0 → ⊥) → r ≡ max 1 (g + b - l) → r ≡ shifted b l g
unfolding shifted
shift_some b l zero r h e = absurd (h refl)
shift_some b l (suc g) r h e = e

-- what one end lacks
pub lack_none : (x e g : ℕ) → x ≤ e → 0 ≡ end_lack x e g
unfolding end_lack
lack_none x e g h = rw (lt-ltb x (suc e) (omega arith))

pub lack_gap : (x e g r : ℕ) → e < x → r ≡ x - g → r ≡ end_lack x e g
unfolding end_lack
lack_gap x e g r h p = rw (le-ltb x (suc e) (omega arith)) p

-- THE LOOP OVER SEPARATIONS
module _ (b : ℕ) (low : ℕ → ℕ) (f : ℕ → Span) (h : ℕ → ℕ) (stop q t r : ℕ) (s : furthest_grow b low f h q (stop - q) t ≡ r) where
  more : (x : ℕ) → q < stop → x ≡ max_if (nonempty (f q)) (shifted b (low q) (h q)) t → furthest_grow b low f h (q + 1) (stop - (q + 1)) x ≡ r
  unfolding furthest_grow
  more x i e = rw (add-one, e) (ap (λ (m : ℕ). furthest_grow b low f h q m t) (one_left stop q i) ∙ s)

  pub grow_taken : (x : ℕ) → q < stop → (f q).from < (f q).upto → x ≡ max t (shifted b (low q) (h q)) → furthest_grow b low f h (q + 1) (stop - (q + 1)) x ≡ r
  grow_taken x i k e = more x i (rw (lt-ltb (f q).from (f q).upto k) e)

  pub grow_left : q < stop → (f q).upto ≤ (f q).from → furthest_grow b low f h (q + 1) (stop - (q + 1)) t ≡ r
  grow_left i k = more t i (rw (le-ltb (f q).from (f q).upto k))

  pub grow_ends : stop ≤ q → t ≡ r
  unfolding furthest_grow
  grow_ends i = ap (λ (m : ℕ). furthest_grow b low f h q m t) (none_left stop q i) ∙ s

-- separations whose spans are empty may be left out at the end
furthest_cut : (b : ℕ) (low : ℕ → ℕ) (f : ℕ → Span) (h : ℕ → ℕ) (q n m t : ℕ) → n ≤ m → ((j : ℕ) → q + n ≤ j → j < q + m → nonempty (f j) ≡ false) →
    furthest_grow b low f h q n t ≡ furthest_grow b low f h q m t
unfolding furthest_grow
furthest_cut b low f h q zero zero t l e = refl
furthest_cut b low f h q (suc n) zero t l e = absurd (omega arith)
furthest_cut b low f h q zero (suc m) t l e = rw (e q (omega arith) (omega arith)) (furthest_cut b low f h (suc q) zero m t (omega arith) (λ j i k. e j (omega arith) (omega arith)))
furthest_cut b low f h q (suc n) (suc m) t l e = furthest_cut b low f h (suc q) n m _ (omega arith) (λ j i k. e j (omega arith) (omega arith))

-- growing ends depend on limits, spans and the growing ends of spans that are not empty
pub furthest_grow_same : (b : ℕ) (low₁ low₂ : ℕ → ℕ) (f₁ f₂ : ℕ → Span) (h₁ h₂ : ℕ → ℕ) (q n t : ℕ) →
    ((j : ℕ) → q ≤ j → j < q + n → (low₁ j ≡ low₂ j) × (f₁ j ≡ f₂ j) × ((f₂ j).from < (f₂ j).upto → h₁ j ≡ h₂ j)) →
    furthest_grow b low₁ f₁ h₁ q n t ≡ furthest_grow b low₂ f₂ h₂ q n t
unfolding furthest_grow
furthest_grow_same b low₁ low₂ f₁ f₂ h₁ h₂ q zero t s = refl
furthest_grow_same b low₁ low₂ f₁ f₂ h₁ h₂ q (suc n) t s =
    let e = s q (omega arith) (omega arith) in
    rw (e.0, e.1, step (nonempty (f₂ q)) refl e.2) (furthest_grow_same b low₁ low₂ f₁ f₂ h₁ h₂ (suc q) n _ (λ j k m. s j (omega arith) (omega arith)))
  where
    step : (v : Bool) → nonempty (f₂ q) ≡ v → ((f₂ q).from < (f₂ q).upto → h₁ q ≡ h₂ q) → max_if v (shifted b (low₂ q) (h₁ q)) t ≡ max_if v (shifted b (low₂ q) (h₂ q)) t
    step true e k = rw (k (ltb-true (f₂ q).from (f₂ q).upto e))
    step false e k = refl

-- where a cell's span ends
span_end : (limits : ChannelLimits) (c : Cell) (t : List StripSpans) (h : List ℕ) → CellAsks limits c t h →
    (span_in t c.i c.v).upto ≡ min c.window.upto (reach_of bias (low_in limits) c.least c.last c.above (span_in t (c.i + 1)) c.v - bias)
span_end limits c t h a =
    ap (λ (x : Span). x.upto)
    (a.here ∙ cell_ends bias bias (low_in limits) (high_in limits) c.least c.last c.above (span_in t (c.i + 1)) c.window c.v (omega (arith, a.spans.end)))

-- ONE CELL, from the separations tried
module _ (limits : ChannelLimits) (c : Cell) (t : List StripSpans) (h : List ℕ) (own first end : ℕ) (a : CellAsks limits c t h)
    (d : first ≡ max c.least (c.v - c.above)) (e : end ≡ min (c.last + 1) (c.v + 1 - c.empty)) where
  abbrev f : ℕ → Span
  f = span_in t (c.i + 1)

  abbrev w : Span
  w = c.window

  abbrev near : ℕ
  near = near_of bias bias (high_in limits) c.least c.last c.above f c.v

  abbrev reach : ℕ
  reach = reach_of bias (low_in limits) c.least c.last c.above f c.v

  abbrev grow : ℕ
  grow = grow_of bias (low_in limits) c.least c.last c.above f (entry h) c.v

  s : first ≡ start c.least c.last c.above c.v
  s = omega (arith, a.spans.of_use)

  grow_tried : furthest_grow bias (low_in limits) (λ q. f (c.v - q)) (λ q. entry h (c.v - q)) first (end - first) 0 ≡ grow
  grow_tried =
      rw (← s)
      (furthest_cut bias (low_in limits) (λ q. f (c.v - q)) (λ q. entry h (c.v - q)) first (end - first) (stop c.last c.v - first) 0
      (rw e (tried_less c.last c.v c.empty first)) (left_empty limits c t first end a.spans d e))

  -- the lack, from the ends of the separations tried
  module _ (r : Ends) (is : EndsAre limits (spans_of t (c.i + 1)) c.v first end (record { near = 2 * bias; reach = 0 }) r) where
    near_is : r.near - bias ≡ near
    near_is = let z : 2 * bias - bias ≡ bias = omega arith in rw z at is.near_is ∙ near_tried limits c t first end a.spans d e

    reach_is : r.reach ≡ reach
    reach_is = is.reach_is ∙ reach_tried limits c t first end a.spans d e

    module _ (x y : ℕ) (at : x ≡ max c.window.from (r.near - bias) + 1 + bias) (by : y ≡ end_lack x (c.window.upto + bias) own) where
      place : x ≡ max c.window.from near + 1 + bias
      place = rw near_is at at

      -- the reach is far enough
      pub lack_window : x ≤ r.reach → y ≡ lack_in limits c own t h c.v
      unfolding cell_lack
      lack_window k = rw (← place) (by ∙ nothing (end_lack x (c.window.upto + bias) own) (end_lack x reach grow) (lack_none x reach grow (rw reach_is at k)))
        where
          nothing : (m n : ℕ) → 0 ≡ n → m ≡ max m n
          nothing m n i = omega arith

      pub lack_both : (g z u : ℕ) → g ≡ furthest_grow bias (low_in limits) (λ q. f (c.v - q)) (λ q. entry h (c.v - q)) first (end - first) 0 →
          z ≡ end_lack x r.reach g → u ≡ max y z → u ≡ lack_in limits c own t h c.v
      unfolding cell_lack
      lack_both g z u p q k = rw (← place, ← reach_is, ← grow_tried, ← p, k, by, q)

  end_is : (span_in t c.i c.v).upto ≡ min c.window.upto (reach - bias)
  end_is = span_end limits c t h a

  -- the growing end of a span that is not empty
  module _ (full : (span_in t c.i c.v).from < (span_in t c.i c.v).upto) where
    -- it ends with its window
    pub grow_window : (span_in t c.i c.v).upto ≡ c.window.upto → own ≡ grow_in limits c own t h c.v
    unfolding cell_grow growing
    grow_window k = rw (le-ltb reach (c.window.upto + bias) (beyond c.window.upto reach (omega arith) (sym end_is ∙ k)))
      where
        beyond : (u m : ℕ) → 0 < u → min u (m - bias) ≡ u → u + bias ≤ m
        beyond u m i j = omega arith

    -- or before it
    pub grow_reach : ((span_in t c.i c.v).upto ≡ c.window.upto → ⊥) → (g : ℕ) →
        g ≡ furthest_grow bias (low_in limits) (λ q. f (c.v - q)) (λ q. entry h (c.v - q)) first (end - first) 0 → g ≡ grow_in limits c own t h c.v
    unfolding cell_grow growing
    grow_reach k g p = rw (lt-ltb reach (c.window.upto + bias) (before c.window.upto reach (λ i. k (end_is ∙ i)))) (p ∙ grow_tried)
      where
        before : (u m : ℕ) → (min u (m - bias) ≡ u → ⊥) → m < u + bias
        before u m i = omega (arith, i)

  -- no separation to try: it lacks more than any jump
  pub lack_far : end ≤ first → bias ≤ lack_in limits c own t h c.v
  unfolding furthest furthest_grow cell_lack
  lack_far i =
      let z : 0 ≡ end - first = none_left end first i in
      let r : 0 ≡ reach = ap (λ (m : ℕ). furthest bias (low_in limits) (λ q. f (c.v - q)) first m 0) z ∙ reach_tried limits c t first end a.spans d e in
      let g : 0 ≡ grow = ap (λ (m : ℕ). furthest_grow bias (low_in limits) (λ q. f (c.v - q)) (λ q. entry h (c.v - q)) first m 0) z ∙ grow_tried in
      rw (← r, ← g) (far (max c.window.from near + 1 + bias) (omega arith) (end_lack (max c.window.from near + 1 + bias) (c.window.upto + bias) own))
    where
      far : (x : ℕ) → bias < x → (y : ℕ) → bias ≤ max y (end_lack x 0 0)
      far x l y = omega (arith, lack_gap x 0 0 x (omega arith) (omega arith))

-- a cell depends on the growing ends above for totals up to its own
module _ (limits : ChannelLimits) (c : Cell) (t : List StripSpans) (own v : ℕ) (h h' : List ℕ) (kept : (u : ℕ) → u ≤ v → entry h u ≡ entry h' u) where
  pub grow_kept : grow_in limits c own t h v ≡ grow_in limits c own t h' v
  unfolding cell_grow
  grow_kept = ap (growing _ _ own) (furthest_grow_same bias _ _ _ _ _ _ _ _ 0 (λ j k m. (refl, refl, λ l. kept (v - j) (omega arith))))

  pub lack_kept : lack_in limits c own t h v ≡ lack_in limits c own t h' v
  unfolding cell_lack
  lack_kept = ap (both_lack bias _ _ _ own) (furthest_grow_same bias _ _ _ _ _ _ _ _ 0 (λ j k m. (refl, refl, λ l. kept (v - j) (omega arith))))
