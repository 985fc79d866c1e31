-- The laws of the scan for the least total: of the loop over separations, of one cell, of the loop over strips and of the loop over totals. Assumes nothing.
use mathlib.Core.Path.{◌≡◌, refl, sym, subst, ap, ap₂, ◌∙◌}
use mathlib.Core.Bool.{Bool, true, false}
use mathlib.Core.List.{List, [], ◌∷◌}
use Prim.Native.Nat.{ℕ, zero, suc, ◌+◌, ◌-◌, ◌*◌, ◌≤◌, ◌<◌, min, max}
use native.Mathlib.Nat.{add-zero}
use native.Mathlib.Numerals.{add-one}
use native.Mathlib.Omega.{arith}
use borrow.Author.Tests.{le-ltb}
use Rattle.std.specs.Prelude.{Option, Some, fold}
use Rattle.std.specs.Iterator.{Yields, CallableAtEachTurn}
use Rattle.std.proofs.iter.Serving.{same_first}
use Rattle.std.proofs.iter.Yields.{nat_range_steps}
use Rattle.std.specs.declared.ops.Range.{Range}
use Rattle.std.specs.List.{range_with_len}
use Rattle.stack.specs.Sizes.{separations_held, totals_held}
use Rattle.spans.specs.Spans.{span, nonempty}
use Rattle.spans.specs.declared.Span.{Span}
use Rattle.spans.specs.Solver.{start, stop, cell}
use Rattle.spans.specs.Jump.{min_if, max_if, nearest, furthest, between, shortfall, near_of, reach_of, cell_short}
use Rattle.arrays.specs.Arrays.{bias, unless_zero, low_in, high_in, span_at, span_in, spans_of}
use Rattle.arrays.specs.declared.ChannelLimits.{ChannelLimits}
use Rattle.arrays.specs.declared.StripSpans.{StripSpans}
use Rattle.scan.specs.Scan.{put_span, EndsAsk, EndsAre, EndsServe, StripAsks, StripDone, none_in}
use Rattle.scan.specs.declared.Cell.{Cell}
use Rattle.scan.specs.declared.Ends.{Ends}
use Rattle.arrays.proofs.Options.{some_number}
use Rattle.arrays.proofs.Searches.{none_left}
use Rattle.spans.proofs.Jump.{cell_ends}

-- a start that is not raised
lowered : (b : ℕ) (v : Bool) (from high near x : ℕ) → x ≡ min_if v (from + 2 * b - high) near → x - b ≡ min_if v (from + b - high) (near - b)
lowered b true from high near x e = omega arith
lowered b false from high near x e = omega arith

-- what a range yields stands in it
range_within : (xs : List ℕ) (s t : Range ℕ) → Yields nat_range_steps s xs t → (t.end ≡ s.end) × (s.start ≤ t.start)
range_within [] s t y = (sym (ap (λ (r : Range ℕ). r.end) y), omega (arith, ap (λ (r : Range ℕ). r.start) y))
range_within (x ∷ xs) s t y = let h = range_within xs y.0 t y.2 in (h.0 ∙ y.1.0, omega (arith, h.1, y.1.1.2))

next_within : (xs : List ℕ) (s t u : Range ℕ) (x : ℕ) → Yields nat_range_steps s xs t → nat_range_steps t (Some x) u → (s.start ≤ x) × (x < s.end)
next_within xs s t u x y e = let w = range_within xs s t y in (omega (arith, w.1, e.1.1), omega (arith, w.0, e.1.0, e.1.1))

-- what a closure that changes no capture may be asked by `fold` over a range
pub folds_over_range : {F B : Type 0} {R : F × B → ℕ → F × B → Type 0} {Q : F × B → ℕ → Type 0} {s : Range ℕ} {f : F} {e : B} →
    ((p : F × B) (x : ℕ) (q : F × B) → R p x q → q.0 ≡ p.0) → ((e : B) (x : ℕ) → s.start ≤ x → x < s.end → Q (f, e) x) → CallableAtEachTurn nat_range_steps R Q s (f, e)
folds_over_range {R = R} {Q = Q} {s = s} {f = f} {e = e} stays h =
    record {
      at = λ xs t q x u y c g.
          let w = next_within xs s t u x y g in
          subst (λ k. Q (k, q.1) x) (sym (same_first R stays xs (f, e) q c)) (h q.1 x w.0 w.1);
    }

-- what a span shifted back by a separation's limit asks
pub record Asked (limits : ChannelLimits) (spans : StripSpans) (v q : ℕ) : Type 0 where
  pub left : q ≤ v
  pub total : v < totals_held
  pub listed : q < separations_held
  pub start : (span_at spans (v - q)).from ≤ bias
  pub end : (span_at spans (v - q)).upto ≤ bias
  pub low_small : low_in limits q ≤ 2 * bias
  pub high_small : high_in limits q ≤ 2 * bias

pub asked_at : (limits : ChannelLimits) (spans : StripSpans) (v start stop q : ℕ) → EndsAsk limits spans v start stop → start ≤ q → q < stop → Asked limits spans v q
asked_at limits spans v start stop q e h k =
    record {
      left = omega (arith, e.within);
      total = e.total;
      listed = omega (arith, e.listed);
      start = e.starts (v - q) (omega (arith, e.within));
      end = e.ends (v - q) (omega (arith, e.within));
      low_small = e.lows_small q k;
      high_small = e.highs_small q k;
    }

-- ends stretched by separation after separation
module _ (limits : ChannelLimits) (spans : StripSpans) (v : ℕ) where
  abbrev pub stretched : Ends → ℕ → Ends
  stretched e q = record {
    near = min_if (nonempty (span_at spans (v - q))) ((span_at spans (v - q)).from + 2 * bias - high_in limits q) e.near;
    reach = max_if (nonempty (span_at spans (v - q))) ((span_at spans (v - q)).upto + 2 * bias - low_in limits q) e.reach;
  }

  abbrev left_span : ℕ → Span
  left_span q = span_at spans (v - q)

  near_small : (z : Bool) (x near : ℕ) → near ≤ 2 * bias → min_if z x near ≤ 2 * bias
  near_small true x near h = omega arith
  near_small false x near h = h

  -- what n separations from q on make of the ends e
  record EndsOf (n q : ℕ) (e r : Ends) : Type 0 where
    small : r.near ≤ 2 * bias
    near_is : r.near - bias ≡ nearest bias (high_in limits) left_span q n (e.near - bias)
    reach_is : r.reach ≡ furthest bias (low_in limits) left_span q n e.reach

  folded : (n q : ℕ) (e : Ends) → e.near ≤ 2 * bias → EndsOf n q e (fold stretched e (range_with_len q n))
  unfolding nearest furthest
  folded zero q e h = record { small = h; near_is = refl; reach_is = refl }
  folded (suc n) q e h =
      let i = folded n (q + 1) (stretched e q) (near_small (nonempty (left_span q)) _ e.near h) in
      record {
        small = i.small;
        near_is = i.near_is ∙ (rw add-one (ap (λ t. nearest bias (high_in limits) left_span (suc q) n t) (lowered bias (nonempty (left_span q)) (left_span q).from (high_in limits q) e.near _ refl)));
        reach_is = i.reach_is ∙ ap (λ p. furthest bias (low_in limits) left_span p n (stretched e q).reach) (add-one q);
      }

  pub ends_folded : (start stop : ℕ) (before r : Ends) → before.near ≤ 2 * bias → r ≡ fold stretched before (range_with_len start (stop - start)) →
      EndsAre limits spans v start stop before r
  ends_folded start stop before r h e = let i = folded (stop - start) start before h in rw e (record { small = i.small; near_is = i.near_is; reach_is = i.reach_is })

-- separations whose spans are empty may be left out at the end
module _ (b : ℕ) (limit : ℕ → ℕ) (f : ℕ → Span) where
  nearest_cut : (q n m t : ℕ) → n ≤ m → ((j : ℕ) → q + n ≤ j → j < q + m → nonempty (f j) ≡ false) → nearest b limit f q n t ≡ nearest b limit f q m t
  unfolding nearest
  nearest_cut q zero zero t l h = refl
  nearest_cut q (suc n) zero t l h = absurd (omega arith)
  nearest_cut q zero (suc m) t l h = rw (h q (omega arith) (omega arith)) (nearest_cut (suc q) zero m t (omega arith) (λ j i k. h j (omega arith) (omega arith)))
  nearest_cut q (suc n) (suc m) t l h = nearest_cut (suc q) n m _ (omega arith) (λ j i k. h j (omega arith) (omega arith))

  furthest_cut : (q n m t : ℕ) → n ≤ m → ((j : ℕ) → q + n ≤ j → j < q + m → nonempty (f j) ≡ false) → furthest b limit f q n t ≡ furthest b limit f q m t
  unfolding furthest
  furthest_cut q zero zero t l h = refl
  furthest_cut q (suc n) zero t l h = absurd (omega arith)
  furthest_cut q zero (suc m) t l h = rw (h q (omega arith) (omega arith)) (furthest_cut (suc q) zero m t (omega arith) (λ j i k. h j (omega arith) (omega arith)))
  furthest_cut q (suc n) (suc m) t l h = furthest_cut (suc q) n m _ (omega arith) (λ j i k. h j (omega arith) (omega arith))

-- the last separation may be taken first
min_if_swap : (v w : Bool) (x y t : ℕ) → min_if v x (min_if w y t) ≡ min_if w y (min_if v x t)
min_if_swap true true x y t = omega arith
min_if_swap true false x y t = refl
min_if_swap false true x y t = refl
min_if_swap false false x y t = refl

max_if_swap : (v w : Bool) (x y t : ℕ) → max_if v x (max_if w y t) ≡ max_if w y (max_if v x t)
max_if_swap true true x y t = omega arith
max_if_swap true false x y t = refl
max_if_swap false true x y t = refl
max_if_swap false false x y t = refl

module _ (b : ℕ) (limit : ℕ → ℕ) (f : ℕ → Span) where
  nearest_last : (q n t : ℕ) → nearest b limit f q n (min_if (nonempty (f (q + n))) ((f (q + n)).from + b - limit (q + n)) t) ≡ nearest b limit f q (suc n) t
  unfolding nearest
  nearest_last q zero t = rw add-zero
  nearest_last q (suc n) t =
      let e : q + suc n ≡ suc q + n = omega arith in
      rw e
      (ap (nearest b limit f (suc q) n) (min_if_swap (nonempty (f q)) (nonempty (f (suc q + n))) _ _ t)
      ∙ nearest_last (suc q) n (min_if (nonempty (f q)) ((f q).from + b - limit q) t))

  furthest_last : (q n t : ℕ) → furthest b limit f q n (max_if (nonempty (f (q + n))) ((f (q + n)).upto + 2 * b - limit (q + n)) t) ≡ furthest b limit f q (suc n) t
  unfolding furthest
  furthest_last q zero t = rw add-zero
  furthest_last q (suc n) t =
      let e : q + suc n ≡ suc q + n = omega arith in
      rw e
      (ap (furthest b limit f (suc q) n) (max_if_swap (nonempty (f q)) (nonempty (f (suc q + n))) _ _ t)
      ∙ furthest_last (suc q) n (max_if (nonempty (f q)) ((f q).upto + 2 * b - limit q) t))

  -- more separations stretch the ends further
  nearest_below : (q n t : ℕ) → nearest b limit f q n t ≤ t
  unfolding nearest
  nearest_below q zero t = omega arith
  nearest_below q (suc n) t = omega (arith, nearest_below (suc q) n (min_if (nonempty (f q)) ((f q).from + b - limit q) t), less (nonempty (f q)))
    where
      less : (v : Bool) → min_if v ((f q).from + b - limit q) t ≤ t
      less true = omega arith
      less false = omega arith

  furthest_beyond : (q n t : ℕ) → t ≤ furthest b limit f q n t
  unfolding furthest
  furthest_beyond q zero t = omega arith
  furthest_beyond q (suc n) t = omega (arith, furthest_beyond (suc q) n (max_if (nonempty (f q)) ((f q).upto + 2 * b - limit q) t), more (nonempty (f q)))
    where
      more : (v : Bool) → t ≤ max_if v ((f q).upto + 2 * b - limit q) t
      more true = omega arith
      more false = omega arith

-- ends that reach over the whole window give the window
covered : (b : ℕ) (w : Span) (near reach : ℕ) → near ≤ w.from → w.upto + b ≤ reach →
    (between b w near reach ≡ w) × (shortfall b w near reach ≡ w.from + 1 + b - (w.upto + b))
covered b w near reach h k =
    let n : max w.from (min w.upto near) ≡ w.from = omega arith in
    let r : min w.upto (reach - b) ≡ w.upto = omega arith in
    let m : max w.from near ≡ w.from = omega arith in
    let s : min (w.upto + b) reach ≡ w.upto + b = omega arith in
    (ap₂ span n r, ap₂ (λ (x y : ℕ). x + 1 + b - y) m s)

-- ends from the last separation q on
module _ (limits : ChannelLimits) (spans : StripSpans) (v start stop q : ℕ) (w : Span) (e : Ends) (last : q + 1 ≡ stop) (inside : start ≤ q)
    (n : e.near ≡ min_if (nonempty (span_at spans (v - q))) ((span_at spans (v - q)).from + 2 * bias - high_in limits q) (2 * bias))
    (r : e.reach ≡ max_if (nonempty (span_at spans (v - q))) ((span_at spans (v - q)).upto + 2 * bias - low_in limits q) 0) where
  abbrev f : ℕ → Span
  f j = span_at spans (v - j)

  near_whole : nearest bias (high_in limits) f start (q - start) (e.near - bias) ≡ nearest bias (high_in limits) f start (stop - start) bias
  near_whole =
      let i : start + (q - start) ≡ q = omega arith in
      let j : suc (q - start) ≡ stop - start = omega arith in
      rw (lowered bias (nonempty (f q)) (span_at spans (v - q)).from (high_in limits q) (2 * bias) e.near n)
      (rw (i, j) at (nearest_last bias (high_in limits) f start (q - start) bias))

  reach_whole : furthest bias (low_in limits) f start (q - start) e.reach ≡ furthest bias (low_in limits) f start (stop - start) 0
  reach_whole =
      let i : start + (q - start) ≡ q = omega arith in
      let j : suc (q - start) ≡ stop - start = omega arith in
      rw r (rw (i, j) at (furthest_last bias (low_in limits) f start (q - start) 0))

  -- the first ends are small
  pub first_small : e.near ≤ 2 * bias
  first_small = rw n (go (nonempty (span_at spans (v - q))))
    where
      go : (z : Bool) → min_if z ((span_at spans (v - q)).from + 2 * bias - high_in limits q) (2 * bias) ≤ 2 * bias
      go true = omega arith
      go false = omega arith

  -- they reach over the whole window
  pub ends_cover : e.near ≤ w.from + bias → w.upto + bias ≤ e.reach → EndsServe limits spans v start stop w e
  ends_cover h k =
      let here = covered bias w (e.near - bias) e.reach (omega arith) k in
      let whole = covered bias w (nearest bias (high_in limits) f start (stop - start) bias) (furthest bias (low_in limits) f start (stop - start) 0)
      (omega (arith, near_whole, nearest_below bias (high_in limits) f start (q - start) (e.near - bias)))
      (omega (arith, reach_whole, furthest_beyond bias (low_in limits) f start (q - start) e.reach)) in
      record { small = first_small; span_is = here.0 ∙ sym whole.0; short_is = here.1 ∙ sym whole.1 }

  -- all separations taken
  pub ends_all : (x : Ends) → EndsAre limits spans v start q e x → EndsServe limits spans v start stop w x
  ends_all x d =
      let near : x.near - bias ≡ nearest bias (high_in limits) f start (stop - start) bias = d.near_is ∙ near_whole in
      let reach : x.reach ≡ furthest bias (low_in limits) f start (stop - start) 0 = d.reach_is ∙ reach_whole in
      record { small = d.small; span_is = ap₂ (between bias w) near reach; short_is = ap₂ (shortfall bias w) near reach }

-- the separations tried end no later than those of use, and those left out leave a total below the first that is not empty
pub tried_less : (last v empty first : ℕ) → min (last + 1) (v + 1 - empty) - first ≤ stop last v - first
tried_less last v empty first = let h : min (last + 1) (v + 1 - empty) ≤ stop last v = omega arith in omega arith

untried : (last v empty first end q : ℕ) → end ≡ min (last + 1) (v + 1 - empty) → first + (end - first) ≤ q → q < first + (stop last v - first) → v - q < empty
untried last v empty first end q e h k =
    let l : end ≤ q = omega arith in
    let m : q < stop last v = omega arith in
    omega arith

within : (last v first q : ℕ) → q < first + (stop last v - first) → first ≤ q → q ≤ v
within last v first q k h = omega arith

left_of : (first v q : ℕ) → first ≤ q → q ≤ v → v - q + first ≤ v
left_of first v q h k = omega arith

-- THE SEPARATIONS TRIED: those left out leave totals whose spans in the strip above are empty
module _ (limits : ChannelLimits) (c : Cell) (t : List StripSpans) (first end : ℕ) (a : StripAsks limits c t)
    (d : first ≡ max c.least (c.v - c.above)) (e : end ≡ min (c.last + 1) (c.v + 1 - c.empty)) where
  s : first ≡ start c.least c.last c.above c.v
  s = omega (arith, a.of_use)

  left_over : (u : ℕ) → u + first ≤ c.v → u ≤ c.above
  left_over u k = let h = a.of_use in omega arith

  abbrev above_spans : ℕ → Span
  above_spans = span_in t (c.i + 1)

  abbrev w : Span
  w = c.window

  pub left_empty : (q : ℕ) → first + (end - first) ≤ q → q < first + (stop c.last c.v - first) → nonempty (above_spans (c.v - q)) ≡ false
  left_empty q h k =
      le-ltb (above_spans (c.v - q)).from (above_spans (c.v - q)).upto
      (a.empties (c.v - q) (untried c.last c.v c.empty first end q e h k) (left_over (c.v - q) (left_of first c.v q (omega arith) (within c.last c.v first q k (omega arith)))))

  pub near_tried : nearest bias (high_in limits) (λ q. above_spans (c.v - q)) first (end - first) bias ≡ near_of bias bias (high_in limits) c.least c.last c.above above_spans c.v
  near_tried = rw (← s) (nearest_cut bias (high_in limits) (λ q. above_spans (c.v - q)) first (end - first) (stop c.last c.v - first) bias (rw e (tried_less c.last c.v c.empty first)) left_empty)

  pub reach_tried : furthest bias (low_in limits) (λ q. above_spans (c.v - q)) first (end - first) 0 ≡ reach_of bias (low_in limits) c.least c.last c.above above_spans c.v
  reach_tried = rw (← s) (furthest_cut bias (low_in limits) (λ q. above_spans (c.v - q)) first (end - first) (stop c.last c.v - first) 0 (rw e (tried_less c.last c.v c.empty first)) left_empty)

  -- one cell, from ends whose span and shortfall are those of the separations tried
  pub strip_done : (r : Ends) (x y : ℕ) (z : Option ℕ) → EndsServe limits (spans_of t (c.i + 1)) c.v first end w r →
      x ≡ max c.window.from (min c.window.upto (r.near - bias)) → y ≡ min c.window.upto (r.reach - bias) → z ≡ unless_zero (max c.window.from (r.near - bias) + 1 + bias - min (c.window.upto + bias) r.reach) →
      StripDone limits c t (put_span t c.i c.v (span x y)) z
  unfolding cell_short
  strip_done r x y z f p q g =
      record {
        put_is = ap (put_span t c.i c.v) (ap₂ span p q ∙ cell_tried);
        short_is = g ∙ ap unless_zero (f.short_is ∙ ap₂ (shortfall bias w) near_tried reach_tried);
      }
    where
      cell_tried : between bias w (r.near - bias) r.reach ≡ cell bias (low_in limits) (high_in limits) c.least c.last c.above above_spans w c.v
      cell_tried =
          f.span_is ∙ (ap₂ (between bias w) near_tried reach_tried
          ∙ sym (cell_ends bias bias (low_in limits) (high_in limits) c.least c.last c.above above_spans w c.v (omega (arith, a.end))))

  -- no separation to try
  pub cell_none : end ≤ first →
      (cell bias (low_in limits) (high_in limits) c.least c.last c.above above_spans w c.v ≡ none_in w)
      × (cell_short bias bias (low_in limits) (high_in limits) c.least c.last c.above above_spans w c.v ≡ 2 * bias + 1)
  unfolding nearest furthest cell_short
  cell_none h =
      let z : 0 ≡ end - first = none_left end first h in
      let y : _ = ap (λ (m : ℕ). nearest bias (high_in limits) (λ q. above_spans (c.v - q)) first m bias) z in
      let g : _ = ap (λ (m : ℕ). furthest bias (low_in limits) (λ q. above_spans (c.v - q)) first m 0) z in
      let n : bias ≡ near_of bias bias (high_in limits) c.least c.last c.above above_spans c.v = y ∙ near_tried in
      let r : 0 ≡ reach_of bias (low_in limits) c.least c.last c.above above_spans c.v = g ∙ reach_tried in
      let x : 2 * bias + 1 ≡ shortfall bias w bias 0 = omega (arith, a.start) in
      let b : none_in w ≡ between bias w bias 0 = ap₂ span (omega (arith, a.end)) (omega arith) in (
        sym (b ∙ (ap₂ (between bias w) n r ∙ sym (cell_ends bias bias (low_in limits) (high_in limits) c.least c.last c.above above_spans w c.v (omega (arith, a.end))))),
        sym (x ∙ ap₂ (shortfall bias w) n r),
      )

  pub strip_none : end ≤ first → StripDone limits c t (put_span t c.i c.v (none_in w)) (Some (2 * bias + 1))
  strip_none h =
      let b = cell_none h in
      record { put_is = ap (put_span t c.i c.v) (sym b.0); short_is = some_number (2 * bias + 1) _ (omega (arith, b.1)) (sym b.1) }

-- a cell that is short is empty
short_ends : (b from upto near reach : ℕ) → min (upto + b) reach < max from near + 1 + b → min upto (reach - b) ≤ max from near
short_ends b from upto near reach h = omega arith

within_window : (from upto near x : ℕ) → x ≤ upto → x ≤ max from near → x ≤ max from (min upto near)
within_window from upto near x h k = omega arith

short_between : (b : ℕ) (w : Span) (near reach : ℕ) → 0 < shortfall b w near reach → (between b w near reach).upto ≤ (between b w near reach).from
short_between b w near reach h =
    within_window w.from w.upto near (min w.upto (reach - b)) (omega arith)
    (short_ends b w.from w.upto near reach (above_gap (max w.from near + 1 + b) (min (w.upto + b) reach) h))
  where
    above_gap : (x y : ℕ) → 0 < x - y → y < x
    above_gap x y i = omega arith

pub short_empty : (low high : ℕ → ℕ) (least last above : ℕ) (f : ℕ → Span) (w : Span) (v : ℕ) → w.upto ≤ bias → 0 < cell_short bias bias low high least last above f w v →
    (cell bias low high least last above f w v).upto ≤ (cell bias low high least last above f w v).from
unfolding cell_short
short_empty low high least last above f w v l h =
    rw (cell_ends bias bias low high least last above f w v l)
    (short_between bias w (near_of bias bias high least last above f v) (reach_of bias low least last above f v) h)
