-- The positions for given separations are first in dictionary order, bottom strip first, and belong to a placement with these separations, if there is one.
-- Assumes nothing. With the separations fixed, the span of the bottom strip is exact, and each strip above is as far left as its span and the one below allow.
use mathlib.Core.Path.{◌≡◌, refl}
use mathlib.Core.Bool.{true}
use mathlib.Core.List.{List, [], ◌∷◌}
use Prim.Native.Nat.{ℕ, ◌+◌, ◌-◌, max}
use native.Mathlib.Omega.{arith}
use Rattle.stack.specs.Stack.{not_later}
use Rattle.spans.specs.Spans.{In, Fits, low_at, high_at}
use Rattle.spans.specs.declared.Span.{Span}
use Rattle.spans.specs.Solver.{Level, fixed, lowest, positions_on}
use Rattle.spans.specs.Placed.{Placed, alone, under}
use Rattle.spans.proofs.Order.{not_later_step}
use Rattle.spans.proofs.Spans.{leftmost, shift_back_complete, fits_open, cut_both, cut_left, cut_right}

module _ (b : ℕ) where
  -- a placement's bottom strip is in the span
  pub fixed_complete : {w : Span} {cs : List Level} {ts : List ℕ} {x : ℕ} {ys : List ℕ} → Placed b w cs ts x ys → In (fixed b w cs ts) x
  unfolding fixed
  fixed_complete (alone i) = i
  fixed_complete (under {w = w} {x = x} {y = y} i f r) = cut_both w _ x i (shift_back_complete b _ _ _ x y (fixed_complete r) f)

  -- the strip on top of the channel, as far left as its span and the strip below at x allow
  abbrev next : (c : Level) (cs : List Level) (t : ℕ) (ts : List ℕ) (x : ℕ) → ℕ
  next c cs t ts x = max (fixed b c.window cs ts).from (x + low_at c.limits t - b)

  next_good : (w : Span) (c : Level) (cs : List Level) (t : ℕ) (ts : List ℕ) (x y z : ℕ) (zs : List ℕ) → Fits b (low_at c.limits t) (high_at c.limits t) y z → Placed b c.window cs ts z zs → In (fixed b w (c ∷ cs) (t ∷ ts)) x → In (fixed b c.window cs ts) (next c cs t ts x) × Fits b (low_at c.limits t) (high_at c.limits t) x (next c cs t ts x)
  unfolding fixed
  next_good w c cs t ts x y z zs f r k =
      leftmost b _ _ (fixed b c.window cs ts) x (fits_open b _ _ y z f) (omega (arith, fixed_complete r)) (cut_right w _ x k)

  fixed_window : (w : Span) (cs : List Level) (ts : List ℕ) (x : ℕ) → In (fixed b w cs ts) x → In w x
  unfolding fixed
  fixed_window w [] ts x i = i
  fixed_window w (c ∷ cs) [] x i = i
  fixed_window w (c ∷ cs) (t ∷ ts) x i = cut_left w _ x i

  -- from each position in the span there is a placement
  pub positions_placed : {w : Span} {cs : List Level} {ts : List ℕ} {y : ℕ} {ys : List ℕ} (x : ℕ) → Placed b w cs ts y ys → In (fixed b w cs ts) x → Placed b w cs ts x (positions_on b x cs ts)
  unfolding positions_on
  positions_placed {w} x (alone i) k = alone (fixed_window w [] [] x k)
  positions_placed {w} x (under {c = c} {cs = cs} {t = t} {x = y} {y = z} {ts = ts} {ys = zs} i f r) k =
      let n : _ = next_good w c cs t ts x y z zs f r k in
      under (fixed_window w (c ∷ cs) (t ∷ ts) x k) n.1 (positions_placed (next c cs t ts x) r n.0)

  -- and none with the bottom strip there has positions before it
  pub positions_first : {w : Span} {cs : List Level} {ts : List ℕ} {x : ℕ} {zs : List ℕ} → Placed b w cs ts x zs → not_later (positions_on b x cs ts) zs ≡ true
  unfolding positions_on not_later
  positions_first (alone i) = refl
  positions_first (under {c = c} {cs = cs} {t = t} {x = x} {y = z} {ts = ts} {ys = zs} i f r) =
      let k : not_later (positions_on b z cs ts) zs ≡ true = positions_first r in
      not_later_step (next c cs t ts x) z (positions_on b (next c cs t ts x) cs ts) zs (omega (arith, fixed_complete r)) (λ h. rw h k)

  -- THE POSITIONS ARE FIRST
  module _ (w : Span) (cs : List Level) (ts : List ℕ) (y : ℕ) (zs : List ℕ) (p : Placed b w cs ts y zs) where
    pub lowest_placed : Placed b w cs ts (lowest b w cs ts) (positions_on b (lowest b w cs ts) cs ts)
    unfolding lowest
    lowest_placed = positions_placed _ p (omega (arith, fixed_complete p))

    pub lowest_first : not_later (lowest b w cs ts ∷ positions_on b (lowest b w cs ts) cs ts) (y ∷ zs) ≡ true
    unfolding lowest
    lowest_first = not_later_step (lowest b w cs ts) y (positions_on b (lowest b w cs ts) cs ts) zs (fixed_complete p).above (λ h. rw h (positions_first p))
