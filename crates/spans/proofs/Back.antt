-- BACK is exact: a position is in the span exactly if the bottom strip can stand there with a total of at most v. So the spans grow with v, and the
-- positions of the bottom strip have no gap. Assumes nothing.
-- The spans gathered for two separations touch: the narrower limits go with the wider span, the wider limits with the narrower one.
use mathlib.Core.Path.{refl}
use mathlib.Core.Logic.{◌⊎◌, inl, inr, ◌↔◌}
use mathlib.Core.List.{List, [], ◌∷◌}
use Prim.Native.Nat.{ℕ, suc, ◌+◌, ◌-◌, ◌≤◌, ◌<◌, min, max}
use native.Mathlib.Omega.{arith}
use Rattle.stack.specs.Stack.{sum}
use Rattle.numbers.proofs.Orders.{le_or_lt}
use Rattle.spans.specs.Spans.{span, In, Fits, last, low_at, high_at}
use Rattle.spans.specs.declared.Span.{Span}
use Rattle.spans.specs.Solver.{Level, least_open, most, start, stop, cell, back}
use Rattle.spans.specs.Placed.{Placed, alone, under, Can, Widens, Widening, none, more}
use Rattle.spans.proofs.Limits.{fits_wider, fits_capped, least_open_least, open_on}
use Rattle.spans.proofs.Spans.{Partner, Among, Inside, Touch, Touching, shift_back_sound, shift_back_complete, fits_open, cut_both, cut_left, cut_right, in_nonempty, gather_complete, gather_sound}

-- a placement whose first separation, cut down to the last of its list, is t, and whose others sum to u, counts at a separation q in the range of use
record InRange (t p stop q o u v : ℕ) : Type 0 where
  pub early : max o p ≤ q
  pub late : q < max o p + (stop - max o p)
  pub wider : t ≤ q
  pub rest : u ≤ v - q

in_range : (t p m o u v a : ℕ) → o ≤ t → t ≤ m → t + u ≤ v → u ≤ a → p ≤ m → p ≤ v - a → InRange t p (suc (min v m)) (max t p) o u v
in_range t p m o u v a h h₁ h₂ h₃ h₄ h₅ = omega arith

-- what is in the range of use
in_use : (o p m v q : ℕ) → max o p ≤ q → q < max o p + (suc (min v m) - max o p) → (o ≤ q) × (q ≤ m) × (q ≤ v)
in_use o p m v q h k = omega arith

module _ (b : ℕ) where
  -- a placement stands with each separation cut down to the last of its list
  pub record Capped (w : Span) (cs : List Level) (ts : List ℕ) (x : ℕ) (ys : List ℕ) : Type 0 where
    pub us : List ℕ
    pub placed : Placed b w cs us x ys
    pub less : sum us ≤ sum ts
    pub enough : sum us ≤ most cs

  pub capped : {w : Span} {cs : List Level} {ts : List ℕ} {x : ℕ} {ys : List ℕ} → Placed b w cs ts x ys → Capped w cs ts x ys
  unfolding sum most
  capped (alone i) = record { us = []; placed = alone i; less = omega arith; enough = omega arith }
  capped (under {c = c} {t = t} {x = x} {y = y} i f r) =
      let k = capped r in
      record {
        us = min t (last c.limits) ∷ k.us;
        placed = under i (fits_capped b c.limits t x y f) k.placed;
        less = omega arith;
        enough = omega arith;
      }

  -- a strip under what can be placed with the rest of the total
  pub on_top : (w : Span) (c : Level) (cs : List Level) (v q x y : ℕ) → In w x → q ≤ v → Fits b (low_at c.limits q) (high_at c.limits q) x y → Can b c.window cs (v - q) y → Can b w (c ∷ cs) v x
  unfolding sum
  on_top w c cs v q x y i h f k = record { ts = q ∷ k.ts; ys = y ∷ k.ys; placed = under i f k.placed; within = omega arith }

  abbrev Complete : List Level → Type 0
  Complete cs = (w : Span) (v : ℕ) (ts : List ℕ) (x : ℕ) (ys : List ℕ) → Placed b w cs ts x ys → sum ts ≤ v → In (back b w cs v) x

  abbrev Sound : List Level → Type 0
  Sound cs = (w : Span) (v x : ℕ) → In (back b w cs v) x → Can b w cs v x

  module _ (c : Level) (cs : List Level) (wide : Widens c.limits) where
    step_complete : Complete cs → Complete (c ∷ cs)
    unfolding back cell sum
    step_complete rec w v ts x ys (under {t = t} {y = y} i f r) h =
        let k : Capped c.window cs _ y _ = capped r in
        let l : ℕ = last c.limits in
        let p : ℕ = min l (v - most cs) in
        let q : ℕ = max (min t l) p in
        let o : least_open c.limits ≤ min t l = least_open_least c.limits t (fits_open b _ _ _ y f) in
        let g : InRange (min t l) p (suc (min v l)) q (least_open c.limits) (sum k.us) v = in_range (min t l) p l (least_open c.limits) (sum k.us) v (most cs) o (omega arith) (omega arith) k.enough (omega arith) (omega arith) in
        let m : In (back b c.window cs (v - q)) y = rec _ _ _ _ _ k.placed g.rest in
        cut_both w _ x i
        (gather_complete b (low_at c.limits) (high_at c.limits) _ x _ _ _ q g.early g.late (in_nonempty _ y m)
        (shift_back_complete b _ _ _ x y m (fits_wider b c.limits wide (min t l) q x y g.wider (fits_capped b c.limits t x y f))))

    module _ (complete : Complete cs) (sound : Sound cs) where
      -- with a greater total the span is no narrower
      back_wider : (w : Span) (u v : ℕ) → u ≤ v → (back b w cs u).from < (back b w cs u).upto → ((back b w cs v).from ≤ (back b w cs u).from) × ((back b w cs u).upto ≤ (back b w cs v).upto)
      back_wider w u v h k = ((goes (back b w cs u).from (omega arith)).above, omega (arith, (goes ((back b w cs u).upto - 1) (omega arith)).below))
        where
          goes : (x : ℕ) → In (back b w cs u) x → In (back b w cs v) x
          goes x i = let k : Can b w cs u x = sound w u x i in complete w v k.ts x k.ys k.placed (omega arith)

      abbrev spans : (v q : ℕ) → Span
      spans v q = back b c.window cs (v - q)

      touch : (v i j : ℕ) → least_open c.limits ≤ i → i ≤ last c.limits → least_open c.limits ≤ j → j ≤ last c.limits → (spans v i).from < (spans v i).upto → (spans v j).from < (spans v j).upto → Touch b (low_at c.limits) (high_at c.limits) (spans v) i j
      touch v i j h k m n s t = go (le_or_lt i j)
        where
          go : (i ≤ j) ⊎ (j < i) → Touch b (low_at c.limits) (high_at c.limits) (spans v) i j
          go (inl z) = omega (arith, back_wider c.window (v - j) (v - i) (omega arith) t, open_on c.limits wide i h k, wide.higher i j z)
          go (inr z) = omega (arith, back_wider c.window (v - i) (v - j) (omega arith) s, open_on c.limits wide i h k, open_on c.limits wide j m n, wide.lower j i (omega arith), wide.higher j i (omega arith))

      -- a separation in the range of use is open, in the list, and at most v
      usable : (v q : ℕ) → start (least_open c.limits) (last c.limits) (most cs) v ≤ q → q < start (least_open c.limits) (last c.limits) (most cs) v + (stop (last c.limits) v - start (least_open c.limits) (last c.limits) (most cs) v) → (least_open c.limits ≤ q) × (q ≤ last c.limits) × (q ≤ v)
      usable v q h k = in_use (least_open c.limits) (min (last c.limits) (v - most cs)) (last c.limits) v q h k

      touching : (v : ℕ) → Touching b (low_at c.limits) (high_at c.limits) (spans v) (start (least_open c.limits) (last c.limits) (most cs) v) (stop (last c.limits) v - start (least_open c.limits) (last c.limits) (most cs) v)
      touching v i j h k m n =
          let s : _ = usable v i h k in
          let t : _ = usable v j m n in
          touch v i j s.0 s.1 t.0 t.1

      step_sound : Sound (c ∷ cs)
      unfolding back cell
      step_sound w v x i = found (gather_sound b (low_at c.limits) (high_at c.limits) (spans v) x _ _ (span w.upto 0) (cut_left w _ x i).below refl (touching v) (cut_right w _ x i))
        where
          partner : (q : ℕ) → q ≤ v → Partner b (low_at c.limits q) (high_at c.limits q) (spans v q) x → Can b w (c ∷ cs) v x
          partner q h p = on_top w c cs v q x p.other (cut_left w _ x i) h p.fits (sound c.window (v - q) p.other p.inside)

          found : Among (Inside b (low_at c.limits) (high_at c.limits) (spans v) x) (start (least_open c.limits) (last c.limits) (most cs) v) (stop (last c.limits) v - start (least_open c.limits) (last c.limits) (most cs) v) → Can b w (c ∷ cs) v x
          found a =
              let u : _ = usable v a.at a.early a.late in
              partner a.at u.2 (shift_back_sound b _ _ (spans v a.at) x (open_on c.limits wide a.at u.0 u.1) a.holds.full a.holds.inside)

  pub back_complete : (cs : List Level) → Widening cs → Complete cs
  unfolding back
  back_complete [] none = λ w v ts x ys p h. top w x ts ys p
    where
      top : (w : Span) (x : ℕ) (ts ys : List ℕ) → Placed b w [] ts x ys → In w x
      top w x ts ys (alone i) = i
  back_complete (c ∷ cs) (more wide wides) = step_complete c cs wide (back_complete cs wides)

  pub back_sound : (cs : List Level) → Widening cs → Sound cs
  unfolding back sum
  back_sound [] none = λ w v x i. record { ts = []; ys = []; placed = alone i; within = omega arith }
  back_sound (c ∷ cs) (more wide wides) = step_sound c cs wide (back_complete cs wides) (back_sound cs wides)

  -- BACK IS EXACT
  pub back_exact : (w : Span) (cs : List Level) (v x : ℕ) → Widening cs → In (back b w cs v) x ↔ Can b w cs v x
  back_exact w cs v x wide = (back_sound cs wide w v x, λ k. back_complete cs wide w v k.ts x k.ys k.placed k.within)

  pub back_grows : (w : Span) (cs : List Level) (u v x : ℕ) → Widening cs → u ≤ v → In (back b w cs u) x → In (back b w cs v) x
  back_grows w cs u v x wide h i =
      let k : Can b w cs u x = (back_exact w cs u x wide).0 i in
      back_complete cs wide w v k.ts x k.ys k.placed (omega arith)

  -- the bottom strip's positions have no gap
  pub no_gap : (w : Span) (cs : List Level) (v x y z : ℕ) → Widening cs → Can b w cs v x → Can b w cs v z → x ≤ y → y ≤ z → Can b w cs v y
  no_gap w cs v x y z wide h k p q =
      let i : In (back b w cs v) x = (back_exact w cs v x wide).1 h in
      let j : In (back b w cs v) z = (back_exact w cs v z wide).1 k in
      (back_exact w cs v y wide).0 (omega arith)
