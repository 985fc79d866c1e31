-- The separations for a total are first in dictionary order among all placements with just this total, and belong to one of them. Assumes nothing.
-- The forward span stands for the bottom strip's window: it is exact, so what is above it is a stack of its own.
use mathlib.Core.Path.{◌≡◌, refl}
use mathlib.Core.Bool.{Bool, true}
use mathlib.Core.List.{List, [], ◌∷◌}
use Prim.Native.Nat.{ℕ, ◌+◌, ◌-◌, ◌≤◌, ◌<◌, min}
use native.Mathlib.Omega.{arith}
use Rattle.stack.specs.Stack.{sum, not_later}
use Rattle.spans.specs.Spans.{In, Fits, last, low_at, high_at, cut, shift_on}
use Rattle.spans.specs.declared.Span.{Span}
use Rattle.spans.specs.Solver.{Level, least_open, most, back, serves, first_serving, least_serving, forward, separations}
use Rattle.spans.specs.Placed.{Placed, alone, under, Can, Widens, Widening, none, more}
use Rattle.spans.proofs.Order.{not_later_step}
use Rattle.spans.proofs.First.{first_from, first_holds, first_least}
use Rattle.spans.proofs.Limits.{fits_wider, fits_capped, least_open_least, open_on}
use Rattle.spans.proofs.Spans.{PartnerBelow, shift_on_sound, shift_on_complete, fits_open, cut_both, cut_left, cut_right, in_nonempty, nonempty_in}
use Rattle.spans.proofs.Back.{Capped, capped, back_complete, back_sound}

-- the bottom strip's window may be any that holds its position
pub in_window : {b : ℕ} {w : Span} {cs : List Level} {ts : List ℕ} {x : ℕ} {ys : List ℕ} → (f : Span) → In f x → Placed b w cs ts x ys → Placed b f cs ts x ys
in_window f i (alone j) = alone i
in_window f i (under j g r) = under i g r

pub bottom_in : {b : ℕ} {w : Span} {cs : List Level} {ts : List ℕ} {x : ℕ} {ys : List ℕ} → Placed b w cs ts x ys → In w x
bottom_in (alone j) = j
bottom_in (under j g r) = j

module _ (b : ℕ) (c : Level) (cs : List Level) (wide : Widens c.limits) (wides : Widening cs) (s : Span) (v : ℕ) where
  abbrev serving_at : ℕ → Bool
  serving_at q = serves b (low_at c.limits) (high_at c.limits) (most cs) (λ u. back b c.window cs u) s v q

  abbrev q₀ : ℕ
  q₀ = least_serving b s c cs v

  -- the separation of any placement serves, cut down to the last of its list
  serving : (t x y : ℕ) (us ys : List ℕ) → In s x → Fits b (low_at c.limits t) (high_at c.limits t) x y → Placed b c.window cs us y ys → t + sum us ≤ v → serving_at (min t (last c.limits)) ≡ true
  unfolding serves
  serving t x y us ys i f r h =
      let k : Capped b c.window cs us y ys = capped b r in
      in_nonempty _ y
      (cut_both _ _ y (back_complete b cs wides c.window _ k.us y ys k.placed (omega arith))
      (shift_on_complete b _ _ s x y i (fits_capped b c.limits t x y f)))

  not_above : (t x y : ℕ) (us ys : List ℕ) → In s x → Fits b (low_at c.limits t) (high_at c.limits t) x y → Placed b c.window cs us y ys → t + sum us ≤ v → (q₀ ≤ min t (last c.limits)) × (least_open c.limits ≤ min t (last c.limits))
  unfolding first_serving
  not_above t x y us ys i f r h =
      let o : least_open c.limits ≤ min t (last c.limits) = least_open_least c.limits t (fits_open b _ _ x y f) in
      (first_least serving_at (least_open c.limits) _ (min t (last c.limits)) o (omega arith) (serving t x y us ys i f r h), o)

  -- what a separation that serves leaves: a position in the forward span from which the rest is enough
  rest_of : serving_at q₀ ≡ true → (y : ℕ) × Can b (forward b s c q₀) cs (v - q₀) y
  unfolding serves forward
  rest_of e = go _ (nonempty_in _ e)
    where
      go : (y : ℕ) → In (cut (back b c.window cs (min (v - q₀) (most cs))) (shift_on b (low_at c.limits q₀) (high_at c.limits q₀) s)) y → (z : ℕ) × Can b (forward b s c q₀) cs (v - q₀) z
      go y i =
          let k : Can b c.window cs (min (v - q₀) (most cs)) y = back_sound b cs wides c.window _ y (cut_left _ _ y i) in
          (y, record { ts = k.ts; ys = k.ys; placed = in_window (forward b s c q₀) (cut_both c.window _ y (bottom_in k.placed) (cut_right _ _ y i)) k.placed; within = omega (arith, k.within) })

  record Served : Type 0 where
    opens : least_open c.limits ≤ q₀
    listed : q₀ ≤ last c.limits
    within : q₀ ≤ v
    rest : (y : ℕ) × Can b (forward b s c q₀) cs (v - q₀) y

  served : (x : ℕ) → Can b s (c ∷ cs) v x → Served
  unfolding sum first_serving
  served x k = go k.ts k.ys k.placed k.within
    where
      go : (ts ys : List ℕ) → Placed b s (c ∷ cs) ts x ys → sum ts ≤ v → Served
      go ts ys (under {t = t} {y = y} {ts = us} {ys = zs} i f r) h =
          let n : (q₀ ≤ min t (last c.limits)) × (least_open c.limits ≤ min t (last c.limits)) = not_above t x y us zs i f r h in
          let o : least_open c.limits ≤ q₀ = first_from serving_at _ _ in
          record { opens = o; listed = omega arith; within = omega arith; rest = rest_of (first_holds serving_at _ _ (omega arith)) }

-- separations of some placement with the total v, first in dictionary order among the separations of all such placements
pub record FirstWith (b : ℕ) (s : Span) (cs : List Level) (v : ℕ) (ts : List ℕ) : Type 0 where
  pub x : ℕ
  pub ys : List ℕ
  pub placed : Placed b s cs ts x ys
  pub total : sum ts ≡ v
  pub first : (us : List ℕ) (y : ℕ) (zs : List ℕ) → Placed b s cs us y zs → sum us ≡ v → not_later ts us ≡ true

-- the last channel takes all that is left
module _ (b : ℕ) (c : Level) (wide : Widens c.limits) (s : Span) (v : ℕ) where
  only_first : (us : List ℕ) (y : ℕ) (zs : List ℕ) → Placed b s (c ∷ []) us y zs → sum us ≡ v → not_later (v ∷ []) us ≡ true
  unfolding sum not_later
  only_first us y zs (under {t = t} i f (alone j)) e = not_later_step v t [] [] (omega arith) (λ _. refl)

  only : (x : ℕ) → Can b s (c ∷ []) v x → FirstWith b s (c ∷ []) v (v ∷ [])
  unfolding sum
  only x k = go k.ts k.ys k.placed k.within
    where
      go : (ts ys : List ℕ) → Placed b s (c ∷ []) ts x ys → sum ts ≤ v → FirstWith b s (c ∷ []) v (v ∷ [])
      go ts ys (under {t = t} {y = y} i f (alone j)) h =
          record { x = x; ys = y ∷ []; placed = under i (fits_wider b c.limits wide t v x y (omega arith) f) (alone j); total = omega arith; first = only_first }

-- a channel with others above it
module _ (b : ℕ) (c : Level) (cs : List Level) (wide : Widens c.limits) (wides : Widening cs) (s : Span) (v : ℕ) (ts : List ℕ) where
  abbrev q₁ : ℕ
  q₁ = least_serving b s c cs v

  step_first : FirstWith b (forward b s c q₁) cs (v - q₁) ts → (us : List ℕ) (y : ℕ) (zs : List ℕ) → Placed b s (c ∷ cs) us y zs → sum us ≡ v → not_later (q₁ ∷ ts) us ≡ true
  unfolding sum forward
  step_first m us y zs (under {t = t} {y = z} {ts = us'} {ys = zs'} i f r) e =
      not_later_step q₁ t ts us' (omega (arith, not_above b c cs wide wides s v t y z us' zs' i f r (omega arith)))
      (λ h. m.first us' z zs' (in_window (forward b s c q₁) (cut_both c.window _ z (bottom_in r) (shift_on_complete b _ _ s y z i (rw h f))) r) (omega arith))

  step : Served b c cs wide wides s v → s.from < s.upto → FirstWith b (forward b s c q₁) cs (v - q₁) ts → FirstWith b s (c ∷ cs) v (q₁ ∷ ts)
  unfolding sum forward
  step d h m = go (shift_on_sound b _ _ s m.x (open_on c.limits wide q₁ d.opens d.listed) h (cut_right c.window _ m.x (bottom_in m.placed)))
    where
      go : PartnerBelow b (low_at c.limits q₁) (high_at c.limits q₁) s m.x → FirstWith b s (c ∷ cs) v (q₁ ∷ ts)
      go p = record { x = p.other; ys = m.x ∷ m.ys; placed = under p.inside p.fits (in_window c.window (cut_left c.window _ m.x (bottom_in m.placed)) m.placed); total = omega (arith, d.within, m.total); first = step_first m }

-- THE SEPARATIONS ARE FIRST
pub separations_first : (b : ℕ) (c : Level) (cs : List Level) (s : Span) (v x : ℕ) → Widening (c ∷ cs) → Can b s (c ∷ cs) v x → FirstWith b s (c ∷ cs) v (separations b s (c ∷ cs) v)
unfolding separations
separations_first b c [] s v x (more wide none) k = only b c wide s v x k
separations_first b c (d ∷ cs) s v x (more wide wides) k =
    let e : Served b c (d ∷ cs) wide wides s v = served b c (d ∷ cs) wide wides s v x k in
    step b c (d ∷ cs) wide wides s v _ e (omega (arith, bottom_in k.placed)) (separations_first b d cs _ _ e.rest.0 wides e.rest.1)
