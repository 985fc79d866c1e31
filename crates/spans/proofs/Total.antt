-- The least total is the least: no placement has a smaller one, and if there is a placement, one has just this total. Assumes nothing.
-- Every total from the least one on is the total of some placement, if there is a channel: its separation can be raised.
use mathlib.Core.Path.{◌≡◌, refl, sym, ◌∙◌}
use mathlib.Core.Bool.{Bool, true, false}
use mathlib.Core.Logic.{◌⊎◌, inl, inr}
use mathlib.Core.List.{List, ◌∷◌}
use Prim.Native.Nat.{ℕ, suc, ◌-◌, ◌≤◌, ◌<◌}
use native.Mathlib.Omega.{arith}
use lib.Dec.{leb}
use borrow.Author.Tests.{le-leb, lt-leb}
use Rattle.numbers.proofs.Orders.{le_or_lt}
use Rattle.stack.specs.Stack.{sum}
use Rattle.spans.specs.Spans.{In, nonempty}
use Rattle.spans.specs.declared.Span.{Span}
use Rattle.spans.specs.Solver.{Level, most, back, first_total, least_total}
use Rattle.spans.specs.Placed.{Placed, under, Can, Exactly, Widening, more}
use Rattle.spans.proofs.First.{first_holds, first_least}
use Rattle.spans.proofs.Limits.{fits_wider}
use Rattle.spans.proofs.Spans.{in_nonempty, nonempty_in}
use Rattle.spans.proofs.Back.{Capped, capped, back_complete, back_sound}

-- what can be placed with at most v can be placed with v: the first separation is raised by what is left
pub raise : (b : ℕ) (w : Span) (c : Level) (cs : List Level) (v x : ℕ) → Widening (c ∷ cs) → Can b w (c ∷ cs) v x → Exactly b w (c ∷ cs) v
unfolding sum
raise b w c cs v x (more wide wides) k = go k.ts k.ys k.placed k.within
  where
    go : (ts ys : List ℕ) → Placed b w (c ∷ cs) ts x ys → sum ts ≤ v → Exactly b w (c ∷ cs) v
    go ts ys (under {t = t} {y = y} {ts = us} {ys = zs} i f r) h =
        record {
          ts = (v - sum us) ∷ us;
          x = x;
          ys = y ∷ zs;
          placed = under i (fits_wider b c.limits wide t (v - sum us) x y (omega arith) f) r;
          total = omega arith;
        }

module _ (b : ℕ) (w : Span) (cs : List Level) (wide : Widening cs) where
  abbrev placeable : ℕ → Bool
  placeable v = nonempty (back b w cs v)

  module _ (us : List ℕ) (x : ℕ) (ys : List ℕ) (p : Placed b w cs us x ys) where
    capped_total : (k : Capped b w cs us x ys) → least_total b w cs ≤ sum k.us
    unfolding least_total first_total
    capped_total k =
        first_least placeable 0 (suc (most cs)) (sum k.us) (omega arith) (omega (arith, k.enough))
        (in_nonempty _ x (back_complete b cs wide w (sum k.us) k.us x ys k.placed (omega arith)))

    pub no_smaller_total : least_total b w cs ≤ sum us
    no_smaller_total = let k : Capped b w cs us x ys = capped b p in omega (arith, capped_total k)

    pub least_total_at_most : least_total b w cs ≤ most cs
    least_total_at_most = let k : Capped b w cs us x ys = capped b p in omega (arith, capped_total k)

  -- the span at the least total is not empty
  least_total_found : least_total b w cs ≤ most cs → In (back b w cs (least_total b w cs)) (back b w cs (least_total b w cs)).from
  unfolding least_total first_total
  least_total_found h = nonempty_in _ (first_holds placeable 0 (suc (most cs)) (omega arith))

  -- THE LEAST TOTAL IS REACHED, unless nothing can be placed, and then it is above the greatest total of use
  pub least_total_reached : least_total b w cs ≤ most cs → Exactly b w cs (least_total b w cs)
  least_total_reached h = go (back_sound b cs wide w _ _ (least_total_found h))
    where
      go : {y : ℕ} → Can b w cs (least_total b w cs) y → Exactly b w cs (least_total b w cs)
      go {y} k =
          record {
            ts = k.ts;
            x = y;
            ys = k.ys;
            placed = k.placed;
            total = omega (arith, k.within, no_smaller_total k.ts y k.ys k.placed);
          }

module _ (b : ℕ) (w : Span) (cs : List Level) (wide : Widening cs) (v : ℕ) (h : v ≤ most cs) where
  span_not_below : nonempty (back b w cs v) ≡ true → least_total b w cs ≤ v
  unfolding least_total first_total
  span_not_below e = first_least (placeable b w cs wide) 0 (suc (most cs)) v (omega arith) (omega arith) e

  span_above : least_total b w cs ≤ v → nonempty (back b w cs v) ≡ true
  span_above l =
      let e : Exactly b w cs (least_total b w cs) = least_total_reached b w cs wide (omega arith) in
      in_nonempty _ e.x (back_complete b cs wide w v e.ts e.x e.ys e.placed (omega (arith, e.total)))

  -- A TOTAL OF USE HAS A SPAN exactly if it is not below the least one
  pub span_from_least : nonempty (back b w cs v) ≡ leb (least_total b w cs) v
  span_from_least = go (nonempty (back b w cs v)) refl (le_or_lt (least_total b w cs) v)
    where
      go : (x : Bool) → nonempty (back b w cs v) ≡ x → (least_total b w cs ≤ v) ⊎ (v < least_total b w cs) → nonempty (back b w cs v) ≡ leb (least_total b w cs) v
      go x e (inl l) = span_above l ∙ sym (le-leb (least_total b w cs) v l)
      go true e (inr l) = absurd (omega (arith, span_not_below e))
      go false e (inr l) = e ∙ sym (lt-leb (least_total b w cs) v l)

-- with a channel every greater total is reached as well
pub greater_total_reached : (b : ℕ) (w : Span) (c : Level) (cs : List Level) (v : ℕ) → Widening (c ∷ cs) → least_total b w (c ∷ cs) ≤ most (c ∷ cs) → least_total b w (c ∷ cs) ≤ v →
    Exactly b w (c ∷ cs) v
greater_total_reached b w c cs v wide h k =
    let e : Exactly b w (c ∷ cs) (least_total b w (c ∷ cs)) = least_total_reached b w (c ∷ cs) wide h in
    raise b w c cs v e.x wide (record { ts = e.ts; ys = e.ys; placed = e.placed; within = omega (arith, e.total) })
