-- The laws of total_of: what is refused, and the least total; and the third demand said of what is returned. Assumes nothing.
use mathlib.Core.Path.{◌≡◌, refl}
use mathlib.Core.Bool.{true}
use mathlib.Core.List.{List}
use Prim.Native.Nat.{ℕ, zero, suc, ◌≤◌}
use native.Mathlib.Omega.{arith}
use Rattle.stack.specs.Stack.{Stack, LeastTotal, sum, first_spread}
use Rattle.stack.specs.Limits.{all_rising, within_limits}
use Rattle.routing.specs.Paths.{Drawable}
use Rattle.routing.proofs.Drawable.{drawable_legal, legal_drawable}
use Rattle.std.specs.Prelude.{Ok, Err}
use Rattle.stack.specs.declared.Tracks.{Tracks}
use Rattle.text.specs.Text.{Refusal, refusal, fine}
use Rattle.text.specs.Outcome.{number_of}
use Rattle.text.specs.declared.Refused.{Refused}
use Rattle.text.proofs.Refusals.{word_not_fine, fine_number}
use Rattle.answer.specs.Solve.{answer_total}
use Rattle.answer.proofs.Answers.{least_there}
use Rattle.spread.specs.Answers.{TotalResult, total_in, total_told, Totalled, TotalOr}
use Rattle.spread.specs.Best.{DrawnWith, BestTotal}

-- a refusal with 0
pub totalled_refused : (n : ℕ) (f : Refusal) (k : Stack) (s : ℕ) (r : TotalResult) → (n ≡ 0 → ⊥) → total_told f 0 r → Totalled n f k s r
unfolding Totalled
totalled_refused zero f k s r h t = absurd (h refl)
totalled_refused (suc n) f k s r h t = t

-- a total for which nothing is refused
pub totalled_fine : (n : ℕ) (f : Refusal) (k : Stack) (s v : ℕ) (r : TotalResult) → n ≡ 0 → LeastTotal k s v → total_told f v r → Totalled n f k s r
unfolding Totalled
totalled_fine zero f k s v r e l t = (v, l, t)
totalled_fine (suc n) f k s v r e l t = absurd (omega arith)

module _ (f : Refusal) (k : Stack) (s : ℕ) where
  pub total_refused : (e : Refused) → refusal (number_of e.why) e.line e.field ≡ f → TotalOr f k s (Err e)
  unfolding total_told
  total_refused e q = totalled_refused f.number f k s (Err e) (λ z. word_not_fine e (rw (← q) at z)) (q, refl)

  pub total_answered : (t : Tracks) → fine ≡ f → within_limits k ≡ true → first_spread k.strips ≤ s → t.0 ≡ answer_total k s → TotalOr f k s (Ok t)
  unfolding total_told
  total_answered t q w h e = totalled_fine f.number f k s (answer_total k s) (Ok t) (fine_number f q) (least_there k s w h) (q, e)

-- THE THIRD DEMAND of the total returned
module _ (k : Stack) (s : ℕ) (rises : all_rising k.channels ≡ true) where
  drawn_of : (v : ℕ) → LeastTotal k s v → DrawnWith k s v
  drawn_of v l =
      let m = l.met in
      record { separations = m.separations; positions = m.positions; drawable = legal_drawable k s _ _ rises m.is_legal; exact = m.exact }

  best_of : (n : ℕ) (f : Refusal) (r : TotalResult) → n ≡ 0 → Totalled n f k s r → DrawnWith k s (total_in r) × ((us ys : List ℕ) → Drawable k s us ys → total_in r ≤ sum us)
  unfolding Totalled total_told
  best_of zero f r e t =
      (rw t.2.1 (drawn_of t.0 t.1), λ us ys x. omega (arith, t.2.1, t.1.least us ys (drawable_legal k s us ys rises x)))
  best_of (suc n) f r e t = absurd (omega arith)

pub total_best : (f : Refusal) (k : Stack) (s : ℕ) (r : TotalResult) → (f.number ≡ 0 → all_rising k.channels ≡ true) → TotalOr f k s r → BestTotal f k s r
total_best f k s r w t = record { drawn = λ e. (best e).0; none_smaller = λ e. (best e).1 }
  where
    best : f.number ≡ 0 → DrawnWith k s (total_in r) × ((us ys : List ℕ) → Drawable k s us ys → total_in r ≤ sum us)
    best e = best_of k s (w e) f.number f r e t
