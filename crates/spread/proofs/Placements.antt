-- The laws of placement_of: what is refused, a total that is not met, and the placement; and the third demand said of what is returned. Assumes nothing.
use mathlib.Core.Path.{◌≡◌, refl, ap, ◌∙◌}
use mathlib.Core.Bool.{true}
use mathlib.Core.List.{List, [], ◌∷◌, ◌++◌}
use Prim.Native.Nat.{ℕ, zero, suc, ◌+◌, ◌-◌, ◌≤◌, ◌<◌}
use native.Mathlib.Omega.{arith}
use native.Mathlib.Nat.{zero-add}
use lib.ListN.{length, take, replicate}
use Rattle.numbers.specs.Lists.{padded}
use Rattle.numbers.proofs.Lists.{padded_take}
use Rattle.stack.specs.Stack.{Stack, TotalMet, Placement, sum, first_spread}
use Rattle.stack.specs.Limits.{all_rising, within_limits}
use Rattle.stack.specs.Value.{tracks_of, columns_of}
use Rattle.routing.specs.Paths.{Drawable}
use Rattle.routing.proofs.Drawable.{drawable_legal, legal_drawable}
use Rattle.text.specs.Text.{Refusal, refusal, fine}
use Rattle.std.specs.Option.{ok_or}
use Rattle.std.specs.Prelude.{Option, None, Some, MatchOption, Ok, Err}
use Rattle.text.specs.Outcome.{number_of, refusal_of, refused}
use Rattle.text.specs.declared.Refused.{Refused}
use Rattle.text.specs.declared.Refusal.TheVariants.{Unmet}
use Rattle.text.proofs.Refusals.{word_not_fine, fine_number}
use Rattle.stack.specs.declared.Placement.{Placement as PlacementStruct}
use Rattle.answer.specs.Solve.{answer_total, separations_for, positions_for}
use Rattle.answer.specs.Arrays.{PlacedIs}
use Rattle.answer.proofs.Alone.{legal_lengths}
use Rattle.answer.proofs.Answers.{least_there, placement_there, met_from_least}
use Rattle.spread.specs.Answers.{PlacementResult, separations_of, positions_of, placed_is, PlacedFor, placed, unmet, Placed, PlacementOr}
use Rattle.spread.specs.Best.{DrawnWith, BestPlacement}

-- a refusal with zeros elsewhere
pub placed_refused : (n : ℕ) (f : Refusal) (k : Stack) (s v : ℕ) (r : PlacementResult) → (n ≡ 0 → ⊥) → placed_is f 0 [] [] r → Placed n f k s v r
unfolding Placed
placed_refused zero f k s v r h p = absurd (h refl)
placed_refused (suc n) f k s v r h p = p

-- where nothing is refused before the total
pub placed_fine : (n : ℕ) (f : Refusal) (k : Stack) (s v : ℕ) (r : PlacementResult) → n ≡ 0 → PlacedFor k s v r → Placed n f k s v r
unfolding Placed
placed_fine zero f k s v r e p = p
placed_fine (suc n) f k s v r e p = absurd (omega arith)

-- a total below the least one is not met
below_unmet : (k : Stack) (s v : ℕ) → within_limits k ≡ true → first_spread k.strips ≤ s → v < answer_total k s → TotalMet k s v → ⊥
below_unmet k s v w h l m = omega (arith, (met_from_least k s w (answer_total k s) v (least_there k s w h)).0 m)

module _ (f : Refusal) (k : Stack) (s v : ℕ) where
  pub placement_refused : (e : Refused) → refusal (number_of e.why) e.line e.field ≡ f → PlacementOr f k s v (Err e)
  unfolding placed_is padded
  placement_refused e q = placed_refused f.number f k s v (Err e) (λ z. word_not_fine e (rw (← q) at z)) (q, refl, refl, refl)

  pub placement_unmet : (e : Refused) → fine ≡ f → e ≡ refused Unmet 0 0 → (TotalMet k s v → ⊥) → PlacementOr f k s v (Err e)
  unfolding placed_is padded refusal
  placement_unmet e q u n = placed_fine f.number f k s v (Err e) (fine_number f q) (unmet n (rw u (refl, refl, refl, refl)))

  pub placement_made : (p : PlacementStruct) (ts xs : List ℕ) → fine ≡ f → Placement k s v ts xs → p.total.0 ≡ v → tracks_of p.separations ≡ padded 8 ts →
      columns_of p.positions ≡ padded 9 xs → PlacementOr f k s v (Ok p)
  unfolding placed_is
  placement_made p ts xs q a t ss ps = placed_fine f.number f k s v (Ok p) (fine_number f q) (placed ts xs a (refl, t, ss, ps))

  -- of a stack within the limits, in a spread that is not narrow
  module _ (q : fine ≡ f) (w : within_limits k ≡ true) (wide : first_spread k.strips ≤ s) where
    pub stated_answered : (o : Option PlacementStruct) (e : Refused) → e ≡ refused Unmet 0 0 →
        MatchOption o (v < answer_total k s) (λ p. (answer_total k s ≤ v) × PlacedIs k s v p) → PlacementOr f k s v (ok_or o e)
    stated_answered None e u h = placement_unmet e q u (below_unmet k s v w wide h)
    stated_answered (Some p) e u h =
        let i = h.1 in
        placement_made p (separations_for k s v) (positions_for k s v) q (placement_there k s w wide v h.0) i.total_is i.separations_are i.positions_are

-- THE THIRD DEMAND of the placement returned
sum_zeros : (ts : List ℕ) (n : ℕ) → sum (ts ++ replicate n 0) ≡ sum ts
unfolding sum
sum_zeros [] zero = refl
sum_zeros [] (suc n) = rw zero-add (sum_zeros [] n)
sum_zeros (t ∷ ts) n = ap (λ (v : ℕ). t + v) (sum_zeros ts n)

pub sum_padded : (n : ℕ) (ts : List ℕ) → sum (padded n ts) ≡ sum ts
unfolding padded
sum_padded n ts = sum_zeros ts (n - length ts)

module _ (k : Stack) (s v : ℕ) (rises : all_rising k.channels ≡ true) (r : PlacementResult) where
  placed_drawn : length k.strips ≡ suc (length k.channels) → (ts xs : List ℕ) → Placement k s v ts xs → placed_is fine v ts xs r →
      Drawable k s (take (length k.channels) (separations_of r)) (take (suc (length k.channels)) (positions_of r))
  unfolding placed_is
  placed_drawn c ts xs a p =
      let m = legal_lengths k s ts xs a.is_legal in
      let n : length xs ≡ suc (length k.channels) = m.1 ∙ c in
      rw (p.2, p.3, ← n, ← m.0, padded_take 8 (length ts) ts refl, padded_take 9 (length xs) xs refl) (legal_drawable k s ts xs rises a.is_legal)

  drawn_met : DrawnWith k s v → TotalMet k s v
  drawn_met x =
      record { separations = x.separations; positions = x.positions; is_legal = drawable_legal k s _ _ rises x.drawable; exact = x.exact }

module _ (f : Refusal) (k : Stack) (s v : ℕ) (r : PlacementResult) where
  number_is : (g : Refusal) → refusal_of r ≡ g → (refusal_of r).number ≡ g.number
  number_is g e = ap (λ (x : Refusal). x.number) e

  placed_best : all_rising k.channels ≡ true → length k.strips ≡ suc (length k.channels) → PlacedFor k s v r → BestPlacement f k s v r
  unfolding placed_is fine refusal
  placed_best w c (placed ts xs a p) =
      record {
        drawable = λ z. placed_drawn k s v w r c ts xs a p;
        total_is = λ z. (p.1, ap sum p.2 ∙ sum_padded 8 ts ∙ a.exact);
        none_drawn = λ h z. absurd (omega (arith, number_is (refusal 0 0 0) p.0));
      }
  placed_best w c (unmet n p) =
      record {
        drawable = λ z. absurd (omega (arith, number_is (refusal 10 0 0) p.0));
        total_is = λ z. absurd (omega (arith, number_is (refusal 10 0 0) p.0));
        none_drawn = λ h z x. n (drawn_met k s v w r x);
      }

  pub placement_best : (f.number ≡ 0 → all_rising k.channels ≡ true) → (f.number ≡ 0 → length k.strips ≡ suc (length k.channels)) → PlacementOr f k s v r → BestPlacement f k s v r
  unfolding Placed placed_is
  placement_best w l p = go f.number refl p
    where
      go : (c : ℕ) → f.number ≡ c → Placed c f k s v r → BestPlacement f k s v r
      go zero e p = placed_best (w e) (l e) p
      go (suc c) e p =
          record {
            drawable = λ z. absurd (omega (arith, number_is f p.0));
            total_is = λ z. absurd (omega (arith, number_is f p.0));
            none_drawn = λ h z. absurd (omega arith);
          }
