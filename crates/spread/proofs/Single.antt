-- A single strip has total 0 and position 0 in every spread that it fits, and no other total. Assumes nothing.
use mathlib.Core.Path.{◌≡◌, refl, sym, ap, ◌∙◌}
use mathlib.Core.Bool.{true, false, cond}
use mathlib.Core.List.{List, [], ◌∷◌}
use Prim.Native.Nat.{ℕ, zero, suc, ◌+◌, ◌≤◌, max}
use native.Mathlib.Omega.{arith}
use lib.Dec.{ltb}
use lib.ListN.{replicate}
use borrow.Author.Tests.{le-leb, lt-ltb, le-ltb, ltb-false}
use Rattle.numbers.specs.Lists.{padded}
use Rattle.numbers.proofs.Bools.{ands, impossible}
use Rattle.stack.specs.Stack.{stack, in_window, stands, in_spread, channels_good, legal, sum, greatest_of, least_position, first_spread, not_later, TotalMet, LeastTotal, Placement}
use Rattle.std.specs.Prelude.{Ok, Err}
use Rattle.stack.specs.Value.{tracks_of, columns_of}
use Rattle.stack.specs.declared.Tracks.{Tracks}
use Rattle.text.specs.Text.{refusal, fine}
use Rattle.text.specs.Outcome.{refused}
use Rattle.text.specs.declared.Refusal.TheVariants.{Unmet}
use Rattle.text.specs.declared.Refused.{Refused}
use Rattle.text.proofs.Refusals.{when_fine, fine_number}
use Rattle.stack.specs.declared.Placement.{Placement as PlacementStruct}
use Rattle.reply.specs.Refusals.{narrow_refusal}
use Rattle.spread.specs.Answers.{total_told, TotalOr, PlacementOr}
use Rattle.spread.specs.Single.{one_strip}
use Rattle.spread.proofs.Totals.{totalled_fine}
use Rattle.spread.proofs.Placements.{placement_unmet, placement_made}

module _ (l s : ℕ) where
  pub no_separations : (ts xs : List ℕ) → legal (one_strip l) s ts xs ≡ true → ts ≡ []
  unfolding stack legal channels_good
  no_separations [] xs h = refl
  no_separations (t ∷ ts) xs h = let z : false ≡ true = search ands in impossible z

  pub only_zero : (v : ℕ) → TotalMet (one_strip l) s v → v ≡ 0
  unfolding sum
  only_zero v m = sym m.exact ∙ ap sum (no_separations m.separations m.positions m.is_legal)

  module _ (fits : l ≤ s) where
    legal_zero : legal (one_strip l) s [] (0 ∷ []) ≡ true
    unfolding stack legal channels_good in_spread stands in_window
    legal_zero = let e : 0 + l ≡ l = omega arith in rw (e, le-leb l s fits)

    pub least_zero : LeastTotal (one_strip l) s 0
    unfolding sum
    least_zero = record {
      met = record { separations = []; positions = 0 ∷ []; is_legal = legal_zero; exact = refl };
      least = λ us ys h. omega arith;
    }

    pub placement_zero : Placement (one_strip l) s 0 [] (0 ∷ [])
    unfolding sum not_later legal in_spread stack
    placement_zero = record { is_legal = legal_zero; exact = refl; first = λ us ys h e. refl; first_places = λ ys h. first_place ys h }
      where
        first_place : (ys : List ℕ) → legal (one_strip l) s [] ys ≡ true → not_later (0 ∷ []) ys ≡ true
        first_place [] h = impossible h
        first_place (zero ∷ ys) h = refl
        first_place (suc y ∷ ys) h = rw (lt-ltb 0 (suc y) (omega arith))

-- WHAT IS REFUSED of a spread: 7 below its length
pub narrow_one : (l s : ℕ) → narrow_refusal (one_strip l) s ≡ cond (ltb s l) (refusal 7 0 0) fine
unfolding narrow_refusal first_spread greatest_of least_position stack
narrow_one l s = let e : max (l + 0) 0 ≡ l = omega arith in rw e

pub wide_told : (l s : ℕ) → l ≤ s → fine ≡ narrow_refusal (one_strip l) s
wide_told l s h = rw (narrow_one l s, le-ltb s l h)

fits : (l s : ℕ) → fine ≡ narrow_refusal (one_strip l) s → l ≤ s
fits l s q =
    let f : (cond (ltb s l) (refusal 7 0 0) fine).number ≡ 0 = rw (narrow_one l s) at (fine_number (narrow_refusal (one_strip l) s) q) in
    ltb-false s l (when_fine (ltb s l) 6 0 0 fine f).0

module _ (l s : ℕ) (q : fine ≡ narrow_refusal (one_strip l) s) where
  -- THE TOTAL
  pub single_totalled : (t : Tracks) → t.0 ≡ 0 → TotalOr (narrow_refusal (one_strip l) s) (one_strip l) s (Ok t)
  unfolding total_told
  single_totalled t z =
      let f = narrow_refusal (one_strip l) s in totalled_fine f.number f (one_strip l) s 0 (Ok t) (fine_number f q) (least_zero l s (fits l s q)) (q, z)

  -- THE PLACEMENT
  module _ (v : ℕ) where
    pub single_unmet : (e : Refused) → (v ≡ 0 → ⊥) → e ≡ refused Unmet 0 0 → PlacementOr (narrow_refusal (one_strip l) s) (one_strip l) s v (Err e)
    single_unmet e n u = placement_unmet (narrow_refusal (one_strip l) s) (one_strip l) s v e q u (λ m. n (only_zero l s v m))

    pub single_placed : (p : PlacementStruct) → v ≡ 0 → p.total.0 ≡ v → tracks_of p.separations ≡ replicate 8 0 → columns_of p.positions ≡ replicate 9 0 →
        PlacementOr (narrow_refusal (one_strip l) s) (one_strip l) s v (Ok p)
    unfolding padded
    single_placed p e t ss ps =
        placement_made (narrow_refusal (one_strip l) s) (one_strip l) s v p [] (0 ∷ []) q (rw e (placement_zero l s (fits l s q))) t ss ps
