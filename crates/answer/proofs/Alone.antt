-- One placement for a total, and the answer is the least total and its placement. Assumes nothing.
use mathlib.Core.Path.{◌≡◌, refl, sym, ◌∙◌}
use mathlib.Core.Bool.{true}
use mathlib.Core.List.{List, [], ◌∷◌}
use Prim.Native.Nat.{ℕ, ◌+◌, ◌≤◌}
use native.Mathlib.Omega.{arith}
use lib.ListN.{length}
use borrow.Author.Tests.{leb-true}
use Rattle.numbers.proofs.Bools.{ands, impossible}
use Rattle.stack.specs.Stack.{Window, free, held, Strip, strip, Stack, in_window, stands, in_spread, legal, sum, greatest_of, least_position, first_spread, TotalMet, LeastTotal, Placement, Answer}
use Rattle.stack.proofs.Placements.{legal_each, answer_total_is, total_alone}
use Rattle.spans.proofs.Order.{not_later_both}

-- a legal placement has a separation for each channel and a position for each strip
pub legal_lengths : (k : Stack) (s : ℕ) (ts xs : List ℕ) → legal k s ts xs ≡ true → (length ts ≡ length k.channels) × (length xs ≡ length k.strips)
legal_lengths k s ts xs e = let p = legal_each k s ts xs e in (p.separations, p.positions)

-- and it is in a spread from the first one on: each strip takes its length from its least position or from further right
strip_reach : (s n x : ℕ) (w : Window) → stands s (strip n w) x ≡ true → n + least_position w ≤ s
unfolding stands in_window least_position
strip_reach s n x free i = let h : x + n ≤ s = leb-true (x + n) s (search ands) in omega arith
strip_reach s n x (held a e) i =
    let h : x + n ≤ s = leb-true (x + n) s (search ands) in
    let j : a ≤ x = leb-true a x (search ands) in
    omega arith

spread_wide : (s : ℕ) (ls : List Strip) (xs : List ℕ) → in_spread s ls xs ≡ true → first_spread ls ≤ s
unfolding in_spread first_spread greatest_of
spread_wide s [] [] i = omega arith
spread_wide s [] (x ∷ xs) i = impossible i
spread_wide s (l ∷ ls) [] i = impossible i
spread_wide s (l ∷ ls) (x ∷ xs) i = omega (arith, strip_reach s l.length x l.window (search ands), spread_wide s ls xs (search ands))

module _ (k : Stack) (s : ℕ) where
  pub legal_wide : (ts xs : List ℕ) → legal k s ts xs ≡ true → first_spread k.strips ≤ s
  unfolding legal
  legal_wide ts xs e = spread_wide s k.strips xs (search ands)

  -- AT MOST ONE PLACEMENT FOR A TOTAL
  pub placement_alone : (v : ℕ) (ts xs us ys : List ℕ) → Placement k s v ts xs → Placement k s v us ys → (ts ≡ us) × (xs ≡ ys)
  placement_alone v ts xs us ys a b =
      let m = legal_lengths k s ts xs a.is_legal in
      let n = legal_lengths k s us ys b.is_legal in
      let same : ts ≡ us = not_later_both ts us (omega arith) (a.first us ys b.is_legal b.exact) (b.first ts xs a.is_legal a.exact) in
      (same, not_later_both xs ys (omega arith) (a.first_places ys (rw (← same) at b.is_legal)) (b.first_places xs (rw same at a.is_legal)))

  -- a total that has a placement is met
  pub placement_met : (v : ℕ) (ts xs : List ℕ) → Placement k s v ts xs → TotalMet k s v
  placement_met v ts xs p = record { separations = ts; positions = xs; is_legal = p.is_legal; exact = p.exact }

  -- THE ANSWER IS BOTH TOGETHER
  pub both_answer : (v : ℕ) (ts xs : List ℕ) → LeastTotal k s v → Placement k s v ts xs → Answer k s ts xs
  both_answer v ts xs l p =
      record {
        is_legal = p.is_legal;
        least = λ us ys h. omega (arith, p.exact, l.least us ys h);
        first = λ us ys h e. p.first us ys h (e ∙ p.exact);
        first_places = p.first_places;
      }

  pub answer_placed : (v : ℕ) (ts xs : List ℕ) → Answer k s ts xs → sum ts ≡ v → Placement k s v ts xs
  answer_placed v ts xs a e =
      record { is_legal = a.is_legal; exact = e; first = λ us ys h q. a.first us ys h (q ∙ sym e); first_places = a.first_places }

  -- AT MOST ONE ANSWER
  pub answer_alone : (ts xs us ys : List ℕ) → Answer k s ts xs → Answer k s us ys → (ts ≡ us) × (xs ≡ ys)
  answer_alone ts xs us ys a b =
      let e = total_alone k s (sum ts) (sum us) (answer_total_is k s ts xs a) (answer_total_is k s us ys b) in
      placement_alone (sum us) ts xs us ys (answer_placed (sum us) ts xs a e) (answer_placed (sum us) us ys b refl)
