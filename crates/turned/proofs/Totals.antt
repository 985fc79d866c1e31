-- Where each legal placement of one stack gives one of another in the same spread and with the same total, and the other way round, their least totals are the
-- same; then, with the same first spread, their tables have rows at the same spreads with the same totals. Assumes nothing.
use mathlib.Core.Path.{◌≡◌, refl, sym, ap, ◌∙◌}
use mathlib.Core.Bool.{true}
use mathlib.Core.List.{List, [], ◌∷◌}
use mathlib.Core.Logic.{◌⊎◌, inl, inr}
use Prim.Native.Nat.{ℕ, ◌≤◌, ◌<◌}
use native.Mathlib.Omega.{arith}
use Rattle.numbers.proofs.Orders.{le_or_lt}
use Rattle.stack.specs.Stack.{Stack, legal, sum, first_spread, TotalMet, LeastTotal, Answer, Row, total, Stays, StaysOn, RowsAfter, RowsAre}
use Rattle.stack.proofs.Placements.{answer_total_is, total_alone}
use Rattle.turned.specs.Turned.{SameTotals, spreads_and_totals, SameRows}

unfoldable pub Carried : (k h : Stack) → Type 0
Carried k h = (s : ℕ) (ts xs : List ℕ) → legal k s ts xs ≡ true → TotalMet h s (sum ts)

carried_least : (k h : Stack) → Carried k h → Carried h k → (s v : ℕ) → LeastTotal k s v → LeastTotal h s v
unfolding Carried
carried_least k h f g s v m = record {
  met = rw m.met.exact at (f s m.met.separations m.met.positions m.met.is_legal);
  least = λ us ys e.
      let b = g s us ys e in
      omega (arith, m.least b.separations b.positions b.is_legal, b.exact);
}

pub carried_same : (k h : Stack) → Carried k h → Carried h k → SameTotals k h
unfolding SameTotals
carried_same k h f g s v = (carried_least k h f g s v, carried_least h k g f s v)

same_back : (k h : Stack) → SameTotals k h → SameTotals h k
unfolding SameTotals
same_back k h e s v = ((e s v).1, (e s v).0)

-- THE ROWS: where the total of one table falls that of the other does, and to the same
row_least : (k : Stack) (r : Row) → Answer k r.spread r.separations r.positions → LeastTotal k r.spread (total r)
unfolding total
row_least k r a = answer_total_is k r.spread r.separations r.positions a

row_there : (k h : Stack) → SameTotals k h → (r : Row) → Answer k r.spread r.separations r.positions → LeastTotal h r.spread (total r)
unfolding SameTotals
row_there k h e r a = (e r.spread (total r)).0 (row_least k r a)

not_below : (k h : Stack) → SameTotals k h → (v : ℕ) (r : Row) → Answer k r.spread r.separations r.positions
    → ((us ys : List ℕ) → legal h r.spread us ys ≡ true → v ≤ sum us) → v ≤ total r
not_below k h e v r a f =
    let m = (row_there k h e r a).met in
    omega (arith, f m.separations m.positions m.is_legal, m.exact)

one_total : (k h : Stack) → SameTotals k h → (r q : Row) → r.spread ≡ q.spread → Answer k r.spread r.separations r.positions
    → Answer h q.spread q.separations q.positions → total r ≡ total q
unfolding total
one_total k h e r q s a b = total_alone h q.spread (total r) (total q) (rw s at (row_there k h e r a)) (row_least h q b)

rows_after : (k h : Stack) → SameTotals k h → (r q : Row) (rs qs : List Row) → r.spread ≡ q.spread → total r ≡ total q → RowsAfter k r rs → RowsAfter h q qs → spreads_and_totals rs ≡ spreads_and_totals qs
unfolding RowsAfter Stays StaysOn spreads_and_totals
rows_after k h e r q [] [] f g a b = refl
rows_after k h e r q [] (y ∷ qs) f g a b =
    let low = not_below h k (same_back k h e) (total r) y b.3 (λ us ys l. a y.spread us ys (omega (arith, b.0)) l) in
    absurd (omega (arith, b.1))
rows_after k h e r q (x ∷ rs) [] f g a b =
    let low = not_below k h e (total q) x a.3 (λ us ys l. b x.spread us ys (omega (arith, a.0)) l) in
    absurd (omega (arith, a.1))
rows_after k h e r q (x ∷ rs) (y ∷ qs) f g a b =
    rw (totals, spreads) (ap (λ (zs : List (ℕ × ℕ)). (y.spread, total y) ∷ zs) (rows_after k h e x y rs qs spreads totals a.4 b.4))
  where
    spreads : x.spread ≡ y.spread
    spreads = go (le_or_lt x.spread y.spread) (le_or_lt y.spread x.spread)
      where
        go : (x.spread ≤ y.spread) ⊎ (y.spread < x.spread) → (y.spread ≤ x.spread) ⊎ (x.spread < y.spread) → x.spread ≡ y.spread
        go (inl m) (inl n) = omega arith
        go (inr m) n =
            let low = not_below h k (same_back k h e) (total r) y b.3 (λ us ys l. a.2 y.spread us ys (omega (arith, b.0)) m l) in
            absurd (omega (arith, b.1))
        go (inl m) (inr n) =
            let low = not_below k h e (total q) x a.3 (λ us ys l. b.2 x.spread us ys (omega (arith, a.0)) n l) in
            absurd (omega (arith, a.1))

    totals : total x ≡ total y
    totals = one_total k h e x y spreads a.3 b.3

pub same_rows : (k h : Stack) → first_spread k.strips ≡ first_spread h.strips → SameTotals k h → SameRows k h
unfolding SameRows RowsAre spreads_and_totals
same_rows k h first e [] qs a b = absurd a
same_rows k h first e (r ∷ rs) [] a b = absurd b
same_rows k h first e (r ∷ rs) (q ∷ qs) a b =
    let spreads = a.0 ∙ (first ∙ sym b.0) in
    let totals = one_total k h e r q spreads a.1 b.1 in
    rw (totals, spreads) (ap (λ (zs : List (ℕ × ℕ)). (q.spread, total q) ∷ zs) (rows_after k h e r q rs qs spreads totals a.2 b.2))
