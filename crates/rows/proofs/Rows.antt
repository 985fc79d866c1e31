-- The rows that the walk finds are Stack.antt's rows, and there is only one list of rows. The walk goes on to the greatest spread of use, past which
-- nothing falls. Assumes nothing.
use mathlib.Core.Path.{◌≡◌, refl, sym, ap, ◌∙◌}
use mathlib.Core.Bool.{Bool, true, false, cond}
use mathlib.Core.Logic.{◌⊎◌, inl, inr}
use mathlib.Core.List.{List, [], ◌∷◌}
use Prim.Native.Nat.{ℕ, zero, suc, ◌+◌, ◌-◌, ◌≤◌, ◌<◌}
use native.Mathlib.Omega.{arith}
use lib.Dec.{ltb}
use borrow.Author.Tests.{ltb-true, ltb-false}
use Rattle.numbers.proofs.Orders.{le_or_lt, lt_or_eq}
use Rattle.stack.specs.Stack.{Stack, Row, row, sum, first_spread, legal, total, Answer, Stays, StaysOn, RowsAfter, RowsAre}
use Rattle.stack.specs.Limits.{within_limits}
use Rattle.answer.specs.Solve.{answer_total}
use Rattle.answer.proofs.Alone.{answer_alone}
use Rattle.answer.proofs.Answers.{answer_there, answer_sum}
use Rattle.rows.specs.Walk.{row_at, rows_walk, widest, rows_of}
use Rattle.rows.proofs.Settled.{legal_wider, settled}

module _ (k : Stack) (good : within_limits k ≡ true) where
  -- no legal placement has a smaller total than the answer
  total_least : (s : ℕ) → first_spread k.strips ≤ s → (us ys : List ℕ) → legal k s us ys ≡ true → answer_total k s ≤ sum us
  total_least s h us ys l = omega (arith, answer_sum k s good h, (answer_there k s good h).least us ys l)

  -- nothing falls at one spread more
  stays_more : (a b v : ℕ) → first_spread k.strips ≤ b → v ≤ answer_total k b → Stays k a b v → Stays k a (suc b) v
  unfolding Stays
  stays_more a b v h t st s us ys i j l = go (lt_or_eq s b (omega arith))
    where
      go : (s < b) ⊎ (s ≡ b) → v ≤ sum us
      go (inl m) = st s us ys i m l
      go (inr e) = omega (arith, total_least b h us ys (rw e at l))

  stays_at : (s : ℕ) → first_spread k.strips ≤ s → Stays k s (suc s) (answer_total k s)
  unfolding Stays
  stays_at s h r us ys i j l = let e : r ≡ s = omega arith in total_least s h us ys (rw e at l)

  -- from the greatest spread of use on it is enough to have looked there
  stays_on : (a s v : ℕ) → a ≤ s → widest k ≤ s → Stays k a (suc s) v → StaysOn k a v
  unfolding Stays StaysOn
  stays_on a s v h w st r us ys i l = go (le_or_lt r s)
    where
      go : (r ≤ s) ⊎ (s < r) → v ≤ sum us
      go (inl m) = st r us ys i (omega arith) l
      go (inr m) =
          let z = settled k r us ys good l in
          st s us z.0 h (omega arith) (legal_wider k (widest k) s us z.0 w z.1)

  total_at : (s : ℕ) → first_spread k.strips ≤ s → total (row_at k s) ≡ answer_total k s
  unfolding total row_at row
  total_at s h = answer_sum k s good h

  walk_rows : (n s : ℕ) (r : Row) (v : ℕ) → total r ≡ v → first_spread k.strips ≤ s → r.spread ≤ s → widest k ≤ s + n → Stays k r.spread (suc s) v →
      RowsAfter k r (rows_walk k n (suc s) v)
  unfolding RowsAfter rows_walk row_at row
  walk_rows zero s r v e h i w st = rw e (stays_on r.spread s v i (omega arith) st)
  walk_rows (suc n) s r v e h i w st = go (ltb (answer_total k (suc s)) v) refl (walk_rows n (suc s))
    where
      go : (b : Bool) → ltb (answer_total k (suc s)) v ≡ b
          → ((q : Row) (u : ℕ) → total q ≡ u → first_spread k.strips ≤ suc s → q.spread ≤ suc s → widest k ≤ suc s + n → Stays k q.spread (suc (suc s)) u → RowsAfter k q (rows_walk k n (suc (suc s)) u))
          → RowsAfter k r (cond b (row_at k (suc s) ∷ rows_walk k n (suc (suc s)) (answer_total k (suc s))) (rows_walk k n (suc (suc s)) v))
      go true f rest = (
        omega arith,
        omega (arith, total_at (suc s) (omega arith), ltb-true),
        rw e st,
        answer_there k (suc s) good (omega arith),
        rest (row_at k (suc s)) (answer_total k (suc s)) (total_at (suc s) (omega arith)) (omega arith) (omega arith) (omega arith) (stays_at (suc s) (omega arith)),
      )
      go false f rest = rest r v e (omega arith) (omega arith) (omega arith) (stays_more r.spread (suc s) v (omega arith) (ltb-false (answer_total k (suc s)) v f) st)

  -- THE ROWS ARE THERE
  pub rows_are : RowsAre k (rows_of k)
  unfolding RowsAre rows_of row_at row
  rows_are =
      let s = first_spread k.strips in (
        refl,
        answer_there k s good (omega arith),
        walk_rows (widest k - s) s (row_at k s) (answer_total k s) (total_at s (omega arith)) (omega arith) (omega arith) (omega arith) (stays_at s (omega arith)),
      )

-- rows with one spread and answers at it are one row
row_alone : (k : Stack) (q r : Row) → q.spread ≡ r.spread → Answer k q.spread q.separations q.positions → Answer k r.spread r.separations r.positions → q ≡ r
row_alone k q r e a b =
    let m = answer_alone k r.spread q.separations q.positions r.separations r.positions (rw e at a) b in
    ap₃ row_of e m.0 m.1
  where
    row_of : ℕ → List ℕ → List ℕ → Row
    row_of s ts xs = record { spread = s; separations = ts; positions = xs }

    ap₃ : (f : ℕ → List ℕ → List ℕ → Row) {s t : ℕ} {a b c d : List ℕ} → s ≡ t → a ≡ b → c ≡ d → f s a c ≡ f t b d
    ap₃ f e g h = rw (e, g, h)

-- of two lists of rows behind one row neither can have its next row before the other's
not_before : (k : Stack) (r q : Row) (b : ℕ) → Stays k r.spread b (total r) → r.spread ≤ q.spread → total q < total r → Answer k q.spread q.separations q.positions →
    b ≤ q.spread
unfolding Stays total
not_before k r q b st h t a = go (le_or_lt b q.spread)
  where
    go : (b ≤ q.spread) ⊎ (q.spread < b) → b ≤ q.spread
    go (inl m) = m
    go (inr m) = absurd (omega (arith, st q.spread q.separations q.positions h m a.is_legal))

after_alone : (k : Stack) (r : Row) (qs rs : List Row) → RowsAfter k r qs → RowsAfter k r rs → qs ≡ rs
unfolding RowsAfter StaysOn total
after_alone k r [] [] a b = refl
after_alone k r [] (p ∷ rs) a b = absurd (omega (arith, a p.spread p.separations p.positions (omega arith) b.3.is_legal))
after_alone k r (q ∷ qs) [] a b = absurd (omega (arith, b q.spread q.separations q.positions (omega arith) a.3.is_legal))
after_alone k r (q ∷ qs) (p ∷ rs) a b =
    let e : q.spread ≡ p.spread =
    omega (arith, not_before k r p q.spread a.2 (omega arith) b.1 b.3, not_before k r q p.spread b.2 (omega arith) a.1 a.3) in
    let same : q ≡ p = row_alone k q p e a.3 b.3 in
    rw same (ap (λ (l : List Row). p ∷ l) (after_alone k p qs rs (rw same at a.4) b.4))

-- ONLY ONE LIST OF ROWS
pub rows_alone : (k : Stack) (qs rs : List Row) → RowsAre k qs → RowsAre k rs → qs ≡ rs
unfolding RowsAre
rows_alone k [] rs a b = absurd a
rows_alone k (q ∷ qs) [] a b = absurd b
rows_alone k (q ∷ qs) (r ∷ rs) a b =
    let same : q ≡ r = row_alone k q r (a.0 ∙ sym b.0) a.1 b.1 in
    rw same (ap (λ (l : List Row). r ∷ l) (after_alone k r qs rs (rw same at a.2) b.2))
