-- How long the table's text is: a number below 10 ^ n and 2 ^ 64 has at most n digits (Digits.antt); a field is one byte more; the
-- first line has 8 bytes, a row within document 01's limits at most row_bytes, and a table of n such rows at most 8 + row_bytes * n. Assumes nothing.
use mathlib.Core.Path.{◌≡◌}
use mathlib.Core.List.{List, [], ◌∷◌, ◌++◌, append_assoc}
use Prim.Native.Nat.{ℕ, suc, ◌+◌, ◌*◌, ◌^◌, ◌≤◌, ◌<◌}
use native.Mathlib.Nat.{mul-suc}
use native.Mathlib.Omega.{arith}
use lib.ListN.{length, get_or, length-append}
use borrow.Author.Tests.{lt-ltb}
use Rattle.stack.specs.Stack.{Row, row, total}
use Rattle.writing.specs.TableText.{digits_from, digits, tabbed, row_text, rows_text, table_text}
use Rattle.writing.specs.Output.{row_bytes, RowLimited}
use Rattle.writing.proofs.Digits.{digits_below, tabbed_one}
use Rattle.writing.proofs.Rows.{row_numbers}

-- numbers below 10 ^ n, each behind a tab
pub tabbed_below : (n : ℕ) (vs : List ℕ) → 1 ≤ n → ((i : ℕ) → i < length vs → (get_or vs i 0 < 10 ^ n) × (get_or vs i 0 < 2 ^ 64)) →
    length (tabbed vs) ≤ suc n * length vs
unfolding tabbed
tabbed_below n [] h k = omega arith
tabbed_below n (v ∷ vs) h k =
    let at = k 0 (omega arith) in
    let first = digits_below n v h at.0 at.1 in
    let rest = tabbed_below n vs h (λ i m. k (suc i) (omega arith)) in
    rw length-append (omega (arith, mul-suc (suc n) (length vs)))

-- the first line
pub head_length : (k : ℕ) → k ≤ 9 → length (table_text k []) ≡ 8
unfolding table_text tabbed rows_text digits digits_from
head_length k h = rw (lt-ltb k 10 (omega arith))

one_below : (n v : ℕ) → 1 ≤ n → v < 10 ^ n → v < 2 ^ 64 → length (tabbed (v ∷ [])) ≤ suc n
one_below n v h k fits = rw tabbed_one (omega (arith, digits_below n v h k fits))

joined_length : (a b c d e : List ℕ) → length ((a ++ (b ++ (c ++ d))) ++ e) ≡ length a + (length b + (length c + length d)) + length e
joined_length a b c d e = simp length-append

pub row_below : (r : Row) → RowLimited r → length (row_text r) ≤ row_bytes
unfolding row_text row_bytes
row_below r w =
    let spread = one_below 5 r.spread (omega arith) (omega (arith, w.spread_below)) (omega (arith, w.spread_below)) in
    let sum = one_below 3 (total r) (omega arith) (omega (arith, w.total_below)) (omega (arith, w.total_below)) in
    let ts = tabbed_below 2 r.separations (omega arith) (λ i h. (omega (arith, w.separations_below i h), omega (arith, w.separations_below i h))) in
    let xs = tabbed_below 5 r.positions (omega arith) (λ i h. (omega (arith, w.positions_below i h), omega (arith, w.positions_below i h))) in
    let numbers = row_numbers r.spread (total r) r.separations r.positions in
    let long = joined_length (tabbed (r.spread ∷ [])) (tabbed (total r ∷ [])) (tabbed r.separations) (tabbed r.positions) (10 ∷ []) in
    rw numbers (omega (arith, long, w.channels, w.strips))

-- so many such rows
pub rows_below : (rs : List Row) → ((i : ℕ) → i < length rs → RowLimited (get_or rs i (row 0 [] []))) → length (rows_text rs) ≤ row_bytes * length rs
unfolding rows_text row_bytes
rows_below [] h = omega arith
rows_below (r ∷ rs) h =
    let first = row_below r (h 0 (omega arith)) in
    let rest = rows_below rs (λ i k. h (suc i) (omega arith)) in
    rw length-append (omega arith)

-- a table's first line is the text of a table without rows
pub table_head : (k : ℕ) (rs : List Row) → table_text k rs ≡ table_text k [] ++ rows_text rs
unfolding table_text rows_text
table_head k rs = simp append_assoc

-- a table of them
pub table_below : (k : ℕ) (rs : List Row) → k ≤ 9 → ((i : ℕ) → i < length rs → RowLimited (get_or rs i (row 0 [] []))) → length (table_text k rs) ≤ 8 + row_bytes * length rs
table_below k rs h l = rw (table_head k rs, length-append) (omega (arith, head_length k h, rows_below rs l))
