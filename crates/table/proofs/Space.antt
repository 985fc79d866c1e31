-- A stated number of bytes, table_bytes, is enough for every table of a stack within the limits. A separation above the last one of use could be cut down to
-- that, so in an answer none is; a position is within the spread, and no row's spread is past the greatest one of use: so each row is within the limits of its
-- numbers. Each further row has a smaller total than the row before it; the first one's is at most 33 a channel above the sum of the floors, and no row's is below
-- that sum: so there are at most 265 rows, whatever the floors are. Assumes nothing.
use mathlib.Core.Path.{◌≡◌, refl}
use mathlib.Core.Bool.{true, ◌&&◌}
use mathlib.Core.Logic.{◌⊎◌, inl, inr}
use mathlib.Core.List.{List, [], ◌∷◌}
use Prim.Native.Nat.{ℕ, zero, suc, ◌+◌, ◌*◌, ◌≤◌, ◌<◌, min}
use native.Mathlib.Omega.{arith}
use lib.ListN.{length, get_or}
use borrow.Author.Tests.{leb-true}
use Rattle.numbers.proofs.Bools.{ands, and_both, impossible}
use Rattle.numbers.proofs.Orders.{le_or_lt}
use Rattle.stack.specs.Stack.{Channel, no_channel, channel_in, Stack, Row, row, feasible, in_spread, channels_good, legal, sum, total, Answer, Stays, RowsAfter, RowsAre}
use Rattle.stack.specs.Limits.{pairs_within, channel_within, within_limits}
use Rattle.stack.proofs.Placements.{legal_each, position_most}
use Rattle.stack.proofs.Within.{channel_in_limits, strips_count, channels_few}
use Rattle.answer.specs.Solve.{last_use}
use Rattle.answer.proofs.Alone.{legal_lengths}
use Rattle.rows.specs.Walk.{widest, rows_of}
use Rattle.rows.proofs.Floored.{floors_of, floors_first}
use Rattle.rows.proofs.Settled.{feasible_open, settled, widest_small, first_widest}
use Rattle.rows.proofs.Rows.{rows_are}
use Rattle.writing.specs.Output.{row_bytes, rows_most, table_bytes, RowLimited}
use Rattle.writing.specs.TableText.{table_text}
use Rattle.writing.proofs.Bounds.{table_below}

-- separations cut down to the last ones of use: they are good too, sum to no more, and to as much only if none was above
record Lowered (cs : List Channel) (ts xs : List ℕ) : Type 0 where
  pub us : List ℕ
  pub good : channels_good cs us xs ≡ true
  pub below : sum us ≤ sum ts
  pub tight : sum ts ≤ sum us → (i : ℕ) → i < length ts → get_or ts i 0 ≤ last_use (get_or cs i no_channel)

feasible_lowered : (c : Channel) (t x y : ℕ) → feasible c t x y ≡ true → feasible c (min t (last_use c)) x y ≡ true
feasible_lowered c t x y f = go (le_or_lt (last_use c) t)
  where
    go : (last_use c ≤ t) ⊎ (t < last_use c) → feasible c (min t (last_use c)) x y ≡ true
    go (inl h) = feasible_open c (min t (last_use c)) x y (omega arith) (omega arith)
    go (inr h) = let e : min t (last_use c) ≡ t = omega arith in rw e f

lowered : (cs : List Channel) (ts xs : List ℕ) → channels_good cs ts xs ≡ true → Lowered cs ts xs
unfolding channels_good sum
lowered [] [] xs g = record { us = []; good = refl; below = omega arith; tight = λ h i l. absurd (omega arith) }
lowered [] (t ∷ ts) xs g = impossible g
lowered (c ∷ cs) [] xs g = impossible g
lowered (c ∷ cs) (t ∷ ts) [] g = impossible g
lowered (c ∷ cs) (t ∷ ts) (x ∷ xs) g = go (lowered cs ts xs (search ands))
  where
    go : Lowered cs ts xs → Lowered (c ∷ cs) (t ∷ ts) (x ∷ xs)
    go r =
        record {
          us = min t (last_use c) ∷ r.us;
          good = and_both (feasible c (min t (last_use c)) x (get_or xs 0 0)) (channels_good cs r.us xs) (feasible_lowered c t x (get_or xs 0 0) (search ands)) r.good;
          below = omega (arith, r.below);
          tight = λ h i l. each i h l;
        }
      where
        each : (i : ℕ) → t + sum ts ≤ min t (last_use c) + sum r.us → i < suc (length ts) → get_or (t ∷ ts) i 0 ≤ last_use (get_or (c ∷ cs) i no_channel)
        each zero h l = omega (arith, r.below)
        each (suc i) h l = r.tight (omega arith) i (omega arith)

-- an answer's total is at most 33 a channel above the sum of the floors
sum_below : (cs : List Channel) (ts : List ℕ) → length ts ≡ length cs → ((i : ℕ) → i < length ts → get_or ts i 0 ≤ (get_or cs i no_channel).floor + 33) →
    sum ts ≤ sum (floors_of cs) + 33 * length ts
unfolding sum floors_of
sum_below [] [] e h = omega arith
sum_below [] (t ∷ ts) e h = absurd (omega arith)
sum_below (c ∷ cs) [] e h = omega arith
sum_below (c ∷ cs) (t ∷ ts) e h = omega (arith, h 0 (omega arith), sum_below cs ts (omega arith) (λ i l. h (suc i) (omega arith)))

sum_most : (ts : List ℕ) → ((i : ℕ) → i < length ts → get_or ts i 0 ≤ 64) → sum ts ≤ 64 * length ts
unfolding sum
sum_most [] h = omega arith
sum_most (t ∷ ts) h = omega (arith, h 0 (omega arith), sum_most ts (λ i l. h (suc i) (omega arith)))

-- and no legal one is below that sum
floors_below : (k : Stack) (s : ℕ) (ts xs : List ℕ) → legal k s ts xs ≡ true → sum (floors_of k.channels) ≤ sum ts
unfolding legal
floors_below k s ts xs e = (floors_first k.channels ts xs (search ands)).1

module _ (k : Stack) (good : within_limits k ≡ true) where
  channel_limited : (i : ℕ) → i < length k.channels → (length (channel_in k i).pairs ≤ 32) × ((channel_in k i).floor ≤ 64)
  unfolding within_limits channel_within pairs_within
  channel_limited i h =
      let w = channel_in_limits k.strips k.channels i (search ands) h in
      (leb-true (length (channel_in k i).pairs) 32 (search ands), leb-true (channel_in k i).floor 64 (search ands))

  module _ (s : ℕ) (ts xs : List ℕ) (a : Answer k s ts xs) where
    -- no separation of an answer is past the last one of use
    separations_of_use : (i : ℕ) → i < length ts → get_or ts i 0 ≤ last_use (channel_in k i)
    unfolding legal
    separations_of_use =
        let g : (in_spread s k.strips xs && channels_good k.channels ts xs) ≡ true = a.is_legal in
        let r = lowered k.channels ts xs (search ands) in
        r.tight (a.least r.us xs (and_both (in_spread s k.strips xs) (channels_good k.channels r.us xs) (search ands) r.good))

    in_channels : (i : ℕ) → i < length ts → i < length k.channels
    in_channels i l = omega (arith, legal_lengths k s ts xs a.is_legal)

    -- so none is above 64
    pub separations_small : (i : ℕ) → i < length ts → get_or ts i 0 ≤ 64
    separations_small i l = omega (arith, separations_of_use i l, channel_limited i (in_channels i l))

    total_above : sum ts ≤ sum (floors_of k.channels) + 33 * length k.channels
    total_above =
        let n = legal_lengths k s ts xs a.is_legal in
        rw n.0 at (sum_below k.channels ts n.0 (λ i l. omega (arith, separations_of_use i l, channel_limited i (in_channels i l))))

    -- NO TOTAL OF AN ANSWER is above 512
    pub total_small : sum ts ≤ 512
    total_small =
        let n = legal_lengths k s ts xs a.is_legal in
        omega (arith, sum_most ts separations_small, channels_few k good)

  -- a row up to the greatest spread of use is within the limits of its numbers
  row_limited : (r : Row) → r.spread ≤ widest k → Answer k r.spread r.separations r.positions → RowLimited r
  unfolding total
  row_limited r h a =
      let n = legal_each k r.spread r.separations r.positions a.is_legal in
      let wide = widest_small k good in
      record {
        channels = omega (arith, channels_few k good);
        strips = omega (arith, strips_count k good, channels_few k good);
        spread_below = omega arith;
        total_below = omega (arith, total_small r.spread r.separations r.positions a);
        separations_below = separations_small r.spread r.separations r.positions a;
        positions_below = λ i l. omega (arith, position_most r.spread k.strips k.channels r.separations r.positions n i l);
      }

  -- past the greatest spread of use nothing falls, so no row stands there
  next_within : (r q : Row) → r.spread ≤ widest k → total q < total r → Stays k r.spread q.spread (total r) → Answer k q.spread q.separations q.positions → q.spread ≤ widest k
  unfolding Stays total
  next_within r q h f st a = go (le_or_lt q.spread (widest k))
    where
      go : (q.spread ≤ widest k) ⊎ (widest k < q.spread) → q.spread ≤ widest k
      go (inl m) = m
      go (inr m) =
          let z = settled k q.spread q.separations q.positions good a.is_legal in
          absurd (omega (arith, st (widest k) q.separations z.0 h m z.1))

  -- each further row has a smaller total, and none is below the sum of the floors
  rows_few : (r : Row) (qs : List Row) → Answer k r.spread r.separations r.positions → RowsAfter k r qs → sum (floors_of k.channels) + length qs ≤ total r
  unfolding RowsAfter total
  rows_few r [] first a = omega (arith, floors_below k r.spread r.separations r.positions first.is_legal)
  rows_few r (q ∷ qs) first a = omega (arith, a.1, rows_few q qs a.3 a.4)

  rows_limited : (r : Row) (qs : List Row) → r.spread ≤ widest k → RowsAfter k r qs → (i : ℕ) → i < length qs → RowLimited (get_or qs i (row 0 [] []))
  unfolding RowsAfter
  rows_limited r [] h a i l = absurd (omega arith)
  rows_limited r (q ∷ qs) h a zero l = row_limited q (next_within r q h a.1 a.2 a.3) a.3
  rows_limited r (q ∷ qs) h a (suc i) l = rows_limited q qs (next_within r q h a.1 a.2 a.3) a.4 i (omega arith)

  -- ENOUGH for the table of any list of the stack's rows
  pub rows_space : (rs : List Row) → RowsAre k rs → length (table_text (length k.channels) rs) ≤ table_bytes
  unfolding RowsAre table_bytes row_bytes rows_most total
  rows_space [] a = absurd a
  rows_space (r ∷ qs) a =
      let most = total_above r.spread r.separations r.positions a.1 in
      omega (arith, table_below (length k.channels) (r ∷ qs) (omega (arith, channels_few k good)) (λ i l. each i l), rows_few r qs a.1 a.2, channels_few k good)
    where
      near : r.spread ≤ widest k
      near = omega (arith, a.0, first_widest k good)

      first : RowLimited r
      first = row_limited r near a.1

      each : (i : ℕ) → i < suc (length qs) → RowLimited (get_or (r ∷ qs) i (row 0 [] []))
      each zero l = first
      each (suc i) l = rows_limited r qs near a.2 i (omega arith)

  -- and so for the rows that the walk finds
  pub table_space : length (table_text (length k.channels) (rows_of k)) ≤ table_bytes
  table_space = rows_space (rows_of k) (rows_are k good)
