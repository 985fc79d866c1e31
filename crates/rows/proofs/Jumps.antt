-- Between one event and the next the least total stays: in a spread wider by less than every lack nothing that was impossible becomes possible. Windows of the
-- wider spread end no further than their growing ends say. Assumes nothing.
use mathlib.Core.Path.{◌≡◌, refl}
use mathlib.Core.Bool.{Bool, true, false, cond}
use mathlib.Core.List.{List, [], ◌∷◌}
use Prim.Native.Nat.{ℕ, zero, suc, ◌+◌, ◌-◌, ◌≤◌, ◌<◌, min}
use native.Mathlib.Nat.{add-zero, zero-add}
use native.Mathlib.Omega.{arith}
use lib.Dec.{ltb}
use borrow.Author.Tests.{ltb-true, ltb-false, le-ltb}
use Rattle.numbers.proofs.Bools.{ands, impossible}
use Rattle.stack.specs.Stack.{Channel, Window, free, held, Strip, Stack, stack, first_spread}
use Rattle.stack.specs.Limits.{channels_within, within_limits}
use Rattle.spans.specs.Spans.{span}
use Rattle.spans.specs.Solver.{most}
use Rattle.spans.specs.Growth.{WindowGrows, Wider, Lows, NoneLacks}
use Rattle.spans.proofs.Growths.{total_stays}
use Rattle.answer.specs.Solve.{window_span, window, window_growth, growth, stack_levels, bottom, levels_of, total_with, answer_total, answer_separations, answer_positions}
use Rattle.answer.proofs.Legal.{Stand, channel_low, low_bounded}
use Rattle.answer.proofs.Answers.{all_stand, total_most, answer_there, answer_sum, total_any_bias}
use Rattle.rows.specs.Walk.{rows_walk}
use Rattle.rows.specs.Growths.{growths_of, bottom_growth, upper_growths}
use Rattle.rows.proofs.Settled.{legal_wider}

-- a window in a spread wider by d
window_grows : (b d far s n : ℕ) (w : Window) → n ≤ s → s + d < far → WindowGrows b d far (window_growth b s n w) (window_span s n w) (window_span (s + d) n w)
unfolding window_span window_growth
window_grows b d far s n free h k = omega arith
window_grows b d far s n (held a e) h k = go (ltb e (suc s - n)) refl
  where
    go : (r : Bool) → ltb e (suc s - n) ≡ r → WindowGrows b d far (cond r 0 (suc s - n + b)) (span a (min (suc e) (suc s - n))) (span a (min (suc e) (suc (s + d) - n)))
    go true i = let j = ltb-true e (suc s - n) i in omega arith
    go false i = let j = ltb-false e (suc s - n) i in omega arith

wider_in : (b d far s : ℕ) (l : Strip) (ls : List Strip) (cs : List Channel) → s + d < far → Stand s (l ∷ ls) → channels_within (l ∷ ls) cs ≡ true →
    Wider b d far (window s l) (window (s + d) l) (growth b s l) (stack_levels b s ls cs) (stack_levels b (s + d) ls cs) (growths_of b s ls)
unfolding Wider Stand stack_levels growths_of channels_within
wider_in b d far s l [] [] f k e = (window_grows b d far s l.length l.window k.0 f, k.1)
wider_in b d far s l [] (c ∷ cs) f k e = impossible e
wider_in b d far s l (u ∷ ls) [] f k e = impossible e
wider_in b d far s l (u ∷ ls) (c ∷ cs) f k e = (window_grows b d far s l.length l.window k.0 f, refl, wider_in b d far s u ls cs f k.2 (search ands))

lows_in : (b s : ℕ) (l : Strip) (ls : List Strip) (cs : List Channel) → s + 32 ≤ b → Stand s (l ∷ ls) → channels_within (l ∷ ls) cs ≡ true → Lows b (stack_levels b s ls cs)
unfolding Lows Stand stack_levels channels_within
lows_in b s l [] [] w k e = refl
lows_in b s l [] (c ∷ cs) w k e = impossible e
lows_in b s l (u ∷ ls) [] w k e = impossible e
lows_in b s l (u ∷ ls) (c ∷ cs) w k e =
    ((λ q. omega (arith, channel_low b c q, low_bounded b s l.length u.length q c w k.0 (search ands))), lows_in b s u ls cs w k.2 (search ands))

no_fall : (b s d v : ℕ) (ls : List Strip) (cs : List Channel) → s + d + 32 ≤ b → Stand s ls → channels_within ls cs ≡ true →
    NoneLacks b b d v (bottom (stack ls cs) s) (bottom_growth b (stack ls cs) s) (levels_of b (stack ls cs) s) (upper_growths b (stack ls cs) s) →
    total_with b (stack ls cs) s ≤ suc v → total_with b (stack ls cs) s ≤ most (levels_of b (stack ls cs) s) → total_with b (stack ls cs) s ≤ total_with b (stack ls cs) (s + d)
unfolding channels_within total_with bottom levels_of stack
no_fall b s d v [] cs wide k e n i m = impossible e
no_fall b s d v (l ∷ ls) cs wide k e n i m =
    total_stays b d b v (omega arith) (window s l) (window (s + d) l) (growth b s l) (stack_levels b s ls cs) (stack_levels b (s + d) ls cs) (growths_of b s ls)
    (wider_in b d b s l ls cs (omega arith) k e) (lows_in b s l ls cs (omega arith) k e) n i m

-- a spread counted from the next one
pub moved : (s i : ℕ) → suc s + i ≡ s + suc i
moved s i = omega arith

module _ (k : Stack) (good : within_limits k ≡ true) where
  -- the least total never rises with the spread
  pub total_never_rises : (s r : ℕ) → first_spread k.strips ≤ s → s ≤ r → answer_total k r ≤ answer_total k s
  total_never_rises s r h i =
      let a = answer_there k s good h in
      let c = answer_there k r good (omega arith) in
      omega (arith, answer_sum k s good h, answer_sum k r good (omega arith), c.least (answer_separations k s) (answer_positions k s) (legal_wider k s r (answer_separations k s) (answer_positions k s) i a.is_legal))

  -- IN A SPREAD WIDER BY LESS THAN EVERY LACK THE LEAST TOTAL STAYS
  pub jump_stays : (b s d v : ℕ) → s + d + 32 ≤ b → first_spread k.strips ≤ s → NoneLacks b b d v (bottom k s) (bottom_growth b k s) (levels_of b k s) (upper_growths b k s) →
      answer_total k s ≤ suc v → answer_total k (s + d) ≡ answer_total k s
  unfolding within_limits stack
  jump_stays b s d v wide h clear i =
      let here = total_any_bias k s good h b (omega arith) in
      let there = total_any_bias k (s + d) good (omega arith) b wide in
      omega (
        arith,
        total_never_rises s (s + d) h (omega arith),
        no_fall b s d v k.strips k.channels wide (all_stand b s (omega arith) k good h) (search ands) clear (omega arith) (total_most b s (omega arith) k good h),
      )

  -- spreads at which the total stays have no row
  pub walk_jumps : (n d s v : ℕ) → ((i : ℕ) → i < d → v ≤ answer_total k (s + i)) → rows_walk k (d + n) s v ≡ rows_walk k n (s + d) v
  unfolding rows_walk
  walk_jumps n zero s v h = rw (zero-add, add-zero)
  walk_jumps n (suc d) s v h =
      let e : suc d + n ≡ suc (d + n) = omega arith in
      let m : s + suc d ≡ suc s + d = omega arith in
      let here : v ≤ answer_total k s = rw add-zero at (h 0 (omega arith)) in
      let z : (i : ℕ) → i < d → v ≤ answer_total k (suc s + i) = λ i j. rw (moved s i) (h (suc i) (omega arith)) in
      rw (e, m, le-ltb (answer_total k s) v here) (walk_jumps n d (suc s) v z)
