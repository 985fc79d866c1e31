-- A placement is legal exactly if it is one of the solver's: each strip in its window, each offset between the channel's limits. By induction on the
-- strips. Assumes nothing.
use mathlib.Core.Path.{◌≡◌, refl, sym, ◌∙◌}
use mathlib.Core.Bool.{Bool, true, false, ◌&&◌}
use mathlib.Core.List.{List, [], ◌∷◌}
use mathlib.Core.Logic.{◌⊎◌, inl, inr}
use Prim.Native.Nat.{ℕ, zero, suc, ◌+◌, ◌*◌, ◌-◌, ◌≤◌, ◌<◌, min}
use native.Mathlib.Omega.{arith}
use lib.ListN.{length}
use borrow.Author.Tests.{leb-true, le-leb}
use Rattle.numbers.proofs.Bools.{ands, and_right, impossible}
use Rattle.numbers.proofs.Orders.{le_or_lt}
use Rattle.stack.specs.Stack.{Channel, Window, free, held, Strip, strip, feasible, in_window, stands, in_spread, channels_good, greatest_of, least_position, first_spread}
use Rattle.stack.specs.Limits.{pairs_within, channel_within, channels_within, window_within, strip_within, strips_within}
use Rattle.stack.proofs.OnStrips.{terminals_on}
use Rattle.stack.proofs.Placements.{stands_within}
use Rattle.limits.specs.Limits.{low_limit, low_term, low_floored, high_floored, FlooredBetween}
use Rattle.limits.proofs.Between.{Biased, greatest_at_most}
use Rattle.limits.proofs.Floors.{feasible_between, between_feasible, low_floored_widens, high_floored_widens, low_floored_open, high_floored_open, low_floored_bounded}
use Rattle.spans.specs.Spans.{In, Fits, last, low_at, high_at}
use Rattle.spans.specs.Placed.{Placed, alone, under, Widens, Widening, none, more}
use Rattle.arrays.specs.Arrays.{limits_from}
use Rattle.spans.proofs.Limits.{low_capped, high_capped}
use Rattle.arrays.proofs.Levels.{last_is, low_at_of, high_at_of}
use Rattle.answer.specs.Solve.{last_use, window_span, window, channel_limits, stack_levels}

-- past the last separation of use the limits are those at it
past : (b : ℕ) (c : Channel) (t : ℕ) → last_use c < t → min t (last (channel_limits b c)) ≡ last_use c
unfolding channel_limits
past b c t h = omega (arith, last_is (low_floored b c) (high_floored b c) (last_use c))

pub channel_low : (b : ℕ) (c : Channel) (t : ℕ) → low_at (channel_limits b c) t ≡ low_floored b c t
unfolding channel_limits
channel_low b c t = go (le_or_lt t (last_use c))
  where
    go : (t ≤ last_use c) ⊎ (last_use c < t) → low_at (limits_from (low_floored b c) (high_floored b c) 0 (suc (last_use c))) t ≡ low_floored b c t
    go (inl h) = low_at_of (low_floored b c) (high_floored b c) (last_use c) t h
    go (inr h) =
        sym (low_capped (channel_limits b c) t)
        ∙ rw (past b c t h, low_floored_open b c t (omega arith) (omega arith), low_at_of (low_floored b c) (high_floored b c) (last_use c) (last_use c) (omega arith))
        (low_floored_open b c (last_use c) (omega arith) (omega arith))

channel_high : (b : ℕ) (c : Channel) (t : ℕ) → high_at (channel_limits b c) t ≡ high_floored b c t
unfolding channel_limits
channel_high b c t = go (le_or_lt t (last_use c))
  where
    go : (t ≤ last_use c) ⊎ (last_use c < t) → high_at (limits_from (low_floored b c) (high_floored b c) 0 (suc (last_use c))) t ≡ high_floored b c t
    go (inl h) = high_at_of (low_floored b c) (high_floored b c) (last_use c) t h
    go (inr h) =
        sym (high_capped (channel_limits b c) t)
        ∙ rw (past b c t h, high_floored_open b c t (omega arith) (omega arith), high_at_of (low_floored b c) (high_floored b c) (last_use c) (last_use c) (omega arith))
        (high_floored_open b c (last_use c) (omega arith) (omega arith))

-- a lower limit is at most twice the bias
pairs_bounded : (b s l u t : ℕ) (c : Channel) → s + 32 ≤ b → l ≤ s → channel_within l u c ≡ true → low_limit b c.pairs t ≤ 2 * b
unfolding low_limit low_term channel_within pairs_within
pairs_bounded b s l u t c w h e =
    let few : length c.pairs ≤ 32 = leb-true (length c.pairs) 32 (search ands) in
    greatest_at_most b c.pairs t (length c.pairs - t) (2 * b) (λ i j. omega (arith, terminals_on l u c.pairs (search ands) i (omega arith)))

pub low_bounded : (b s l u t : ℕ) (c : Channel) → s + 32 ≤ b → l ≤ s → channel_within l u c ≡ true → low_floored b c t ≤ 2 * b
low_bounded b s l u t c w h e = low_floored_bounded b c t (pairs_bounded b s l u (t - 1) c w h e)

-- from the first spread on every strip can STAND somewhere: its window has a position, and it is no longer than the spread
unfoldable pub Stand : (s : ℕ) → List Strip → Type 0
Stand s [] = zero ≡ zero
Stand s (l ∷ ls) = (l.length ≤ s) × ((window s l).from < (window s l).upto) × Stand s ls

window_stands : (s n : ℕ) (w : Window) → window_within w ≡ true → n + least_position w ≤ s → (window_span s n w).from < (window_span s n w).upto
unfolding window_within least_position window_span
window_stands s n free e h = omega arith
window_stands s n (held a e) g h = let i : a ≤ e = leb-true a e (search ands) in omega arith

pub stand : (s : ℕ) (ls : List Strip) → strips_within ls ≡ true → first_spread ls ≤ s → Stand s ls
unfolding strips_within strip_within first_spread greatest_of Stand
stand s [] e h = refl
stand s (l ∷ ls) e h =
    let here : l.length + least_position l.window ≤ s = omega arith in
    (omega arith, window_stands s l.length l.window (search ands) here, stand s ls (search ands) (omega arith))

joined : (a i f g : Bool) → a ≡ true → f ≡ true → (i && g) ≡ true → ((a && i) && (f && g)) ≡ true
joined true i true g ha hf h = h
joined true i false g ha hf h = impossible hf
joined false i true g ha hf h = impossible ha
joined false i false g ha hf h = impossible ha

module _ (b s : ℕ) (wide : s + 32 ≤ b) where
  channel_widens : (l u : ℕ) (c : Channel) → l ≤ s → channel_within l u c ≡ true → Widens (channel_limits b c)
  unfolding channel_within pairs_within
  channel_widens l u c h e = record {
    lower = λ q n k. omega (arith, channel_low b c q, channel_low b c n, low_floored_widens b c (search ands) (λ t. pairs_bounded b s l u t c wide h e) q n k);
    higher = λ q n k. omega (arith, channel_high b c q, channel_high b c n, high_floored_widens b c (search ands) q n k);
  }

  biased : (l u x y : ℕ) (c : Channel) → channel_within l u c ≡ true → u ≤ s → x ≤ s → y ≤ s → Biased b c.pairs x y
  unfolding channel_within pairs_within
  biased l u x y c e hu hx hy =
      let few : length c.pairs ≤ 32 = leb-true (length c.pairs) 32 (search ands) in
      record { lower = omega arith; upper = omega arith; terminal = λ j h. omega (arith, (terminals_on l u c.pairs (search ands) j h).1) }

  -- one channel
  feasible_fits : (l u x y t : ℕ) (c : Channel) → channel_within l u c ≡ true → u ≤ s → x ≤ s → y ≤ s → feasible c t x y ≡ true →
      Fits b (low_at (channel_limits b c) t) (high_at (channel_limits b c) t) x y
  feasible_fits l u x y t c e hu hx hy f =
      let w : FlooredBetween b c t x y = feasible_between b c t x y (biased l u x y c e hu hx hy) f in
      omega (arith, channel_low b c t, channel_high b c t, w.left, w.right)

  fits_feasible : (l u x y t : ℕ) (c : Channel) → channel_within l u c ≡ true → u ≤ s → x ≤ s → y ≤ s →
      Fits b (low_at (channel_limits b c) t) (high_at (channel_limits b c) t) x y → feasible c t x y ≡ true
  fits_feasible l u x y t c e hu hx hy f =
      between_feasible b c t x y (biased l u x y c e hu hx hy) (omega arith) (omega (arith, channel_low b c t, channel_high b c t, f.left, f.right))

  -- a strip stands within the spread and inside its window exactly if its position is one of the solver's window
  window_holds : (n x : ℕ) (w : Window) → stands s (strip n w) x ≡ true → In (window_span s n w) x
  unfolding stands in_window window_span
  window_holds n x free e = let h : x + n ≤ s = leb-true (x + n) s (search ands) in omega arith
  window_holds n x (held a g) e =
      let h : x + n ≤ s = leb-true (x + n) s (search ands) in
      let i : a ≤ x = leb-true a x (search ands) in
      let j : x ≤ g = leb-true x g (search ands) in
      omega arith

  window_only : (n x : ℕ) (w : Window) → In (window_span s n w) x → stands s (strip n w) x ≡ true
  unfolding stands in_window window_span
  window_only n x free i = rw (le-leb (x + n) s (omega (arith, i.below)))
  window_only n x (held a g) i = rw (le-leb (x + n) s (omega (arith, i.below)), le-leb a x (omega (arith, i.above)), le-leb x g (omega (arith, i.below)))

  pub legal_placed : (l : Strip) (ls : List Strip) (cs : List Channel) (ts : List ℕ) (x : ℕ) (xs : List ℕ) → channels_within (l ∷ ls) cs ≡ true →
      in_spread s (l ∷ ls) (x ∷ xs) ≡ true → channels_good cs ts (x ∷ xs) ≡ true → Placed b (window s l) (stack_levels b s ls cs) ts x xs
  unfolding channels_within in_spread channels_good stack_levels
  legal_placed l [] [] [] x [] e i g = alone (window_holds l.length x l.window (search ands))
  legal_placed l [] [] [] x (y ∷ xs) e i g = impossible (and_right (stands s l x) false i)
  legal_placed l [] [] (t ∷ ts) x xs e i g = impossible g
  legal_placed l [] (c ∷ cs) ts x xs e i g = impossible e
  legal_placed l (u ∷ ls) [] ts x xs e i g = impossible e
  legal_placed l (u ∷ ls) (c ∷ cs) [] x xs e i g = impossible g
  legal_placed l (u ∷ ls) (c ∷ cs) (t ∷ ts) x [] e i g = impossible (and_right (stands s l x) false i)
  legal_placed l (u ∷ ls) (c ∷ cs) (t ∷ ts) x (y ∷ xs) e i g =
      let here : stands s l x ≡ true = search ands in
      let above : stands s u y ≡ true = search ands in
      let m = stands_within s l x here in
      let n = stands_within s u y above in
      under (window_holds l.length x l.window here) (feasible_fits l.length u.length x y t c (search ands) (omega arith) (omega arith) (omega arith) (search ands))
      (legal_placed u ls cs ts y xs (search ands) (search ands) (search ands))

  pub placed_legal : (l : Strip) (ls : List Strip) (cs : List Channel) (ts : List ℕ) (x : ℕ) (xs : List ℕ) → channels_within (l ∷ ls) cs ≡ true →
      Placed b (window s l) (stack_levels b s ls cs) ts x xs → (in_spread s (l ∷ ls) (x ∷ xs) && channels_good cs ts (x ∷ xs)) ≡ true
  unfolding channels_within in_spread channels_good stack_levels
  placed_legal l [] [] [] x [] e (alone i) = rw (window_only l.length x l.window i)
  placed_legal l [] (c ∷ cs) ts x xs e p = impossible e
  placed_legal l (u ∷ ls) [] ts x xs e p = impossible e
  placed_legal l (u ∷ ls) (c ∷ cs) (t ∷ ts) x (y ∷ xs) e (under i f r) =
      let here : stands s l x ≡ true = window_only l.length x l.window i in
      let rest = placed_legal u ls cs ts y xs (search ands) r in
      let above : stands s u y ≡ true = search ands in
      let m = stands_within s l x here in
      let n = stands_within s u y above in
      joined (stands s l x) (in_spread s (u ∷ ls) (y ∷ xs)) (feasible c t x y) (channels_good cs ts (y ∷ xs)) here
      (fits_feasible l.length u.length x y t c (search ands) (omega arith) (omega arith) (omega arith) f) rest
  placed_legal l [] [] [] x (y ∷ xs) e p = elim p [ ]
  placed_legal l [] [] (t ∷ ts) x xs e p = elim p [ ]
  placed_legal l (u ∷ ls) (c ∷ cs) [] x xs e p = elim p [ ]
  placed_legal l (u ∷ ls) (c ∷ cs) (t ∷ ts) x [] e p = elim p [ ]

  -- limits widen where terminals rise
  pub stack_widening : (l : Strip) (ls : List Strip) (cs : List Channel) → Stand s (l ∷ ls) → channels_within (l ∷ ls) cs ≡ true → Widening (stack_levels b s ls cs)
  unfolding channels_within stack_levels Stand
  stack_widening l [] [] h e = none
  stack_widening l [] (c ∷ cs) h e = impossible e
  stack_widening l (u ∷ ls) [] h e = impossible e
  stack_widening l (u ∷ ls) (c ∷ cs) h e = more (channel_widens l.length u.length c h.0 (search ands)) (stack_widening u ls cs h.2 (search ands))

  -- at the last separation of use every offset is within the limits
  pub channel_fits_open : (c : Channel) (x y : ℕ) → x ≤ s → y ≤ s → Fits b (low_at (channel_limits b c) (last_use c)) (high_at (channel_limits b c) (last_use c)) x y
  channel_fits_open c x y hx hy =
      omega (arith, channel_low b c (last_use c), channel_high b c (last_use c), low_floored_open b c (last_use c) (omega arith) (omega arith), high_floored_open b c (last_use c) (omega arith) (omega arith))
