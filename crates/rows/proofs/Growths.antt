-- The growing ends that the code puts into an array are those of the stack's windows; where none of them is 0 every window's end grows. Assumes nothing.
use mathlib.Core.Path.{◌≡◌, refl, ap₂}
use mathlib.Core.Bool.{Bool, true, false, cond}
use mathlib.Core.List.{List, [], ◌∷◌}
use Prim.Native.Nat.{ℕ, zero, suc, ◌+◌, ◌-◌, ◌≤◌, ◌<◌, min}
use native.Mathlib.Omega.{arith}
use lib.Dec.{ltb}
use lib.ListN.{length, get_or, drop, drop_of_length-le}
use lib.Seq.{drop-cons}
use borrow.Author.Tests.{ltb-false}
use Rattle.stack.specs.Stack.{strip_in, Window, free, held, Strip, no_strip, Stack}
use Rattle.stack.specs.Limits.{within_limits}
use Rattle.stack.proofs.Within.{strips_count}
use Rattle.arrays.specs.Arrays.{bias, entry, window_of, taken}
use Rattle.arrays.specs.declared.Given.{Given}
use Rattle.answer.specs.Solve.{window_span, window_growth, growth}
use Rattle.answer.specs.Arrays.{WindowsIn, BelowGrowths}
use Rattle.rows.specs.Growths.{growths_of, bottom_growth, upper_growths, GrowthsIn}

-- without an array: the list of them
pub growths_listed : (b s : ℕ) (ls : List Strip) (i : ℕ) → i < length ls → entry (growths_of b s ls) i ≡ growth b s (get_or ls i no_strip)
unfolding growths_of
growths_listed b s [] i h = absurd (omega arith)
growths_listed b s (l ∷ ls) zero h = refl
growths_listed b s (l ∷ ls) (suc i) h = growths_listed b s ls i (omega arith)

module _ (k : Stack) (s : ℕ) (good : within_limits k ≡ true) (hs : List ℕ) (w : GrowthsIn k (suc (length k.channels)) s hs) where
  abbrev m : ℕ
  m = length k.channels

  taken_from : (i n : ℕ) → i + n ≡ m → taken hs (suc i) n ≡ growths_of bias s (drop (suc i) k.strips)
  unfolding taken growths_of
  taken_from i zero e =
      let none : drop (suc i) k.strips ≡ [] = drop_of_length-le k.strips {i = suc i} (omega (arith, strips_count k good)) in
      rw none
  taken_from i (suc n) e =
      rw (drop-cons k.strips (suc i) no_strip (omega (arith, strips_count k good))) (ap₂ ◌∷◌ (w (suc i) (omega arith)) (taken_from (suc i) n (omega arith)))

  pub upper_grown : taken hs 1 m ≡ upper_growths bias k s
  upper_grown = taken_from 0 m (omega arith)

  pub bottom_grown : entry hs 0 ≡ bottom_growth bias k s
  bottom_grown = w 0 (omega arith)

-- no growing end is beyond its window's end; it is that end where it is not 0
growth_below : (b s n : ℕ) (w : Window) → window_growth b s n w ≤ (window_span s n w).upto + b
unfolding window_growth window_span
growth_below b s n free = omega arith
growth_below b s n (held a e) = go (ltb e (suc s - n)) refl
  where
    go : (r : Bool) → ltb e (suc s - n) ≡ r → cond r 0 (suc s - n + b) ≤ min (suc e) (suc s - n) + b
    go true i = omega arith
    go false i = omega (arith, ltb-false e (suc s - n) i)

growth_whole : (b s n : ℕ) (w : Window) → 0 < window_growth b s n w → window_growth b s n w ≡ (window_span s n w).upto + b
unfolding window_growth window_span
growth_whole b s n free h = refl
growth_whole b s n (held a e) h = go (ltb e (suc s - n)) refl h
  where
    go : (r : Bool) → ltb e (suc s - n) ≡ r → 0 < cond r 0 (suc s - n + b) → cond r 0 (suc s - n + b) ≡ min (suc e) (suc s - n) + b
    go true i j = absurd (omega arith)
    go false i j = omega (arith, ltb-false e (suc s - n) i)

module _ (k : Stack) (n s : ℕ) (g : Given) (hs : List ℕ) (v : WindowsIn k n s g.windows) (w : GrowthsIn k n s hs) where
  pub growths_below : (i : ℕ) → i < n → entry hs i ≤ (window_of g i).upto + bias
  growths_below i h = rw (w i h, v.windows_are i h) (growth_below bias s (strip_in k i).length (strip_in k i).window)

  pub growths_whole : (least : ℕ) → 0 < least → BelowGrowths k n s least → (i : ℕ) → i < n → entry hs i ≡ (window_of g i).upto + bias
  growths_whole least p b i h =
      rw (w i h, v.windows_are i h) (growth_whole bias s (strip_in k i).length (strip_in k i).window (omega (arith, b i h)))
