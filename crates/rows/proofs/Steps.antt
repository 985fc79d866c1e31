-- What a scan says of the walk over the spreads: whether the least total falls at this spread, and until which spread it then stays. Assumes nothing.
use mathlib.Core.Path.{◌≡◌, ◌∙◌}
use mathlib.Core.Bool.{Bool, true}
use mathlib.Core.List.{List}
use Prim.Native.Nat.{ℕ, suc, ◌+◌, ◌≤◌, ◌<◌}
use native.Mathlib.Omega.{arith}
use lib.ListN.{length}
use Rattle.numbers.proofs.Orders.{le_or_lt}
use mathlib.Core.Logic.{◌⊎◌, inl, inr}
use Rattle.stack.specs.Stack.{Stack, first_spread}
use Rattle.spans.specs.Spans.{nonempty}
use Rattle.spans.specs.Solver.{most, back, first, first_total, least_total}
use Rattle.spans.specs.Growth.{NoneLacks}
use Rattle.arrays.specs.Arrays.{bias, window_of, levels, taken}
use Rattle.arrays.specs.declared.Given.{Given}
use Rattle.arrays.specs.declared.StripSpans.{StripSpans}
use Rattle.scan.specs.Scan.{ScanIs}
use Rattle.scan.specs.declared.Scan.{Scan}
use Rattle.spans.proofs.First.{first_upto, first_holds, first_least}
use Rattle.answer.specs.Solve.{bottom, levels_of, total_with, answer_total}
use Rattle.answer.proofs.Answers.{total_most, total_any_bias}
use Rattle.answer.proofs.Standing.{Stands, levels_are, bottom_is}
use Rattle.growth.specs.Growth.{NoneLess}
use Rattle.growth.proofs.Levels.{none_lacks}
use Rattle.rows.specs.Growths.{bottom_growth, upper_growths, GrowthsIn}
use Rattle.rows.proofs.Growths.{bottom_grown, upper_grown}
use Rattle.rows.proofs.Jumps.{jump_stays}

-- a search that is cut short finds the same, or has passed all that it looked at
module _ (f : ℕ → Bool) (cap all : ℕ) (h : cap ≤ all) where
  first_cut : first f 0 (suc cap) ≤ cap → first f 0 (suc cap) ≡ first f 0 (suc all)
  first_cut l =
      let at : f (first f 0 (suc cap)) ≡ true = first_holds f 0 (suc cap) (omega arith) in
      let below : first f 0 (suc all) ≤ first f 0 (suc cap) = first_least f 0 (suc all) (first f 0 (suc cap)) (omega arith) (omega arith) at in
      let there : f (first f 0 (suc all)) ≡ true = first_holds f 0 (suc all) (omega arith) in
      omega (arith, first_least f 0 (suc cap) (first f 0 (suc all)) (omega arith) (omega arith) there)

  first_past : first f 0 (suc all) ≤ all → cap < first f 0 (suc cap) → cap < first f 0 (suc all)
  first_past m l = go (le_or_lt (first f 0 (suc all)) cap)
    where
      go : (first f 0 (suc all) ≤ cap) ⊎ (cap < first f 0 (suc all)) → cap < first f 0 (suc all)
      go (inl i) = omega (arith, first_least f 0 (suc cap) (first f 0 (suc all)) (omega arith) (omega arith) (first_holds f 0 (suc all) (omega arith)))
      go (inr i) = i

module _ (k : Stack) (s : ℕ) (g : Given) (st : Stands k s g) (fits : s < 4294967296) (wide : first_spread k.strips ≤ s) (cap : ℕ) (t : List StripSpans) (r : Scan)
    (i : ScanIs g cap t r) where
  abbrev m : ℕ
  m = length k.channels

  total_here : least_total bias (window_of g 0) (levels g 0 g.channels) ≡ answer_total k s
  unfolding total_with
  total_here = rw (bottom_is k s g st, levels_are k s g st) (total_any_bias k s st.good wide bias (omega arith))

  total_use : least_total bias (window_of g 0) (levels g 0 g.channels) ≤ most (levels g 0 g.channels)
  unfolding total_with
  total_use = rw (bottom_is k s g st, levels_are k s g st) (total_most bias s (omega arith) k st.good wide)

  -- a total found is the least; if none is, the least is above the cap
  pub scan_finds : cap ≤ most (levels g 0 g.channels) → r.total ≤ cap → r.total ≡ answer_total k s
  unfolding first_total least_total
  scan_finds h l = i.total_is ∙ (first_cut (λ v. nonempty (back bias (window_of g 0) (levels g 0 g.channels) v)) cap (most (levels g 0 g.channels)) h (rw i.total_is at l) ∙ total_here)

  pub scan_passes : cap ≤ most (levels g 0 g.channels) → cap < r.total → cap < answer_total k s
  unfolding first_total least_total
  scan_passes h l =
      omega (arith, total_here, first_past (λ v. nonempty (back bias (window_of g 0) (levels g 0 g.channels) v)) cap (most (levels g 0 g.channels)) h total_use (rw i.total_is at l))

  -- UNTIL THE JUMP IS REACHED THE LEAST TOTAL STAYS
  pub scan_stays : (growths : List ℕ) (jump : ℕ) → GrowthsIn k (suc m) s growths → NoneLess g growths r.total 0 jump → (v : ℕ) → answer_total k s ≡ suc v → r.total ≡ suc v →
      (d : ℕ) → d < jump → s + d + 32 ≤ bias → answer_total k (s + d) ≡ suc v
  scan_stays hs jump w n v e t d j b =
      let upper : taken hs 1 g.channels ≡ upper_growths bias k s = rw st.counted (upper_grown k s st.good hs w) in
      let clear : NoneLacks bias bias d v (bottom k s) (bottom_growth bias k s) (levels_of bias k s) (upper_growths bias k s) =
      rw (bottom_is k s g st, levels_are k s g st, bottom_grown k s st.good hs w, upper) at (none_lacks g hs r.total jump d v n j (omega arith) 0 g.channels (omega arith)) in
      jump_stays k st.good bias s d v b wide clear (omega arith) ∙ e

  pub scan_most : r.total ≤ suc cap
  unfolding first_total
  scan_most = omega (arith, i.total_is, first_upto (λ v. nonempty (back bias (window_of g 0) (levels g 0 g.channels) v)) 0 (suc cap))
