-- Growing ends and lacks from what is given are those of the levels that it stands for. Assumes nothing.
use mathlib.Core.Path.{◌≡◌, refl, sym, ap, ap₂, ◌∙◌}
use mathlib.Core.List.{List}
use Prim.Native.Nat.{ℕ, zero, suc, ◌+◌, ◌-◌, ◌≤◌, ◌<◌}
use native.Mathlib.Omega.{arith}
use Rattle.spans.specs.Spans.{Limit, low_at, high_at}
use Rattle.spans.specs.declared.Span.{Span}
use Rattle.spans.specs.Solver.{first_open, most, start, stop, back}
use Rattle.spans.specs.Jump.{near_of, reach_of}
use Rattle.spans.specs.Growth.{growing, grow_of, cell_grow, both_lack, cell_lack, back_grow, Lows, Near, GrowBelow, AllGrow, NoneLacks}
use Rattle.spans.proofs.Growths.{lack_short, short_positive}
use Rattle.arrays.specs.Arrays.{bias, entry, low_of, high_of, last_of, window_of, limits_from, levels, taken, StackAsks}
use Rattle.arrays.specs.declared.Given.{Given}
use Rattle.arrays.proofs.Levels.{last_is, low_at_of, high_at_of, low_at_any, open_of, in_use}
use Rattle.scan.specs.Scan.{short_of}
use Rattle.scan.proofs.Scans.{nearest_same, furthest_same}
use Rattle.growth.specs.Growth.{growth_of, lack_of, NoneLess}
use Rattle.growth.proofs.Cells.{furthest_grow_same}

-- A CELL FROM THE ARRAYS, with the spans of the strip above in f and their growing ends in h
module _ (g : Given) (hs : List ℕ) (i n v : ℕ) (f : ℕ → Span) (h : ℕ → ℕ) (used : v ≤ last_of g i + most (levels g (suc i) n))
    (spans : (u : ℕ) → u ≤ v → u ≤ most (levels g (suc i) n) → f u ≡ back bias (window_of g (suc i)) (levels g (suc i) n) u)
    (grown : (u : ℕ) → u ≤ v → u ≤ most (levels g (suc i) n) → (f u).from < (f u).upto → h u ≡ growth_of g hs (suc i) n u) where
  abbrev last : ℕ
  last = last_of g i

  abbrev above : ℕ
  above = most (levels g (suc i) n)

  abbrev least : ℕ
  least = first_open (low_of g i) (high_of g i) last

  of_use : (j : ℕ) → start least last above v ≤ j → j < start least last above v + (stop last v - start least last above v) → (j ≤ last) × (j ≤ v) × (v - j ≤ above)
  of_use j k m = in_use least last above v j used k m

  abbrev limits : List Limit
  limits = limits_from (low_of g i) (high_of g i) 0 (suc last)

  abbrev f_back : ℕ → Span
  f_back u = back bias (window_of g (suc i)) (levels g (suc i) n) u

  abbrev h_back : ℕ → ℕ
  h_back u = growth_of g hs (suc i) n u

  near_same : near_of bias bias (high_of g i) least last above f v ≡ near_of bias bias (high_at limits) least last above f_back v
  near_same = nearest_same bias _ _ _ _ _ _ bias (λ j k m. let r = of_use j k m in (sym (high_at_of (low_of g i) (high_of g i) last j r.0), spans (v - j) (omega arith) r.2))

  reach_same : reach_of bias (low_of g i) least last above f v ≡ reach_of bias (low_at limits) least last above f_back v
  reach_same = furthest_same bias _ _ _ _ _ _ 0 (λ j k m. let r = of_use j k m in (sym (low_at_of (low_of g i) (high_of g i) last j r.0), spans (v - j) (omega arith) r.2))

  grow_same : grow_of bias (low_of g i) least last above f h v ≡ grow_of bias (low_at limits) least last above f_back h_back v
  grow_same =
      furthest_grow_same bias _ _ _ _ _ _ _ _ 0
      (λ j k m.
      let r = of_use j k m in
      let e = spans (v - j) (omega arith) r.2 in
      (sym (low_at_of (low_of g i) (high_of g i) last j r.0), e, λ l. grown (v - j) (omega arith) r.2 (rw e l)))

  pub grow_back : cell_grow bias (low_of g i) least last above f h (window_of g i) (entry hs i) v ≡ growth_of g hs i (suc n) v
  unfolding cell_grow back_grow levels taken
  grow_back =
      rw (last_is (low_of g i) (high_of g i) last, open_of (low_of g i) (high_of g i) last)
      (ap₂ (λ (r x : ℕ). growing ((window_of g i).upto + bias) r (entry hs i) x) reach_same grow_same)

  pub lack_back : cell_lack bias bias (low_of g i) (high_of g i) least last above f h (window_of g i) (entry hs i) v ≡ lack_of g hs i n v
  unfolding cell_lack
  lack_back =
      rw (last_is (low_of g i) (high_of g i) last, open_of (low_of g i) (high_of g i) last)
      (ap₂ (λ (m r : ℕ). both_lack bias (window_of g i) m r (entry hs i) (grow_of bias (low_of g i) least last above f h v)) near_same reach_same
      ∙ ap (both_lack bias (window_of g i) (near_of bias bias (high_at limits) least last above f_back v) (reach_of bias (low_at limits) least last above f_back v) (entry hs i)) grow_same)

-- WHAT THE LEVELS ARE ASKED, from what the arrays are
module _ (g : Given) (a : StackAsks g) where
  pub near_levels : (i n : ℕ) → i + n ≡ g.channels → Near bias (window_of g i) (levels g i n)
  unfolding Near levels
  near_levels i zero e = omega (arith, a.ends i (omega arith))
  near_levels i (suc n) e = (omega (arith, a.ends i (omega arith)), near_levels (suc i) n (omega arith))

  pub lows_levels : (i n : ℕ) → i + n ≡ g.channels → Lows bias (levels g i n)
  unfolding Lows levels
  lows_levels i zero e = refl
  lows_levels i (suc n) e =
      (λ q. rw (low_at_any (low_of g i) (high_of g i) (last_of g i) q) (a.lows i _ (omega arith) (omega arith)), lows_levels (suc i) n (omega arith))

module _ (g : Given) (hs : List ℕ) where
  pub below_levels : ((i : ℕ) → i ≤ g.channels → entry hs i ≤ (window_of g i).upto + bias) → (i n : ℕ) → i + n ≡ g.channels → GrowBelow bias (window_of g i) (entry hs i) (levels g i n) (taken hs (suc i) n)
  unfolding GrowBelow levels taken
  below_levels b i zero e = b i (omega arith)
  below_levels b i (suc n) e = (b i (omega arith), below_levels b (suc i) n (omega arith))

  pub all_levels : ((i : ℕ) → i ≤ g.channels → entry hs i ≡ (window_of g i).upto + bias) → (i n : ℕ) → i + n ≡ g.channels → AllGrow bias (window_of g i) (entry hs i) (levels g i n) (taken hs (suc i) n)
  unfolding AllGrow levels taken
  all_levels b i zero e = b i (omega arith)
  all_levels b i (suc n) e = (b i (omega arith), all_levels b (suc i) n (omega arith))

  -- A JUMP LESS THAN EVERY LACK
  pub none_lacks : (total jump d v : ℕ) → NoneLess g hs total 0 jump → d < jump → v < total → (i n : ℕ) → i + n ≡ g.channels →
      NoneLacks bias bias d v (window_of g i) (entry hs i) (levels g i n) (taken hs (suc i) n)
  unfolding NoneLacks levels taken
  none_lacks total jump d v s l m i zero e = refl
  none_lacks total jump d v s l m i (suc n) e =
      (λ u o p q. omega (arith, s i n u (omega arith) e (omega arith) p q), none_lacks total jump d v s l m (suc i) n (omega arith))

  -- WHERE EVERY WINDOW'S END GROWS what is less than every shortfall is less than every lack
  pub scan_none_less : (total jump : ℕ) → StackAsks g → ((i : ℕ) → i ≤ g.channels → entry hs i ≡ (window_of g i).upto + bias) →
      ((j n u : ℕ) → j + suc n ≡ g.channels → u < total → u ≤ most (levels g j (suc n)) → 0 < short_of g j n u → jump ≤ short_of g j n u) → NoneLess g hs total 0 jump
  unfolding levels taken
  scan_none_less total jump a b s j n u i e l m f = rw lack (s j n u e l m short)
    where
      lack : lack_of g hs j n u ≡ short_of g j n u
      lack = lack_short bias bias _ _ _ _ _ _ (near_levels g a j (suc n) e) (lows_levels g a j (suc n) e) (all_levels b j (suc n) e) u

      short : 0 < short_of g j n u
      short = short_positive bias bias _ _ _ _ _ _ (near_levels g a j (suc n) e) (lows_levels g a j (suc n) e) (all_levels b j (suc n) e) u f
