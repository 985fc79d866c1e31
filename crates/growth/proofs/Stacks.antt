-- The laws of the loop over strips: growing ends and lacks from the arrays, from the top strip down. Assumes nothing.
use mathlib.Core.Path.{◌≡◌, refl, sym, ap, ◌∙◌}
use mathlib.Core.Logic.{◌⊎◌, inl, inr}
use mathlib.Core.List.{List}
use Prim.Native.Nat.{ℕ, suc, ◌+◌, ◌-◌, ◌*◌, ◌≤◌, ◌<◌, min, max}
use native.Mathlib.Numerals.{add-one}
use native.Mathlib.Omega.{arith}
use lib.ListN.{set, replicate, length-set, length-replicate}
use lib.Seq.{get_or-set_same}
use Rattle.numbers.proofs.Orders.{le_or_lt, lt_or_eq}
use Rattle.stack.specs.Sizes.{totals_held}
use Rattle.spans.specs.declared.Span.{Span}
use Rattle.spans.specs.Solver.{opens, first_open, most, cell, back}
use Rattle.spans.specs.Growth.{back_grow}
use Rattle.spans.proofs.First.{first_upto}
use Rattle.spans.proofs.Growths.{back_below, lack_positive}
use Rattle.arrays.specs.Arrays.{bias, greatest_end, entry, low_of, high_of, last_of, window_of, level_of, levels, taken, span_in, limits_of}
use Rattle.arrays.specs.declared.StripSpans.{StripSpans}
use Rattle.arrays.specs.declared.Given.{Given}
use Rattle.arrays.proofs.Levels.{most_step, least_at, above_at, cell_back, back_ends}
use Rattle.scan.specs.declared.Cell.{Cell}
use Rattle.scan.proofs.Scanning.{cell_none}
use Rattle.scan.proofs.Scans.{nothing_tried}
use Rattle.scan.specs.Scan.{cell_of}
use Rattle.growth.specs.Growth.{CellAsks, grow_in, lack_in, GrowAsks, StripGrown, growth_of, lack_of, Growing, GrowthAsks}
use Rattle.growth.proofs.Cells.{lack_far}
use Rattle.growth.proofs.Levels.{grow_back, lack_back, near_levels, lows_levels, below_levels}

full_as : (s r : Span) → s ≡ r → s.from < s.upto → r.from < r.upto
full_as s r e f = rw e at f

empty_as : (s r : Span) → s ≡ r → s.upto ≤ s.from → r.upto ≤ r.from
empty_as s r e f = rw e at f

module _ (g : Given) (hs : List ℕ) (total : ℕ) (t : List StripSpans) (a : GrowthAsks g hs total t) where
  -- the top strip
  pub growing_start : Growing g hs total g.channels t (set (replicate totals_held 0) 0 (entry hs g.channels)) 0 bias
  unfolding most levels back_grow taken
  growing_start =
      record {
        size = length-set (replicate totals_held 0) 0 (entry hs g.channels) ∙ length-replicate {A = ℕ} totals_held 0;
        inside = omega arith;
        few = omega arith;
        empties = λ n u e i m. absurd (omega arith);
        grown = λ n u e i m f. let z : n ≡ 0 = omega arith in top n u z (rw z at m);
        some = omega arith;
        small = omega arith;
        none_less = λ j n u i e l m f. absurd (omega arith);
      }
    where
      top : (n u : ℕ) → n ≡ 0 → u ≤ 0 → entry (set (replicate totals_held 0) 0 (entry hs g.channels)) u ≡ growth_of g hs g.channels n u
      top n u e m =
          let z : u ≡ 0 = omega arith in
          rw (e, z) (get_or-set_same (replicate totals_held 0) 0 (entry hs g.channels) 0 (omega (arith, length-replicate {A = ℕ} totals_held 0)))

  -- the table holds the spans of every strip
  span_is : (j n u : ℕ) → j + n ≡ g.channels → u < total → u ≤ most (levels g j n) → span_in t j u ≡ back bias (window_of g j) (levels g j n) u
  span_is j n u e i m = a.table.filled j n u (omega arith) e (omega (arith, a.within)) m

  -- one strip more, strip j with n + 1 channels above it
  module _ (j n : ℕ) (h : List ℕ) (empty jump : ℕ) (counted : j + suc n ≡ g.channels) (s : Growing g hs total (suc j) t h empty jump) where
    abbrev least : ℕ
    least = entry g.plan.leasts j

    abbrev above : ℕ
    above = entry g.plan.above (j + 1)

    abbrev end : ℕ
    end = min (entry g.plan.above j + 1) total

    abbrev c : Cell
    c = cell_of g j (least + empty) least above empty

    least_is : least ≡ first_open (low_of g j) (high_of g j) (last_of g j)
    least_is = least_at g a.stack.planned j (omega arith)

    above_is : above ≡ most (levels g (suc j) n)
    above_is = rw (add-one j) (above_at g a.stack.planned (suc j) n (omega arith))

    most_is : entry g.plan.above j ≡ last_of g j + above
    most_is = above_at g a.stack.planned j (suc n) counted ∙ (most_step g j n ∙ ap (λ (m : ℕ). last_of g j + m) (sym above_is))

    -- the sums that the code works out fit
    pub bound_room : least + empty < 4096
    unfolding first_open
    bound_room = omega (arith, s.few, a.held, least_is, first_upto (opens (low_of g j) (high_of g j)) 0 (suc (last_of g j)), a.stack.listed j (omega arith))

    of_use : (u : ℕ) → u < end → (u < total) × (u ≤ last_of g j + above) × (u ≤ most (levels g j (suc n)))
    of_use u l = omega (arith, most_is, above_at g a.stack.planned j (suc n) counted)

    spans_above : (u : ℕ) → u < total → u ≤ above → span_in t (j + 1) u ≡ back bias (window_of g (suc j)) (levels g (suc j) n) u
    spans_above u l m = rw (add-one j) (span_is (suc j) n u (omega arith) l (omega (arith, above_is)))

    grown_above : (u : ℕ) → u < total → u ≤ above → (span_in t (j + 1) u).from < (span_in t (j + 1) u).upto → entry h u ≡ growth_of g hs (suc j) n u
    grown_above u l m f = s.grown n u (omega arith) l (omega (arith, above_is)) (rw (add-one j) at f)

    -- ends of the strip above
    ends_above : (u : ℕ) → u < total → u ≤ above → ((span_in t (j + 1) u).from ≤ greatest_end) × ((span_in t (j + 1) u).upto ≤ greatest_end)
    ends_above u l m =
        let r = spans_above u l m in
        omega (arith, ap (λ (t : Span). t.from) r, ap (λ (t : Span). t.upto) r, back_ends bias (window_of g (suc j)) (levels g (suc j) n) u, a.stack.starts (suc j) (omega arith), a.stack.ends (suc j) (omega arith))

    grow_fits : (u : ℕ) → u < total → u ≤ above → (span_in t (j + 1) u).from < (span_in t (j + 1) u).upto → entry h u ≤ 2 * bias
    grow_fits u l m f =
        let r = spans_above u l m in
        omega (
          arith,
          grown_above u l m f,
          back_below bias bias (window_of g (suc j)) (entry hs (suc j)) (levels g (suc j) n) (taken hs (suc (suc j)) n)
              (near_levels g a.stack (suc j) n (omega arith)) (lows_levels g a.stack (suc j) n (omega arith)) (below_levels g hs a.below (suc j) n (omega arith)) u (full_as _ _ r f),
          ap (λ (t : Span). t.upto) r,
          ends_above u l m,
        )

    here_is : (u : ℕ) → u < end → span_in t j u ≡ back bias (window_of g j) (levels g j (suc n)) u
    here_is u l = span_is j (suc n) u counted (of_use u l).0 (of_use u l).2

    cell_is : (u : ℕ) → u < end → span_in t j u ≡ cell bias (low_of g j) (high_of g j) least (last_of g j) above (span_in t (j + 1)) (window_of g j) u
    cell_is u l =
        let b = of_use u l in
        here_is u l
        ∙ rw (least_is, above_is) (sym (cell_back g j n u (span_in t (j + 1)) (omega (arith, above_is)) (λ q x y z. spans_above (u - q) (omega arith) (omega (arith, above_is)))))

    -- what a cell of strip j asks
    cell_asks : (u : ℕ) → u < end → CellAsks (limits_of g.limits j) (cell_of g j u least above empty) t h
    cell_asks u l =
        record {
          spans = record {
            channel = omega (arith, a.stack.channels);
            total = omega (arith, a.held);
            listed = omega (arith, a.stack.listed j (omega arith));
            of_use = (of_use u l).1;
            start = a.stack.starts j (omega arith);
            end = a.stack.ends j (omega arith);
            lows_small = λ q p. a.stack.lows j q (omega arith) p;
            highs_small = λ q p. a.stack.highs j q (omega arith) p;
            starts = λ w p m. omega (arith, ends_above w (omega arith) m);
            ends = λ w p m. omega (arith, ends_above w (omega arith) m);
            empties = λ w p m. rw (add-one j) (s.empties n w (omega arith) p (omega (arith, above_is)));
          };
          here = cell_is u l;
          fits = λ w p m f. grow_fits w (omega arith) m f;
        }

    -- from the arrays as from the levels
    grow_is : (u : ℕ) → u < end → grow_in (limits_of g.limits j) c (entry hs j) t h u ≡ growth_of g hs j (suc n) u
    grow_is u l =
        let b = of_use u l in
        rw (least_is, above_is)
        (grow_back g hs j n u (span_in t (j + 1)) (entry h) (omega (arith, above_is)) (λ w p m. spans_above w (omega arith) (omega (arith, above_is))) (λ w p m f. grown_above w (omega arith) (omega (arith, above_is)) f))

    lack_is : (u : ℕ) → u < end → lack_in (limits_of g.limits j) c (entry hs j) t h u ≡ lack_of g hs j n u
    lack_is u l =
        let b = of_use u l in
        rw (least_is, above_is)
        (lack_back g hs j n u (span_in t (j + 1)) (entry h) (omega (arith, above_is)) (λ w p m. spans_above w (omega arith) (omega (arith, above_is))) (λ w p m f. grown_above w (omega arith) (omega (arith, above_is)) f))

    lacking : (u : ℕ) → u < end → (span_in t j u).upto ≤ (span_in t j u).from → 0 < lack_in (limits_of g.limits j) c (entry hs j) t h u
    unfolding levels taken
    lacking u l m =
        rw (lack_is u l)
        (lack_positive bias bias (window_of g j) (entry hs j) (level_of g j) (entry hs (suc j)) (levels g (suc j) n) (taken hs (suc (suc j)) n)
        (near_levels g a.stack j (suc n) counted) (lows_levels g a.stack j (suc n) counted) (below_levels g hs a.below j (suc n) counted) u (empty_as _ _ (here_is u l) m))

    -- what strip j asks
    pub strip_asks : GrowAsks (limits_of g.limits j) c end (entry hs j) t h jump
    strip_asks =
        record {
          strip = omega (arith, a.stack.channels);
          held = omega (arith, a.held);
          size = s.size;
          cells = λ v i l. cell_asks v l;
          lacking = λ v i l m. lacking v l m;
          some = s.some;
        }

    -- a total for which the strip above leaves nothing
    module _ (u : ℕ) (l : u < end) (none : u < least + empty) where
      empty_here : (span_in t j u).upto ≤ (span_in t j u).from
      empty_here =
          omega (
            arith,
            ap (λ (x : Span). x.upto) (cell_is u l
                ∙ (cell_none (limits_of g.limits j) (cell_of g j u least above empty) t (max least (u - above)) (min (last_of g j + 1) (u + 1 - empty)) (cell_asks u l).spans refl refl
                (nothing_tried least (last_of g j) above empty u none)).0),
          )

      far_here : bias ≤ lack_in (limits_of g.limits j) c (entry hs j) t h u
      far_here =
          lack_far (limits_of g.limits j) (cell_of g j u least above empty) t h (entry hs j) (max least (u - above)) (min (last_of g j + 1) (u + 1 - empty)) (cell_asks u l) refl refl
          (nothing_tried least (last_of g j) above empty u none)

    -- strip j done
    module _ (h' : List ℕ) (empty' jump' : ℕ) (d : StripGrown (limits_of g.limits j) c (least + empty) end (entry hs j) t h h' jump empty' jump') where
      in_end : (u : ℕ) → u < total → u ≤ most (levels g j (suc n)) → u < end
      in_end u l m = omega (arith, above_at g a.stack.planned j (suc n) counted)

      pub growing_strip : Growing g hs total j t h' empty' jump'
      growing_strip =
          record {
            size = d.size;
            inside = omega arith;
            few = omega (arith, d.few);
            empties = λ m u e i o. empties u i (le_or_lt (least + empty) u);
            grown = λ m u e i o f. let z : m ≡ suc n = omega arith in rw z (grown u (in_end u i (rw z at o)) f (le_or_lt (least + empty) u));
            some = d.some;
            small = omega (arith, d.less, s.small);
            none_less = λ p m u i e l o f. none_less p m u e l o f (lt_or_eq j p i);
          }
        where
          empties : (u : ℕ) → u < empty' → (least + empty ≤ u) ⊎ (u < least + empty) → (span_in t j u).upto ≤ (span_in t j u).from
          empties u i (inl b) = d.empties u b i
          empties u i (inr b) = empty_here u (omega (arith, d.few)) b

          grown : (u : ℕ) → u < end → (span_in t j u).from < (span_in t j u).upto → (least + empty ≤ u) ⊎ (u < least + empty) → entry h' u ≡ growth_of g hs j (suc n) u
          grown u l f (inl b) = d.grown u b l f ∙ grow_is u l
          grown u l f (inr b) = absurd (omega (arith, empty_here u l b))

          own : (u : ℕ) → u < end → (span_in t j u).upto ≤ (span_in t j u).from → (least + empty ≤ u) ⊎ (u < least + empty) → jump' ≤ lack_in (limits_of g.limits j) c (entry hs j) t h u
          own u l f (inl b) = d.lacks u b l f
          own u l f (inr b) = omega (arith, far_here u l b, d.less, s.small)

          none_less : (p m u : ℕ) → p + suc m ≡ g.channels → u < total → u ≤ most (levels g p (suc m)) →
              (back bias (window_of g p) (levels g p (suc m)) u).upto ≤ (back bias (window_of g p) (levels g p (suc m)) u).from → (j < p) ⊎ (j ≡ p) → jump' ≤ lack_of g hs p m u
          none_less p m u e l o f (inl b) = omega (arith, d.less, s.none_less p m u (omega arith) e l o f)
          none_less p m u e l o f (inr b) =
              let z : m ≡ n = omega arith in
              let i : u < end = in_end u l (rw (← b, z) at o) in
              rw (← b, z, ← lack_is u i) (own u i (empty_as _ _ (sym (here_is u i)) (rw (← b, z) at f)) (le_or_lt (least + empty) u))
