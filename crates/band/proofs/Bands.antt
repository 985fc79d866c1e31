-- The loop over the strips, from the top down. Assumes nothing.
use mathlib.Core.Path.{◌≡◌, ◌∙◌}
use mathlib.Core.Logic.{◌⊎◌, inl, inr}
use mathlib.Core.List.{List}
use Prim.Native.Nat.{ℕ, zero, suc, ◌+◌, ◌-◌, ◌≤◌, ◌<◌, min}
use native.Mathlib.Numerals.{add-one}
use native.Mathlib.Omega.{arith}
use Rattle.numbers.proofs.Orders.{lt_or_eq, eq_or_not, le_or_lt}
use Rattle.stack.specs.Sizes.{totals_held}
use Rattle.spans.specs.Spans.{span}
use Rattle.spans.specs.Solver.{first_open, most, back}
use Rattle.arrays.specs.Arrays.{bias, greatest_end, entry, low_of, high_of, last_of, window_of, levels, span_in, StackAsks, InBand, limits_of}
use Rattle.arrays.specs.declared.StripSpans.{StripSpans}
use Rattle.arrays.specs.declared.Given.{Given}
use Rattle.arrays.proofs.Levels.{most_step, most_fewer, most_small, least_at, above_at, cell_back, back_ends}
use Rattle.scan.specs.Scan.{cell_at, put_span, StripAsks}
use Rattle.scan.specs.declared.Cell.{Cell}
use Rattle.scan.specs.Scan.{cell_of}
use Rattle.scan.proofs.Tables.{put_same, put_apart, sized_put}
use Rattle.band.proofs.Strips.{starts_same, ends_same}
use Rattle.band.specs.Band.{StripAsked, StripFilled, BandAsks, Banding}

-- the band from its first total on
band_from : (v used all j first u : ℕ) → first ≡ min used (v + used - (all + j)) → (u ≡ used) ⊎ (v + used ≤ u + (all + j)) → first ≤ u
band_from v used all j first u e (inl p) = omega arith
band_from v used all j first u e (inr p) = omega arith

band_back : (v used all j first u : ℕ) → first ≡ min used (v + used - (all + j)) → first ≤ u → u ≤ used → (u ≡ used) ⊎ (v + used ≤ u + (all + j))
band_back v used all j first u e h l = go (le_or_lt used (v + used - (all + j)))
  where
    go : (used ≤ v + used - (all + j)) ⊎ (v + used - (all + j) < used) → (u ≡ used) ⊎ (v + used ≤ u + (all + j))
    go (inl p) = inl (omega arith)
    go (inr p) = inr (omega arith)

-- what a separation leaves of a total in the band is in the band of the strip above
band_left : (v last above all j u q : ℕ) → (u ≡ last + above) ⊎ (v + (last + above) ≤ u + (all + j)) → q ≤ last → q ≤ u → u - q ≤ above →
    (u - q ≡ above) ⊎ (v + above ≤ (u - q) + (all + suc j))
band_left v last above all j u q (inl p) h l m = inl (omega arith)
band_left v last above all j u q (inr p) h l m = inr (omega arith)

module _ (g : Given) (total : ℕ) where
  -- the top strip
  pub banding_start : (t : List StripSpans) → BandAsks g total t → Banding g total g.channels (put_span t g.channels 0 (window_of g g.channels)) 0
  unfolding most levels back
  banding_start t a =
      record {
        inside = omega arith;
        table = record { sized = sized_put t a.sized g.channels 0 (window_of g g.channels) top; banded = λ j n u h e b. top_row j n u h e b };
        small = λ j u. ends j u (eq_or_not j g.channels) (eq_or_not u 0);
        below = λ j u h. apart j u (λ p q. omega arith);
        empties = λ u h. absurd (omega arith);
      }
    where
      top : g.channels < 9
      top = omega (arith, a.stack.channels)

      apart : (j u : ℕ) → (j ≡ g.channels → u ≡ 0 → ⊥) → span_in (put_span t g.channels 0 (window_of g g.channels)) j u ≡ span 0 0
      apart j u n = put_apart t a.sized g.channels 0 (window_of g g.channels) top j u n ∙ a.empty j u

      there : span_in (put_span t g.channels 0 (window_of g g.channels)) g.channels 0 ≡ window_of g g.channels
      there = put_same t a.sized g.channels 0 (window_of g g.channels) top (omega arith)

      top_row : (j n u : ℕ) → g.channels ≤ j → j + n ≡ g.channels → InBand g total j n u → span_in (put_span t g.channels 0 (window_of g g.channels)) j u ≡ back bias (window_of g j) (levels g j n) u
      top_row j zero u h e b = let z : u ≡ 0 = omega (arith, b.1) in let p : j ≡ g.channels = omega arith in rw (z, p) there
      top_row j (suc n) u h e b = absurd (omega arith)

      ends : (j u : ℕ) → (j ≡ g.channels) ⊎ (j ≡ g.channels → ⊥) → (u ≡ 0) ⊎ (u ≡ 0 → ⊥) →
          ((span_in (put_span t g.channels 0 (window_of g g.channels)) j u).from ≤ greatest_end) × ((span_in (put_span t g.channels 0 (window_of g g.channels)) j u).upto ≤ greatest_end)
      ends j u (inl p) (inl z) = rw (p, z) (omega (arith, starts_same there, ends_same there, a.stack.starts g.channels (omega arith), a.stack.ends g.channels (omega arith)))
      ends j u (inl p) (inr z) = omega (arith, starts_same (apart j u (λ q. z)), ends_same (apart j u (λ q. z)))
      ends j u (inr p) z = omega (arith, starts_same (apart j u (λ q y. p q)), ends_same (apart j u (λ q y. p q)))

  -- strip j, under strip i
  module _ (i j e : ℕ) (t : List StripSpans) (a : StackAsks g) (fits : total < 4294967296) (s : Banding g total i t e) (under : j + 1 ≡ i) where
    abbrev n : ℕ
    n = g.channels - i

    abbrev used : ℕ
    used = entry g.plan.above j

    abbrev all : ℕ
    all = entry g.plan.above 0

    abbrev above : ℕ
    above = entry g.plan.above (j + 1)

    abbrev least : ℕ
    least = entry g.plan.leasts j

    counted : j + suc n ≡ g.channels
    counted = omega (arith, s.inside)

    used_is : used ≡ most (levels g j (suc n))
    used_is = above_at g a.planned j (suc n) counted

    all_is : all ≡ most (levels g 0 g.channels)
    all_is = above_at g a.planned 0 g.channels (omega arith)

    above_is : above ≡ most (levels g (suc j) n)
    above_is = rw (add-one j) (above_at g a.planned (suc j) n (omega arith))

    least_is : least ≡ first_open (low_of g j) (high_of g j) (last_of g j)
    least_is = least_at g a.planned j (omega (arith, s.inside))

    used_parts : used ≡ last_of g j + above
    used_parts = omega (arith, used_is, above_is, most_step g j n)

    used_less : used ≤ all
    used_less =
        let z : j + suc n ≡ g.channels = counted in
        let y : 0 + j ≡ j = omega arith in
        omega (arith, used_is, all_is, rw (y, z) at (most_fewer g j 0 (suc n)))

    pub used_small : used < totals_held
    used_small = omega (arith, used_is, most_small g a j (suc n) counted, a.channels)

    module _ (first last : ℕ) (f : first ≡ min used (total + used - (all + j))) (l : last ≡ min used total) where
      abbrev c : Cell
      c = cell_of g j first least above e

      asks_at : (v : ℕ) → first ≤ v → v ≤ last → StripAsks (limits_of g.limits j) (cell_at c v) t
      asks_at v h m =
          record {
            channel = omega (arith, a.channels, s.inside);
            total = omega (arith, used_small);
            listed = a.listed j (omega (arith, s.inside));
            of_use = omega (arith, used_parts);
            start = a.starts j (omega (arith, s.inside));
            end = a.ends j (omega (arith, s.inside));
            lows_small = λ q p. a.lows j q (omega (arith, s.inside)) p;
            highs_small = λ q p. a.highs j q (omega (arith, s.inside)) p;
            starts = λ u p q. omega (arith, s.small (j + 1) u);
            ends = λ u p q. omega (arith, s.small (j + 1) u);
            empties = λ u p q. rw under (s.empties u p);
          }

      pub band_strip_asked : StripAsked (limits_of g.limits j) c last t
      band_strip_asked =
          record {
            sized = s.table.sized;
            strip = omega (arith, a.channels, s.inside);
            total = omega (arith, used_small);
            some = omega (arith, used_less);
            asks = asks_at;
            before = λ u h. omega (arith, starts_same (s.below j u (omega arith)), ends_same (s.below j u (omega arith)));
          }

      module _ (t' : List StripSpans) (e' : ℕ) (d : StripFilled (limits_of g.limits j) c (last + 1) t t' e') where
        -- the spans above for what the separations leave
        left_is : (u q : ℕ) → first ≤ u → u ≤ last → q ≤ last_of g j → q ≤ u → u - q ≤ most (levels g (suc j) n) →
            span_in t (j + 1) (u - q) ≡ back bias (window_of g (suc j)) (levels g (suc j) n) (u - q)
        left_is u q h m p r o =
            let b = band_left total (last_of g j) above all j u q (rw used_parts at (band_back total used all j first u f h (omega arith))) p r (omega (arith, above_is)) in
            rw (add-one j)
            (s.table.banded (suc j) n (u - q) (omega arith) (omega (arith, s.inside)) (omega arith, o, rw (above_is, all_is) at b))

        cell_is : (u : ℕ) → first ≤ u → u ≤ last → span_in t' j u ≡ back bias (window_of g j) (levels g j (suc n)) u
        cell_is u h m =
            d.cells u h (omega arith)
            ∙ rw (least_is, above_is) (cell_back g j n u (span_in t (j + 1)) (omega (arith, used_parts, above_is)) (λ q p r o. left_is u q h m p r o))

        banded_at : (p m u : ℕ) → p + m ≡ g.channels → InBand g total p m u → (j < p) ⊎ (j ≡ p) → span_in t' p u ≡ back bias (window_of g p) (levels g p m) u
        banded_at p m u q b (inl h) = rw (d.others p (λ z. omega arith)) (s.table.banded p m u (omega arith) q b)
        banded_at p m u q b (inr h) =
            let z : m ≡ suc n = omega (arith, s.inside) in
            let y : (u ≤ total) × (u ≤ used) × ((u ≡ used) ⊎ (total + used ≤ u + (all + j))) = rw (used_is, all_is, h, ← z) b in
            rw (← h, z) (cell_is u (band_from total used all j first u f y.2) (omega arith))

        small_at : (p u : ℕ) → (p ≡ j) ⊎ (p ≡ j → ⊥) → (first ≤ u) ⊎ (u < first) → (u ≤ last) ⊎ (last < u) → ((span_in t' p u).from ≤ greatest_end) × ((span_in t' p u).upto ≤ greatest_end)
        small_at p u (inl h) (inl o) (inl q) =
            let r = cell_is u o q in
            rw h
            (omega (arith, starts_same r, ends_same r, back_ends bias (window_of g j) (levels g j (suc n)) u, a.starts j (omega (arith, s.inside)), a.ends j (omega (arith, s.inside))))
        small_at p u (inl h) (inl o) (inr q) = let r = d.outside u (λ x y. omega arith) in rw h (omega (arith, starts_same r, ends_same r, s.small j u))
        small_at p u (inl h) (inr o) q = let r = d.outside u (λ x y. omega arith) in rw h (omega (arith, starts_same r, ends_same r, s.small j u))
        small_at p u (inr h) o q = rw (d.others p h) (s.small p u)

        pub banding_step : Banding g total j t' e'
        banding_step =
            record {
              inside = omega (arith, s.inside);
              table = record { sized = d.sized; banded = λ p m u h q b. banded_at p m u q b (lt_or_eq j p h) };
              small = λ p u. small_at p u (eq_or_not p j) (le_or_lt first u) (le_or_lt u last);
              below = λ p u h. rw (d.others p (λ z. omega arith)) (s.below p u (omega arith));
              empties = d.empties;
            }
