-- The loop over the totals of one strip. Assumes nothing.
use mathlib.Core.Path.{◌≡◌, refl, ap, ◌∙◌}
use mathlib.Core.Bool.{true}
use mathlib.Core.Logic.{◌⊎◌, inl, inr}
use mathlib.Core.List.{List}
use Prim.Native.Nat.{ℕ, ◌+◌, ◌≤◌, ◌<◌, max}
use native.Mathlib.Omega.{arith}
use Rattle.std.specs.Prelude.{Option, is_some}
use Rattle.numbers.proofs.Orders.{lt_or_eq}
use Rattle.spans.specs.declared.Span.{Span}
use Rattle.spans.specs.Solver.{cell}
use Rattle.arrays.specs.Arrays.{bias, low_in, high_in, span_at, span_in, spans_of}
use Rattle.arrays.specs.declared.ChannelLimits.{ChannelLimits}
use Rattle.arrays.specs.declared.StripSpans.{StripSpans}
use Rattle.arrays.proofs.Options.{number_some}
use Rattle.scan.specs.Scan.{cell_at, StripAsks, StripDone, EmptyOn}
use Rattle.scan.specs.declared.Cell.{Cell}
use Rattle.scan.proofs.Tables.{put_same, put_apart, put_others, sized_put}
use Rattle.scan.proofs.Scanning.{short_empty}
use Rattle.band.specs.Band.{StripAsked, StripFilled}

-- spans that are equal have equal ends
pub starts_same : {x y : Span} → x ≡ y → x.from ≡ y.from
starts_same e = ap (λ (s : Span). s.from) e

pub ends_same : {x y : Span} → x ≡ y → x.upto ≡ y.upto
ends_same e = ap (λ (s : Span). s.upto) e

module _ (limits : ChannelLimits) (c : Cell) (last : ℕ) (t : List StripSpans) (a : StripAsked limits c last t) where
  pub strip_start : StripFilled limits c c.v t t c.v
  strip_start =
      record {
        sized = a.sized;
        few = omega arith;
        others = λ j n. refl;
        outside = λ u n. refl;
        cells = λ v h l. absurd (omega arith);
        empties = a.before;
      }

  module _ (v e : ℕ) (t' : List StripSpans) (s : StripFilled limits c v t t' e) (from : c.v ≤ v) (upto : v ≤ last) where
    -- the strip above is as it was
    above_same : spans_of t' (c.i + 1) ≡ spans_of t (c.i + 1)
    above_same = s.others (c.i + 1) (λ q. omega arith)

    pub strip_asks : StripAsks limits (cell_at c v) t'
    strip_asks =
        let b = a.asks v from upto in
        record {
          channel = b.channel;
          total = b.total;
          listed = b.listed;
          of_use = b.of_use;
          start = b.start;
          end = b.end;
          lows_small = b.lows_small;
          highs_small = b.highs_small;
          starts = λ u h l. rw above_same (b.starts u h l);
          ends = λ u h l. rw above_same (b.ends u h l);
          empties = λ u h l. rw above_same (b.empties u h l);
        }

    module _ (t'' : List StripSpans) (short : Option ℕ) (e' : ℕ) (d : StripDone limits (cell_at c v) t' t'' short) (x : EmptyOn (max e 0) v short e') where
      abbrev here : Span
      here = cell bias (low_in limits) (high_in limits) c.least c.last c.above (span_in t' (c.i + 1)) c.window v

      kept : (u : ℕ) → (u ≡ v → ⊥) → span_in t'' c.i u ≡ span_in t' c.i u
      kept u n = rw d.put_is (put_apart t' s.sized c.i v here (omega (arith, a.strip)) c.i u (λ p. n))

      written : span_in t'' c.i v ≡ here
      written = rw d.put_is (put_same t' s.sized c.i v here (omega (arith, a.strip)) (omega (arith, a.total)))

      cell_there : (w : ℕ) → c.v ≤ w → (w < v) ⊎ (w ≡ v) →
          span_in t'' c.i w ≡ cell bias (low_in limits) (high_in limits) c.least c.last c.above (span_in t (c.i + 1)) c.window w
      cell_there w h (inl l) = kept w (λ q. omega arith) ∙ s.cells w h l
      cell_there w h (inr l) =
          rw l
          (written
          ∙ ap (λ (r : StripSpans). cell bias (low_in limits) (high_in limits) c.least c.last c.above (λ u. span_at r u) c.window v) above_same)

      empty_there : (u : ℕ) → (u < max e 0) ⊎ ((u ≡ v) × (is_some short ≡ true)) → (span_in t'' c.i u).upto ≤ (span_in t'' c.i u).from
      empty_there u (inl l) =
          let e = kept u (λ q. omega (arith, s.few)) in
          omega (arith, starts_same e, ends_same e, s.empties u (omega arith))
      empty_there u (inr l) =
          let y = short_empty (low_in limits) (high_in limits) c.least c.last c.above (span_in t' (c.i + 1)) c.window v (omega (arith, (a.asks v from upto).end)) (number_some _ (rw d.short_is at l.1)) in
          rw l.0 (omega (arith, y, starts_same written, ends_same written))

      pub strip_step : StripFilled limits c (v + 1) t t'' e'
      strip_step =
          record {
            sized = rw d.put_is (sized_put t' s.sized c.i v here (omega (arith, a.strip)));
            few = omega (arith, x.at_most (omega (arith, s.few)));
            others = λ j n. rw d.put_is (put_others t' s.sized c.i v here (omega (arith, a.strip)) j n) ∙ s.others j n;
            outside = λ u n. kept u (λ q. n (omega arith) (omega arith)) ∙ s.outside u (λ h l. n h (omega arith));
            cells = λ w h l. cell_there w h (lt_or_eq w v (omega arith));
            empties = λ u l. empty_there u (x.known u l);
          }
