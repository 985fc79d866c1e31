-- A span written into a table, and a table of zeros. Assumes nothing.
use Rattle.std.proofs.Common.{◌≡◌, refl, ap, ap₂, ◌∙◌, ◌⊎◌, inl, inr, List, [], ℕ, zero, suc, ◌<◌, get_or, replicate, arith}
use Rattle.std.proofs.Math.ListN.{length-set, length-replicate, get_or-replicate}
use Rattle.std.proofs.Math.Seq.{get_or-set_same, get_or-set_other}
use Rattle.numbers.proofs.Lists.{zeros_at}
use Rattle.numbers.proofs.Orders.{eq_or_not}
use Rattle.stack.specs.Sizes.{strips_held, totals_held}
use Rattle.spans.specs.Spans.{span}
use Rattle.spans.specs.declared.Span.{Span}
use Rattle.arrays.specs.Arrays.{spans_of, span_at, span_put, TwoRows, Sized, span_in}
use Rattle.arrays.specs.declared.StripSpans.{StripSpans}
use Rattle.scan.specs.Scan.{put_span}

-- A SPAN WRITTEN into a strip's
module _ (r : StripSpans) (h : TwoRows r) (v : ℕ) (w : Span) where
  span_same : v < totals_held → span_at (span_put r v w) v ≡ w
  span_same l = ap₂ span (get_or-set_same r.from v w.from 0 (omega (arith, h.starts))) (get_or-set_same r.upto v w.upto 0 (omega (arith, h.ends)))

  span_other : (u : ℕ) → (u ≡ v → ⊥) → span_at (span_put r v w) u ≡ span_at r u
  span_other u n = ap₂ span (get_or-set_other r.from v u w.from 0 n) (get_or-set_other r.upto v u w.upto 0 n)

  two_rows_put : TwoRows (span_put r v w)
  two_rows_put = record { starts = length-set r.from v w.from ∙ h.starts; ends = length-set r.upto v w.upto ∙ h.ends }

-- A SPAN WRITTEN into a table
module _ (t : List StripSpans) (s : Sized t) (i v : ℕ) (w : Span) (h : i < strips_held) where
  written : spans_of (put_span t i v w) i ≡ span_put (spans_of t i) v w
  written = get_or-set_same t i _ (record { from = []; upto = [] }) (omega (arith, s.strips))

  pub put_same : v < totals_held → span_in (put_span t i v w) i v ≡ w
  put_same l = rw written (span_same (spans_of t i) (s.rows i h) v w l)

  pub put_others : (j : ℕ) → (j ≡ i → ⊥) → spans_of (put_span t i v w) j ≡ spans_of t j
  put_others j n = get_or-set_other t i j _ (record { from = []; upto = [] }) n

  -- every other cell is as it was
  pub put_apart : (j u : ℕ) → (j ≡ i → u ≡ v → ⊥) → span_in (put_span t i v w) j u ≡ span_in t j u
  put_apart j u n = go (eq_or_not j i)
    where
      go : (j ≡ i) ⊎ (j ≡ i → ⊥) → span_in (put_span t i v w) j u ≡ span_in t j u
      go (inl e) = rw (e, written) (span_other (spans_of t i) (s.rows i h) v w u (n e))
      go (inr d) = ap (λ (r : StripSpans). span_at r u) (put_others j d)

  pub sized_put : Sized (put_span t i v w)
  sized_put = record { strips = length-set t i _ ∙ s.strips; rows = λ j l. go j l (eq_or_not j i) }
    where
      go : (j : ℕ) → j < strips_held → (j ≡ i) ⊎ (j ≡ i → ⊥) → TwoRows (spans_of (put_span t i v w) j)
      go j l (inl e) = rw (e, written) (two_rows_put (spans_of t i) (s.rows i h) v w)
      go j l (inr n) = rw (put_others j n) (s.rows j l)

-- A TABLE OF ZEROS is of the right size, and its spans are empty
abbrev zeros : StripSpans
zeros = record { from = replicate totals_held 0; upto = replicate totals_held 0 }

-- every place holds x, and every place behind the end d
zero_there : {A : Type 0} (n : ℕ) (x d : A) (i : ℕ) → (get_or (replicate n x) i d ≡ x) ⊎ (get_or (replicate n x) i d ≡ d)
zero_there zero x d i = inr refl
zero_there (suc n) x d zero = inl refl
zero_there (suc n) x d (suc i) = zero_there n x d i

pub zeros_empty : (j u : ℕ) → span_in (replicate strips_held zeros) j u ≡ span 0 0
zeros_empty j u = in_strip (spans_of (replicate strips_held zeros) j) (zero_there strips_held zeros (record { from = []; upto = [] }) j)
  where
    in_strip : (r : StripSpans) → (r ≡ zeros) ⊎ (r ≡ record { from = []; upto = [] }) → span_at r u ≡ span 0 0
    in_strip r (inl e) = rw (e, zeros_at totals_held u)
    in_strip r (inr e) = rw e

pub sized_zeros : Sized (replicate strips_held zeros)
sized_zeros =
    record {
      strips = length-replicate strips_held zeros;
      rows = λ i h. rw (get_or-replicate strips_held i zeros (record { from = []; upto = [] }) h) (record { starts = length-replicate {A = ℕ} totals_held 0; ends = length-replicate {A = ℕ} totals_held 0 });
    }
