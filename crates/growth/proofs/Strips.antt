-- The laws of the loop over the totals of one strip. Assumes nothing.
use mathlib.Core.Path.{◌≡◌, ◌∙◌}
use mathlib.Core.Logic.{◌⊎◌, inl, inr}
use mathlib.Core.List.{List}
use Prim.Native.Nat.{ℕ, ◌+◌, ◌≤◌, ◌<◌, min}
use native.Mathlib.Omega.{arith}
use lib.ListN.{set, length-set}
use lib.Seq.{get_or-set_same, get_or-set_other}
use Rattle.numbers.proofs.Orders.{lt_or_eq}
use Rattle.arrays.specs.Arrays.{entry, span_in}
use Rattle.arrays.specs.declared.ChannelLimits.{ChannelLimits}
use Rattle.arrays.specs.declared.StripSpans.{StripSpans}
use Rattle.scan.specs.Scan.{cell_at}
use Rattle.scan.specs.declared.Cell.{Cell}
use Rattle.growth.specs.Growth.{grow_in, lack_in, GrowAsks, StripGrown}
use Rattle.growth.proofs.Cells.{grow_kept, lack_kept}

-- before the greatest total
pub strip_start : (limits : ChannelLimits) (c : Cell) (end own : ℕ) (t : List StripSpans) (h : List ℕ) (before : ℕ) → GrowAsks limits c end own t h before →
    StripGrown limits c end end own t h h before end before
strip_start limits c end own t h before a =
    record {
      size = a.size;
      grown = λ u i k m. absurd (omega arith);
      lacks = λ u i k m. absurd (omega arith);
      empties = λ u i k. absurd (omega arith);
      few = omega arith;
      some = a.some;
      less = omega arith;
    }

-- totals from p on are done, v is the next one
module _ (limits : ChannelLimits) (c : Cell) (end own : ℕ) (t : List StripSpans) (h : List ℕ) (before : ℕ) (a : GrowAsks limits c end own t h before)
    (p v : ℕ) (next : v + 1 ≡ p) (inside : p ≤ end) (from : c.v < p) (h' : List ℕ) (empty jump : ℕ) (s : StripGrown limits c p end own t h h' before empty jump)
    (kept : (u : ℕ) → u < p → entry h' u ≡ entry h u) where
  -- its span is not empty
  module _ (x : ℕ) (full : (span_in t c.i v).from < (span_in t c.i v).upto) (e : x ≡ grow_in limits (cell_at c v) own t h' v) where
    written : entry (set h' v x) v ≡ grow_in limits c own t h v
    written = get_or-set_same h' v x 0 (omega (arith, s.size, a.held)) ∙ (e ∙ grow_kept limits c t own v h' h (λ u i. kept u (omega arith)))

    pub strip_full : StripGrown limits c v end own t h (set h' v x) before v jump
    strip_full =
        record {
          size = length-set h' v x ∙ s.size;
          grown = λ u i k m. grown u k m (lt_or_eq v u i);
          lacks = λ u i k m. lacks u k m (lt_or_eq v u i);
          empties = λ u i k. absurd (omega arith);
          few = omega arith;
          some = s.some;
          less = s.less;
        }
      where
        grown : (u : ℕ) → u < end → (span_in t c.i u).from < (span_in t c.i u).upto → (v < u) ⊎ (v ≡ u) → entry (set h' v x) u ≡ grow_in limits c own t h u
        grown u k m (inl i) = get_or-set_other h' v u x 0 (λ q. omega arith) ∙ s.grown u (omega arith) k m
        grown u k m (inr i) = rw (← i) written

        lacks : (u : ℕ) → u < end → (span_in t c.i u).upto ≤ (span_in t c.i u).from → (v < u) ⊎ (v ≡ u) → jump ≤ lack_in limits c own t h u
        lacks u k m (inl i) = s.lacks u (omega arith) k m
        lacks u k m (inr i) = absurd (omega (arith, rw (← i) at m))

    pub kept_full : (u : ℕ) → u < v → entry (set h' v x) u ≡ entry h u
    kept_full u i = get_or-set_other h' v u x 0 (λ q. omega arith) ∙ kept u (omega arith)

  -- its span is empty
  pub strip_empty : (x r : ℕ) → (span_in t c.i v).upto ≤ (span_in t c.i v).from → x ≡ lack_in limits (cell_at c v) own t h' v → r ≡ min jump x →
      StripGrown limits c v end own t h h' before empty r
  strip_empty x r none e f =
      record {
        size = s.size;
        grown = λ u i k m. grown u k m (lt_or_eq v u i);
        lacks = λ u i k m. lacks u k m (lt_or_eq v u i);
        empties = λ u i k. empties u k (lt_or_eq v u i);
        few = s.few;
        some = omega (arith, s.some, lack, a.lacking v (omega arith) (omega arith) none);
        less = omega (arith, s.less);
      }
    where
      lack : x ≡ lack_in limits c own t h v
      lack = e ∙ lack_kept limits c t own v h' h (λ u i. kept u (omega arith))

      grown : (u : ℕ) → u < end → (span_in t c.i u).from < (span_in t c.i u).upto → (v < u) ⊎ (v ≡ u) → entry h' u ≡ grow_in limits c own t h u
      grown u k m (inl i) = s.grown u (omega arith) k m
      grown u k m (inr i) = absurd (omega (arith, none, rw (← i) at m))

      lacks : (u : ℕ) → u < end → (span_in t c.i u).upto ≤ (span_in t c.i u).from → (v < u) ⊎ (v ≡ u) → r ≤ lack_in limits c own t h u
      lacks u k m (inl i) = omega (arith, s.lacks u (omega arith) k m)
      lacks u k m (inr i) = rw (← i) (omega (arith, lack))

      empties : (u : ℕ) → u < empty → (v < u) ⊎ (v ≡ u) → (span_in t c.i u).upto ≤ (span_in t c.i u).from
      empties u k (inl i) = s.empties u (omega arith) k
      empties u k (inr i) = rw (← i) none
