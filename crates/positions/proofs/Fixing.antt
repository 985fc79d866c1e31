-- The loop that works out the spans for given separations, from the top strip down. Assumes nothing.
use mathlib.Core.Path.{◌≡◌, sym, ap, ◌∙◌}
use mathlib.Core.Logic.{◌⊎◌, inl, inr}
use mathlib.Core.List.{List}
use Prim.Native.Nat.{ℕ, zero, suc, ◌+◌, ◌≤◌, ◌<◌, min, max}
use native.Mathlib.Omega.{arith}
use lib.ListN.{length, get_or, set, length-set, get_or-map}
use lib.Seq.{get_or-set_same, get_or-set_other}
use Rattle.stack.specs.Value.{tracks_of}
use Rattle.stack.specs.declared.Tracks.{Tracks}
use Rattle.stack.specs.Sizes.{strips_held}
use Rattle.numbers.proofs.Orders.{lt_or_eq}
use Rattle.spans.specs.Spans.{cut, shift_back}
use Rattle.spans.specs.declared.Span.{Span}
use Rattle.spans.specs.Solver.{fixed}
use Rattle.arrays.specs.Arrays.{bias, entry, low_of, high_of, last_of, window_of, levels, StackAsks, taken}
use Rattle.arrays.specs.declared.Given.{Given}
use Rattle.positions.specs.Positions.{fixed_from, StartsAre}
use Rattle.positions.specs.Positions.{Fixing}
use Rattle.arrays.proofs.Levels.{low_at_any, high_at_any}

-- a separation read from the array
pub track_at : (ts : List Tracks) (i : ℕ) → (get_or ts i (record { 0 = 0 })).0 ≡ entry (tracks_of ts) i
track_at ts i = sym (get_or-map (λ (t : Tracks). t.0) ts i (record { 0 = 0 }))

module _ (g : Given) (ts : List ℕ) (a : StackAsks g) where
  -- the start of strip j written
  writes : (j x : ℕ) (starts : List ℕ) → length starts ≡ strips_held → j ≤ g.channels → ((n : ℕ) → j + n ≡ g.channels → x ≡ (fixed_from g ts j n).from) → StartsAre g ts (suc j) starts → StartsAre g ts j (set starts j x)
  writes j x starts l h e s = record { size = length-set starts j x ∙ l; written = λ i n m p. go i n p (lt_or_eq j i m) }
    where
      go : (i n : ℕ) → i + n ≡ g.channels → (j < i) ⊎ (j ≡ i) → entry (set starts j x) i ≡ (fixed_from g ts i n).from
      go i n p (inl m) = get_or-set_other starts j i x 0 (omega arith) ∙ s.written i n m p
      go i n p (inr m) = rw (← m) (get_or-set_same starts j x 0 (omega (arith, a.channels)) ∙ e n (rw (← m) at p))

  none_written : (starts : List ℕ) → length starts ≡ strips_held → StartsAre g ts (suc g.channels) starts
  none_written starts l = record { size = l; written = λ j n h e. absurd (omega arith) }

  top : (n : ℕ) → g.channels + n ≡ g.channels → window_of g g.channels ≡ fixed_from g ts g.channels n
  unfolding fixed levels
  top n e = let z : n ≡ 0 = omega arith in rw z

  pub fixing_start : (starts : List ℕ) → length starts ≡ strips_held → Fixing g ts g.channels (window_of g g.channels) (set starts g.channels (window_of g g.channels).from)
  fixing_start starts l =
      record {
        to_top = omega arith;
        starts_are = writes g.channels _ starts l (omega arith) (λ n e. ap (λ (s : Span). s.from) (top n e)) (none_written starts l);
        here = top;
        from_small = omega (arith, a.starts g.channels (omega arith));
        upto_small = omega (arith, a.ends g.channels (omega arith));
      }

  module _ (i j q : ℕ) (s t : Span) (starts : List ℕ) (f : Fixing g ts i s starts) (below : j + 1 ≡ i) (qe : q ≡ entry ts j) (te : t ≡ cut (window_of g j) (shift_back bias (low_of g j (min q (last_of g j))) (high_of g j (min q (last_of g j))) s)) where
    above : (n : ℕ) → suc j + n ≡ g.channels → s ≡ fixed_from g ts (suc j) n
    above n e = let z : suc j ≡ i = omega arith in rw z (f.here n (omega arith))

    here_below : (n : ℕ) → j + n ≡ g.channels → t ≡ fixed_from g ts j n
    unfolding fixed levels taken
    here_below zero e = absurd (omega (arith, f.to_top))
    here_below (suc n) e =
        rw (low_at_any (low_of g j) (high_of g j) (last_of g j) (entry ts j), high_at_any (low_of g j) (high_of g j) (last_of g j) (entry ts j), ← above n (omega arith), ← qe) te

    t_ends : (t.from ≤ max (window_of g j).from (s.from + bias)) × (t.upto ≤ (window_of g j).upto)
    t_ends = (rw te (omega arith), rw te (omega arith))

    pub fixing_step : Fixing g ts j t (set starts j t.from)
    fixing_step =
        let z : suc j ≡ i = omega arith in
        record {
          to_top = omega (arith, f.to_top);
          starts_are = writes j t.from starts f.starts_are.size (omega (arith, f.to_top)) (λ n e. ap (λ (r : Span). r.from) (here_below n e)) (rw z f.starts_are);
          here = here_below;
          from_small = omega (arith, t_ends, f.from_small, a.starts j (omega (arith, f.to_top)), f.to_top);
          upto_small = omega (arith, t_ends, a.ends j (omega (arith, f.to_top)));
        }
