-- The laws of the scan over strips and totals. Assumes nothing.
use mathlib.Core.Path.{◌≡◌, refl, sym, ap, ap₂, ◌∙◌}
use mathlib.Core.Bool.{true}
use mathlib.Core.Logic.{◌⊎◌, inl, inr}
use mathlib.Core.List.{List}
use Prim.Native.Nat.{ℕ, zero, suc, ◌+◌, ◌-◌, ◌*◌, ◌≤◌, ◌<◌, min, max}
use native.Mathlib.Numerals.{add-one}
use native.Mathlib.Omega.{arith}
use lib.ListN.{set, replicate, length-set, get_or-replicate}
use lib.Seq.{get_or-set_same, get_or-set_other}
use Rattle.std.specs.Prelude.{Option, None, Some, is_some}
use Rattle.numbers.proofs.Orders.{lt_or_eq, eq_or_not, le_or_lt}
use Rattle.stack.specs.Sizes.{strips_held, totals_held}
use Rattle.spans.specs.Spans.{nonempty}
use Rattle.spans.specs.declared.Span.{Span}
use Rattle.spans.specs.Solver.{opens, first_open, most, start, stop, cell, back, first_total}
use Rattle.spans.specs.Jump.{nearest, furthest, shortfall, cell_short}
use Rattle.arrays.specs.Arrays.{bias, unless_zero, entry, low_of, high_of, last_of, window_of, levels, Sized, span_in, StackAsks, Filled, limits_of}
use Rattle.arrays.specs.declared.StripSpans.{StripSpans}
use Rattle.arrays.specs.declared.Given.{Given}
use Rattle.scan.specs.declared.Cell.{Cell}
use Rattle.scan.specs.Scan.{put_span, cell_of, StripAsks, StripDone, jump_if, short_of, EmptyOn, none_in, Cleared, OnlyAt, EmptiesAre, Scanning, TotalAsks, ScanAsks, ScanIs}
use Rattle.arrays.specs.Search.{Searching}
use Rattle.arrays.proofs.Options.{number_some}
use Rattle.arrays.proofs.Searches.{searching_hit, searching_miss, searching_end, ends_full, ends_empty}
use Rattle.scan.proofs.Tables.{put_same, put_apart, sized_put}
use Rattle.spans.proofs.First.{first_upto}
use Rattle.scan.proofs.Scanning.{cell_none, short_empty}
use Rattle.arrays.proofs.Levels.{last_is, most_step, least_at, above_at, cell_back, back_ends, open_of, low_at_of, high_at_of, in_use as use_within}

-- A SHORTFALL from the arrays is that of the levels
pub nearest_same : (b : ℕ) (high₁ high₂ : ℕ → ℕ) (f₁ f₂ : ℕ → Span) (q n t : ℕ) → ((j : ℕ) → q ≤ j → j < q + n → (high₁ j ≡ high₂ j) × (f₁ j ≡ f₂ j)) →
    nearest b high₁ f₁ q n t ≡ nearest b high₂ f₂ q n t
unfolding nearest
nearest_same b high₁ high₂ f₁ f₂ q zero t h = refl
nearest_same b high₁ high₂ f₁ f₂ q (suc n) t h =
    let e = h q (omega arith) (omega arith) in
    rw (e.0, e.1) (nearest_same b high₁ high₂ f₁ f₂ (suc q) n _ (λ j k m. h j (omega arith) (omega arith)))

pub furthest_same : (b : ℕ) (low₁ low₂ : ℕ → ℕ) (f₁ f₂ : ℕ → Span) (q n t : ℕ) → ((j : ℕ) → q ≤ j → j < q + n → (low₁ j ≡ low₂ j) × (f₁ j ≡ f₂ j)) →
    furthest b low₁ f₁ q n t ≡ furthest b low₂ f₂ q n t
unfolding furthest
furthest_same b low₁ low₂ f₁ f₂ q zero t h = refl
furthest_same b low₁ low₂ f₁ f₂ q (suc n) t h =
    let e = h q (omega arith) (omega arith) in
    rw (e.0, e.1) (furthest_same b low₁ low₂ f₁ f₂ (suc q) n _ (λ j k m. h j (omega arith) (omega arith)))

module _ (g : Given) (i n v : ℕ) (f : ℕ → Span) where
  abbrev last : ℕ
  last = last_of g i

  abbrev above : ℕ
  above = most (levels g (suc i) n)

  pub short_back : v ≤ last + above → ((u : ℕ) → u ≤ v → u ≤ above → f u ≡ back bias (window_of g (suc i)) (levels g (suc i) n) u) →
      cell_short bias bias (low_of g i) (high_of g i) (first_open (low_of g i) (high_of g i) last) last above f (window_of g i) v ≡ short_of g i n v
  unfolding cell_short
  short_back h s =
      rw (last_is (low_of g i) (high_of g i) last, open_of (low_of g i) (high_of g i) last)
      (ap₂ (shortfall bias (window_of g i))
      (nearest_same bias _ _ _ _ _ _ bias (λ j k m. let r = in_use j k m in (sym (high_at_of (low_of g i) (high_of g i) last j r.0), s (v - j) (omega arith) r.2)))
      (furthest_same bias _ _ _ _ _ _ 0 (λ j k m. let r = in_use j k m in (sym (low_at_of (low_of g i) (high_of g i) last j r.0), s (v - j) (omega arith) r.2))))
    where
      o : ℕ
      o = first_open (low_of g i) (high_of g i) last

      in_use : (j : ℕ) → start o last above v ≤ j → j < start o last above v + (stop last v - start o last above v) → (j ≤ last) × (j ≤ v) × (v - j ≤ above)
      in_use j k m = use_within o last above v j h k m

pub none_yet : (g : Given) (cap : ℕ) (table₀ table : List StripSpans) → ScanAsks g cap table₀ → Cleared g.windows g.channels 0 cap table → ScanAsks g 0 table
none_yet g cap table₀ table a c =
    record { stack = a.stack; total = omega arith; of_use = omega arith; sized = c.sized }

-- THE TABLE before the first total: the top strip's window
module _ (g : Given) (table : List StripSpans) (a : ScanAsks g 0 table) where
  abbrev top_table : List StripSpans
  top_table = put_span table g.channels 0 (window_of g g.channels)

  pub scanning_start : Scanning g 0 g.channels top_table bias
  unfolding most levels back
  scanning_start =
      record {
        sized = sized_put table a.sized g.channels 0 (window_of g g.channels) (omega (arith, a.stack.channels));
        earlier = λ j n u e h m. absurd (omega arith);
        here = λ j n h e m. let z : n ≡ 0 = omega arith in let p : j ≡ g.channels = omega arith in rw (z, p) (put_same table a.sized g.channels 0 (window_of g g.channels) (omega (arith, a.stack.channels)) (omega arith));
        jump_some = omega arith;
        jump_small = omega arith;
        earlier_jump = λ j n u e h m t. absurd (omega arith);
        here_jump = λ j n h e m t. absurd (omega arith);
      }

  pub empties_start : EmptiesAre g.channels 0 g.channels top_table (replicate strips_held 0)
  empties_start =
      record {
        size = refl;
        empty = λ j u h l. absurd (omega (arith, none j h));
        earlier = λ j h. omega (arith, none j (omega arith));
        here = λ j h. omega (arith, none j h);
      }
    where
      none : (j : ℕ) → j ≤ g.channels → entry (replicate strips_held 0) j ≡ 0
      none j h = get_or-replicate strips_held j 0 0 (omega (arith, a.stack.channels))

  pub cleared_start : (cap : ℕ) → Cleared g.windows g.channels 0 cap table → Cleared g.windows g.channels 0 cap top_table
  cleared_start cap c =
      record {
        sized = sized_put table a.sized g.channels 0 (window_of g g.channels) (omega (arith, a.stack.channels));
        cleared = λ j u h m l.
            put_apart table a.sized g.channels 0 (window_of g g.channels) (omega (arith, a.stack.channels)) j u (λ p q. omega arith) ∙ c.cleared j u h m l;
      }

pub nothing_tried : (least last above empty u : ℕ) → u < least + empty → min (last + 1) (u + 1 - empty) ≤ max least (u - above)
nothing_tried least last above empty u h = let k : u + 1 - empty ≤ least = omega arith in omega arith

empties_below : (k v i j : ℕ) (table : List StripSpans) (es : List ℕ) → j ≤ i → EmptiesAre k v i table es → EmptiesAre k v j table es
empties_below k v i j table es h m = record { size = m.size; empty = m.empty; earlier = λ p l. m.earlier p (omega arith); here = m.here }

-- what differs from strip i on differs from a strip below on
pub only_below : (v i j : ℕ) (table₀ table : List StripSpans) → j ≤ i → OnlyAt v i table₀ table → OnlyAt v j table₀ table
only_below v i j table₀ table h o = record { kept = λ p u n. o.kept p u (λ l e. n (omega arith) e) }

-- one strip more, strip j under strip i
module _ (g : Given) (v i j : ℕ) (table : List StripSpans) (jump : ℕ) (a : StackAsks g) (s : Scanning g v i table jump) (below : j + 1 ≡ i) (h : i ≤ g.channels) where
  -- how many channels lie above strip i
  abbrev n : ℕ
  n = g.channels - i

  counted : j + suc n ≡ g.channels
  counted = omega arith

  most_here : most (levels g j (suc n)) ≡ last_of g j + most (levels g (suc j) n)
  most_here = most_step g j n

  -- the strip above, by its totals
  above_is : (u : ℕ) → u ≤ v → u ≤ most (levels g (suc j) n) → span_in table (j + 1) u ≡ back bias (window_of g (suc j)) (levels g (suc j) n) u
  above_is u l m = rw (add-one j) (go (lt_or_eq u v l))
    where
      go : (u < v) ⊎ (u ≡ v) → span_in table (suc j) u ≡ back bias (window_of g (suc j)) (levels g (suc j) n) u
      go (inl p) = s.earlier (suc j) n u (omega arith) p m
      go (inr p) = rw p (s.here (suc j) n (omega arith) (omega arith) (rw p at m))

  above_ends : (u : ℕ) → u ≤ v → u ≤ most (levels g (suc j) n) → ((span_in table (j + 1) u).from ≤ bias) × ((span_in table (j + 1) u).upto ≤ bias)
  above_ends u l m =
      let r = above_is u l m in
      omega (arith, ap (λ (t : Span). t.from) r, ap (λ (t : Span). t.upto) r, back_ends bias (window_of g (suc j)) (levels g (suc j) n) u, a.starts (suc j) (omega arith), a.ends (suc j) (omega arith))

  -- the table stays as it is, where strip j's span at the total v stands there, and is short by no less than the jump
  scanning_kept : (v ≤ most (levels g j (suc n)) → span_in table j v ≡ back bias (window_of g j) (levels g j (suc n)) v) →
      (v ≤ most (levels g j (suc n)) → 0 < short_of g j n v → jump ≤ short_of g j n v) → Scanning g v j table jump
  scanning_kept b d =
      record {
        sized = s.sized;
        earlier = s.earlier;
        here = λ p m l e u. go p m e u (lt_or_eq j p l);
        jump_some = s.jump_some;
        jump_small = s.jump_small;
        earlier_jump = s.earlier_jump;
        here_jump = λ p m l e u x. jumps p m e u x (lt_or_eq j p l);
      }
    where
      go : (p m : ℕ) → p + m ≡ g.channels → v ≤ most (levels g p m) → (j < p) ⊎ (j ≡ p) → span_in table p v ≡ back bias (window_of g p) (levels g p m) v
      go p m e u (inl l) = s.here p m (omega arith) e u
      go p m e u (inr l) = let z : m ≡ suc n = omega arith in rw (← l, z) (b (rw (← l, z) at u))

      jumps : (p m : ℕ) → p + suc m ≡ g.channels → v ≤ most (levels g p (suc m)) → 0 < short_of g p m v → (j < p) ⊎ (j ≡ p) → jump ≤ short_of g p m v
      jumps p m e u x (inl l) = s.here_jump p m (omega arith) e u x
      jumps p m e u x (inr l) = let z : m ≡ n = omega arith in rw (← l, z) (d (rw (← l, z) at u) (rw (← l, z) at x))

  module _ (least above : ℕ) (le : least ≡ first_open (low_of g j) (high_of g j) (last_of g j)) (ab : above ≡ most (levels g (suc j) n)) where
    abbrev f : ℕ → Span
    f = span_in table (j + 1)

    cell_at : (u : ℕ) → u ≤ v → u ≤ last_of g j + above → cell bias (low_of g j) (high_of g j) least (last_of g j) above f (window_of g j) u ≡ back bias (window_of g j) (levels g j (suc n)) u
    cell_at u l m = rw (le, ab) (cell_back g j n u f (omega arith) (λ q c d e. above_is (u - q) (omega arith) e))

    short_at_total : v ≤ last_of g j + above → cell_short bias bias (low_of g j) (high_of g j) least (last_of g j) above f (window_of g j) v ≡ short_of g j n v
    short_at_total m = rw (le, ab) (short_back g j n v f (omega arith) (λ t o p. above_is t o p))

    -- the strip above has an empty span for totals below empty
    module _ (empty : ℕ) (none : (u : ℕ) → u < empty → u ≤ above → (span_in table (j + 1) u).upto ≤ (span_in table (j + 1) u).from) (t : v < totals_held) where
      asks_at : (u : ℕ) → u ≤ v → u ≤ last_of g j + above → StripAsks (limits_of g.limits j) (cell_of g j u least above empty) table
      asks_at u l o =
          record {
            channel = omega (arith, a.channels);
            total = omega arith;
            listed = omega (arith, a.listed j (omega arith));
            of_use = o;
            start = a.starts j (omega arith);
            end = a.ends j (omega arith);
            lows_small = λ q p. a.lows j q (omega arith) (omega arith);
            highs_small = λ q p. a.highs j q (omega arith) (omega arith);
            starts = λ w p m. (above_ends w (omega arith) (omega arith)).0;
            ends = λ w p m. (above_ends w (omega arith) (omega arith)).1;
            empties = none;
          }

      none_at : (u : ℕ) → u ≤ v → u ≤ last_of g j + above → u < least + empty →
          (cell bias (low_of g j) (high_of g j) least (last_of g j) above f (window_of g j) u ≡ none_in (window_of g j))
          × (cell_short bias bias (low_of g j) (high_of g j) least (last_of g j) above f (window_of g j) u ≡ 2 * bias + 1)
      none_at u l o b =
          cell_none (limits_of g.limits j) (cell_of g j u least above empty) table (max least (u - above)) (min (last_of g j + 1) (u + 1 - empty)) (asks_at u l o) refl refl
          (nothing_tried least (last_of g j) above empty u b)

      -- a total below which the strip above leaves nothing
      pub back_none : (u : ℕ) → u ≤ v → u ≤ last_of g j + above → u < least + empty → back bias (window_of g j) (levels g j (suc n)) u ≡ none_in (window_of g j)
      back_none u l o b = sym (cell_at u l o) ∙ (none_at u l o b).0

      -- the strip is passed over
      module _ (beyond : v < least + empty) (clear : span_in table j v ≡ none_in (window_of g j)) where
        pub scanning_none : Scanning g v j table jump
        scanning_none =
            scanning_kept (λ u. clear ∙ sym (back_none v (omega arith) (omega (arith, most_here)) beyond))
            (λ u x. let o : v ≤ last_of g j + above = omega (arith, most_here) in omega (arith, short_at_total o, (none_at v (omega arith) o beyond).1, s.jump_small))

        -- it has an empty span for every total so far
        pub none_here : (u : ℕ) → u < suc v → u ≤ most (levels g j (suc n)) → (span_in table j u).upto ≤ (span_in table j u).from
        none_here u l m =
            let e = go (lt_or_eq u v (omega arith)) in
            omega (arith, ap (λ (t : Span). t.upto) e)
          where
            go : (u < v) ⊎ (u ≡ v) → span_in table j u ≡ none_in (window_of g j)
            go (inl o) = s.earlier j (suc n) u counted o m ∙ back_none u (omega arith) (omega (arith, most_here)) (omega arith)
            go (inr o) = rw o clear

    module _ (used : v ≤ last_of g j + above) where
      pub strip_asks : (es : List ℕ) → EmptiesAre g.channels v i table es → v < totals_held →
          StripAsks (limits_of g.limits j) (cell_of g j v least above (entry es (j + 1))) table
      strip_asks es m t = asks_at (entry es (j + 1)) (λ u l o. m.empty (j + 1) u (omega arith) l) t v (omega arith) used

      module _ (empty : ℕ) (table' : List StripSpans) (short : Option ℕ) (d : StripDone (limits_of g.limits j) (cell_of g j v least above empty) table table' short) (t : v < totals_held) where
        abbrev written_span : Span
        written_span = cell bias (low_of g j) (high_of g j) least (last_of g j) above f (window_of g j) v

        short_is : short ≡ unless_zero (short_of g j n v)
        short_is = d.short_is ∙ ap unless_zero (short_at_total used)

        -- the other cells are as they were
        kept : (p u : ℕ) → (p ≡ j → u ≡ v → ⊥) → span_in table' p u ≡ span_in table p u
        kept p u m =
            rw d.put_is (put_apart table s.sized j v written_span (omega (arith, a.channels)) p u m)

        cell_written : span_in table' j v ≡ written_span
        cell_written = rw d.put_is (put_same table s.sized j v written_span (omega (arith, a.channels)) t)

        here_written : span_in table' j v ≡ back bias (window_of g j) (levels g j (suc n)) v
        here_written = cell_written ∙ cell_at v (omega arith) used

        jump_less : (z : Option ℕ) → jump_if z jump ≤ jump
        jump_less None = omega arith
        jump_less (Some z) = omega arith

        jump_short : (x : ℕ) → 0 < x → jump_if (unless_zero x) jump ≤ x
        jump_short zero l = absurd (omega arith)
        jump_short (suc x) l = omega arith

        pub scanning_strip : Scanning g v j table' (jump_if short jump)
        scanning_strip =
            record {
              sized = rw d.put_is (sized_put table s.sized j v written_span (omega (arith, a.channels)));
              earlier = λ p m u e l o. kept p u (λ q r. omega arith) ∙ s.earlier p m u e l o;
              here = λ p m l e o. go p m e o (lt_or_eq j p l);
              jump_some = rw short_is (some (short_of g j n v));
              jump_small = omega (arith, jump_less short, s.jump_small);
              earlier_jump = λ p m u e l o x. omega (arith, jump_less short, s.earlier_jump p m u e l o x);
              here_jump = λ p m l e o x. jumps p m e o x (lt_or_eq j p l);
            }
          where
            go : (p m : ℕ) → p + m ≡ g.channels → v ≤ most (levels g p m) → (j < p) ⊎ (j ≡ p) → span_in table' p v ≡ back bias (window_of g p) (levels g p m) v
            go p m e o (inl l) = kept p v (λ q r. omega arith) ∙ s.here p m (omega arith) e o
            go p m e o (inr l) = let z : m ≡ suc n = omega arith in rw (← l, z) here_written

            some : (x : ℕ) → 0 < jump_if (unless_zero x) jump
            some zero = s.jump_some
            some (suc x) = omega (arith, s.jump_some)

            jumps : (p m : ℕ) → p + suc m ≡ g.channels → v ≤ most (levels g p (suc m)) → 0 < short_of g p m v → (j < p) ⊎ (j ≡ p) → jump_if short jump ≤ short_of g p m v
            jumps p m e o x (inl l) = omega (arith, jump_less short, s.here_jump p m (omega arith) e o x)
            jumps p m e o x (inr l) =
                let z : m ≡ n = omega arith in
                rw (← l, z, short_is) (jump_short (short_of g j n v) (rw (← l, z) at x))

        pub only_strip : (table₀ : List StripSpans) → OnlyAt v i table₀ table → OnlyAt v j table₀ table'
        only_strip table₀ o = record { kept = λ p u m. kept p u (λ e q. m (omega arith) q) ∙ o.kept p u (λ l q. m (omega arith) q) }

        short_here : is_some short ≡ true → (span_in table' j v).upto ≤ (span_in table' j v).from
        short_here x =
            let e = short_empty (low_of g j) (high_of g j) least (last_of g j) above f (window_of g j) v (omega (arith, a.ends j (omega arith))) (number_some _ (rw d.short_is at x)) in
            omega (arith, e, ap (λ (x : Span). x.from) cell_written, ap (λ (x : Span). x.upto) cell_written)

        pub empties_strip : (es : List ℕ) (x : ℕ) → EmptiesAre g.channels v i table es → least + entry es (j + 1) ≤ v → EmptyOn (max (entry es j) (least + entry es (j + 1))) v short x →
            EmptiesAre g.channels v j table' (set es j x)
        empties_strip es x m b o =
            record {
              size = length-set es j x ∙ m.size;
              empty = λ p u l q. go p u l q (eq_or_not p j);
              earlier = λ p l. rw (get_or-set_other es j p x 0 (omega arith)) (m.earlier p (omega arith));
              here = λ p l. bound p l (eq_or_not p j);
            }
          where
            written : entry (set es j x) j ≡ x
            written = get_or-set_same es j x 0 (omega (arith, m.size, a.channels))

            -- a cell that was empty and is not the one written
            still : (p u : ℕ) → p ≤ g.channels → u < entry es p → (p ≡ j → u ≡ v → ⊥) → (span_in table' p u).upto ≤ (span_in table' p u).from
            still p u l q n =
                let e = kept p u n in
                omega (arith, ap (λ (t : Span). t.from) e, ap (λ (t : Span). t.upto) e, m.empty p u l q)

            -- a total that the strip above leaves nothing for
            beyond : (u : ℕ) → u < least + entry es (j + 1) → (span_in table' j u).upto ≤ (span_in table' j u).from
            beyond u q =
                let e = kept j u (λ y z. omega arith) ∙ (s.earlier j (suc n) u counted (omega arith) (omega (arith, most_here))
                ∙ back_none (entry es (j + 1)) (λ w l o. m.empty (j + 1) w (omega arith) l) t u (omega arith) (omega arith) q) in
                omega (arith, ap (λ (t : Span). t.upto) e)

            known : (u : ℕ) → (entry es j ≤ u) ⊎ (u < entry es j) → u < max (entry es j) (least + entry es (j + 1)) → (span_in table' j u).upto ≤ (span_in table' j u).from
            known u (inl q) w = beyond u (omega arith)
            known u (inr q) w = still j u (omega arith) q (λ y z. omega (arith, m.earlier j (omega arith)))

            own : (u : ℕ) → (u < max (entry es j) (least + entry es (j + 1))) ⊎ ((u ≡ v) × (is_some short ≡ true)) → (span_in table' j u).upto ≤ (span_in table' j u).from
            own u (inl q) = known u (le_or_lt (entry es j) u) q
            own u (inr q) = rw q.0 (short_here q.1)

            go : (p u : ℕ) → p ≤ g.channels → u < entry (set es j x) p → (p ≡ j) ⊎ (p ≡ j → ⊥) → (span_in table' p u).upto ≤ (span_in table' p u).from
            go p u l q (inl e) = rw e (own u (o.known u (rw (e, written) at q)))
            go p u l q (inr n) = still p u l (rw (get_or-set_other es j p x 0 n) at q) (λ y z. n y)

            bound : (p : ℕ) → p ≤ g.channels → (p ≡ j) ⊎ (p ≡ j → ⊥) → entry (set es j x) p ≤ suc v
            bound p l (inl e) = rw (e, written) (o.at_most (omega (arith, m.earlier j (omega arith))))
            bound p l (inr n) = rw (get_or-set_other es j p x 0 n) (m.here p l)

  -- a strip for which the total is beyond use
  pub scanning_skip : most (levels g j (suc n)) < v → Scanning g v j table jump
  scanning_skip o = scanning_kept (λ u. absurd (omega arith)) (λ u x. absurd (omega arith))

-- the strips below strip i, if that has an empty span for every total so far
pub scanning_bottom : (g : Given) (v i : ℕ) (table : List StripSpans) (jump : ℕ) → StackAsks g → v < totals_held → i ≤ g.channels → Scanning g v i table jump →
    ((j : ℕ) → j < i → span_in table j v ≡ none_in (window_of g j)) →
    ((u : ℕ) → u < suc v → u ≤ most (levels g i (g.channels - i)) → (span_in table i u).upto ≤ (span_in table i u).from) → Scanning g v 0 table jump
scanning_bottom g v zero table jump a t h s c e = s
scanning_bottom g v (suc j) table jump a t h s c e =
    scanning_bottom g v j table jump a t (omega arith) scanned (λ p l. c p (omega arith)) (λ u l m. empties u l (rw (← counted) at m))
  where
    counted : suc (g.channels - suc j) ≡ g.channels - j
    counted = omega arith

    least : ℕ
    least = first_open (low_of g j) (high_of g j) (last_of g j)

    scanned : Scanning g v j table jump
    scanned =
        scanning_none g v (suc j) j table jump a s (omega arith) h least (most (levels g (suc j) (g.channels - suc j))) refl refl (suc v)
        (λ u l m. rw (add-one j) (e u l m)) t (omega arith) (c j (omega arith))

    empties : (u : ℕ) → u < suc v → u ≤ most (levels g j (suc (g.channels - suc j))) → (span_in table j u).upto ≤ (span_in table j u).from
    empties =
        none_here g v (suc j) j table jump a s (omega arith) h least (most (levels g (suc j) (g.channels - suc j))) refl refl (suc v)
        (λ u l m. rw (add-one j) (e u l m)) t (omega arith) (c j (omega arith))

-- THE LOOP OVER TOTALS
pub empties_next : (k v : ℕ) (table : List StripSpans) (es : List ℕ) → EmptiesAre k v 0 table es → EmptiesAre k (v + 1) k table es
empties_next k v table es m =
    record { size = m.size; empty = m.empty; earlier = λ j l. omega (arith, m.here j (omega arith)); here = λ j l. omega (arith, m.here j l) }

pub cleared_next : (windows : List Span) (k v cap : ℕ) (table table' : List StripSpans) → Sized table' → OnlyAt v 0 table table' →
    Cleared windows k v cap table → Cleared windows k (v + 1) cap table'
cleared_next windows k v cap table table' s o c =
    record { sized = s; cleared = λ j u l m n. o.kept j u (λ p q. omega arith) ∙ c.cleared j u l (omega arith) n }

module _ (g : Given) (cap : ℕ) where
  abbrev bottom_span : ℕ → Span
  bottom_span v = back bias (window_of g 0) (levels g 0 g.channels) v

  module _ (v jump : ℕ) (table : List StripSpans) (s : Scanning g v 0 table jump) where
    -- the spans for totals up to v
    upto_here : (j n u : ℕ) → j + n ≡ g.channels → u ≤ most (levels g j n) → (u < v) ⊎ (u ≡ v) → span_in table j u ≡ back bias (window_of g j) (levels g j n) u
    upto_here j n u e m (inl l) = s.earlier j n u e l m
    upto_here j n u e m (inr l) = rw l (s.here j n (omega arith) e (rw l at m))

    pub scanning_next : Scanning g (v + 1) g.channels table jump
    unfolding most levels
    scanning_next =
        record {
          sized = s.sized;
          earlier = λ j n u e h m. upto_here j n u e m (lt_or_eq u v (omega arith));
          here = λ j n h e m. let z : n ≡ 0 = omega arith in absurd (omega (arith, rw z at m));
          jump_some = s.jump_some;
          jump_small = s.jump_small;
          earlier_jump = λ j n u e h m x. jumps j n u e m x (lt_or_eq u v (omega arith));
          here_jump = λ j n h e m x. absurd (omega arith);
        }
      where
        jumps : (j n u : ℕ) → j + suc n ≡ g.channels → u ≤ most (levels g j (suc n)) → 0 < short_of g j n u → (u < v) ⊎ (u ≡ v) → jump ≤ short_of g j n u
        jumps j n u e m x (inl l) = s.earlier_jump j n u e l m x
        jumps j n u e m x (inr l) = rw l (s.here_jump j n (omega arith) e (rw l at m) (rw l at x))

    -- the bottom strip's span, from the tables
    bottom_is : v ≤ most (levels g 0 g.channels) → span_in table 0 v ≡ bottom_span v
    bottom_is m = s.here 0 g.channels (omega arith) (omega arith) m

    table_to : Filled g v 0 table
    table_to = record { sized = s.sized; filled = λ j n u h e c m. upto_here j n u e m (lt_or_eq u v c) }

    module _ (of_use : cap ≤ most (levels g 0 g.channels)) (h : v ≤ cap) (found : ℕ) (q : Searching (λ u. nonempty (bottom_span u)) (suc cap) v found) where
      pub totals_miss : (span_in table 0 v).upto ≤ (span_in table 0 v).from → Searching (λ u. nonempty (bottom_span u)) (suc cap) (v + 1) found
      totals_miss e =
          searching_miss (λ u. nonempty (bottom_span u)) (suc cap) v found q (omega arith) (ends_empty (span_in table 0 v).from (span_in table 0 v).upto (bottom_span v) (bottom_is (omega arith)) e)

      pub totals_hit : (span_in table 0 v).from < (span_in table 0 v).upto → v ≡ found
      totals_hit e =
          searching_hit (λ u. nonempty (bottom_span u)) (suc cap) v found q (omega arith) (ends_full (span_in table 0 v).from (span_in table 0 v).upto (bottom_span v) (bottom_is (omega arith)) e)

      pub scan_found : (before : ℕ) (table₀ : List StripSpans) → Scanning g v g.channels table₀ before → found ≡ first_total bottom_span cap →
          (span_in table 0 v).from < (span_in table 0 v).upto → ScanIs g cap table (record { total = v; jump = before })
      scan_found before table₀ p t e =
          let m : min v cap ≡ v = omega arith in
          record { table = rw m table_to; total_is = totals_hit e ∙ t; jump_some = p.jump_some; jump_is = λ j n u i l o x. p.earlier_jump j n u i l o x }

  pub scan_none : (v jump : ℕ) (table : List StripSpans) → cap < v → v ≤ cap + 1 → Scanning g v g.channels table jump →
      Searching (λ u. nonempty (bottom_span u)) (suc cap) v (first_total bottom_span cap) → ScanIs g cap table (record { total = v; jump = jump })
  scan_none v jump table h i s q =
      let m : min v cap ≡ cap = omega arith in
      record {
        table = rw m (record { sized = s.sized; filled = λ j n u l e c o. s.earlier j n u e (omega arith) o });
        total_is = searching_end (λ u. nonempty (bottom_span u)) (suc cap) v (first_total bottom_span cap) q (omega arith);
        jump_some = s.jump_some;
        jump_is = λ j n u e l o x. s.earlier_jump j n u e l o x;
      }

-- THE LOOP OVER STRIPS, as the code goes: from strip i to strip i - 1
module _ (g : Given) (v : ℕ) (es₀ : List ℕ) (table₀ : List StripSpans) (before : ℕ) (t : TotalAsks g v es₀ table₀ before)
    (i : ℕ) (table : List StripSpans) (jump : ℕ) (es : List ℕ) (some : 0 < i) (inside : i ≤ g.channels) (s : Scanning g v i table jump) (m : EmptiesAre g.channels v i table es) (o : OnlyAt v i table₀ table) where
  abbrev j : ℕ
  j = i - 1

  abbrev least_here : ℕ
  least_here = entry g.plan.leasts j

  abbrev above_here : ℕ
  above_here = entry g.plan.above (j + 1)

  -- what strip j at this total is asked
  abbrev here : Cell
  here = cell_of g j v least_here above_here (entry es (j + 1))

  strip_below : j + 1 ≡ i
  strip_below = omega arith

  most_of : entry g.plan.above j ≡ most (levels g j (suc (g.channels - i)))
  most_of = above_at g t.stack.planned j (suc (g.channels - i)) (omega arith)

  above_of : above_here ≡ most (levels g (suc j) (g.channels - i))
  above_of = rw (add-one j) (above_at g t.stack.planned (suc j) (g.channels - i) (omega arith))

  least_of : least_here ≡ first_open (low_of g j) (high_of g j) (last_of g j)
  least_of = least_at g t.stack.planned j (omega arith)

  used_of : v ≤ entry g.plan.above j → v ≤ last_of g j + above_here
  used_of h = omega (arith, most_of, above_of, most_here g v i j table jump t.stack s strip_below inside)

  pub total_strip_asks : v ≤ entry g.plan.above j → StripAsks (limits_of g.limits j) here table
  total_strip_asks h =
      strip_asks g v i j table jump t.stack s strip_below inside least_here above_here least_of above_of (used_of h) es m t.total

  -- the first total that the strip above leaves something for
  abbrev bound : ℕ
  bound = least_here + entry es (j + 1)

  pub bound_room : bound < 4096
  unfolding first_open
  bound_room =
      omega (arith, t.total, least_of, first_upto (opens (low_of g j) (high_of g j)) 0 (suc (last_of g j)), t.stack.listed j (omega arith), m.here (j + 1) (omega arith))

  pub total_strip : v ≤ entry g.plan.above j → bound ≤ v → (table' : List StripSpans) (short : Option ℕ) (next empty : ℕ) →
      StripDone (limits_of g.limits j) here table table' short →
      EmptyOn (max (entry es j) bound) v short empty → next ≡ jump_if short jump →
      Scanning g v j table' next × EmptiesAre g.channels v j table' (set es j empty) × OnlyAt v j table₀ table'
  total_strip h b table' short next empty d x e = (
    rw e
        (scanning_strip g v i j table jump t.stack s strip_below inside least_here above_here least_of above_of (used_of h) (entry es (j + 1)) table' short d t.total),
    empties_strip g v i j table jump t.stack s strip_below inside least_here above_here least_of above_of (used_of h) (entry es (j + 1)) table' short d t.total es empty m b x,
    only_strip g v i j table jump t.stack s strip_below inside least_here above_here least_of above_of (used_of h) (entry es (j + 1)) table' short d t.total table₀ o,
  )

  pub total_skip : entry g.plan.above j < v → Scanning g v j table jump × EmptiesAre g.channels v j table es × OnlyAt v j table₀ table
  total_skip h = (
    scanning_skip g v i j table jump t.stack s strip_below inside (omega (arith, most_of)),
    empties_below g.channels v i j table es (omega arith) m,
    only_below v i j table₀ table (omega arith) o,
  )

  -- nothing is left for this strip, nor for those below
  pub total_none : v < bound → Scanning g v 0 table jump × EmptiesAre g.channels v 0 table es × OnlyAt v 0 table₀ table
  total_none b =
      let z : suc (g.channels - i) ≡ g.channels - j = omega arith in (
        scanning_bottom g v j table jump t.stack t.total (omega arith)
            (scanning_none g v i j table jump t.stack s strip_below inside least_here above_here least_of above_of (entry es (j + 1)) above_empty t.total b (clear_of j (omega arith)))
            (λ p l. clear_of p (omega arith))
            (λ u l q.
            none_here g v i j table jump t.stack s strip_below inside least_here above_here least_of above_of (entry es (j + 1)) above_empty t.total b (clear_of j (omega arith)) u l
            (rw (← z) at q)),
        empties_below g.channels v i 0 table es (omega arith) m,
        only_below v i 0 table₀ table (omega arith) o,
      )
    where
      above_empty : (u : ℕ) → u < entry es (j + 1) → u ≤ above_here → (span_in table (j + 1) u).upto ≤ (span_in table (j + 1) u).from
      above_empty u l q = m.empty (j + 1) u (omega arith) l

      clear_of : (p : ℕ) → p < i → span_in table p v ≡ none_in (window_of g p)
      clear_of p l = o.kept p v (λ q e. omega arith) ∙ t.clear.cleared p v (omega arith) (omega arith) (omega arith)
