-- The laws of the walk that writes the table: its start, an event without a row, an event with one, and its end. Assumes nothing.
use mathlib.Core.Path.{◌≡◌, refl, sym, ap, ◌∙◌}
use mathlib.Core.Bool.{true}
use mathlib.Core.List.{List, [], ◌∷◌, ◌++◌, append_assoc, append-nil}
use Prim.Native.Nat.{ℕ, suc, ◌+◌, ◌-◌, ◌^◌, ◌≤◌, ◌<◌}
use native.Mathlib.Nat.{add-zero}
use native.Mathlib.Omega.{arith}
use lib.ListN.{length, length-append}
use Rattle.stack.specs.Stack.{Stack, Row, first_spread}
use Rattle.stack.specs.Limits.{within_limits}
use Rattle.answer.specs.Solve.{answer_total}
use Rattle.rows.specs.Walk.{row_at, rows_walk, widest, rows_of}
use Rattle.rows.proofs.Settled.{first_widest}
use Rattle.rows.proofs.Jumps.{total_never_rises}
use Rattle.rows.proofs.Walks.{walk_zero, walk_stays, walk_falls, walk_next}
use Rattle.writing.specs.Output.{written_at, Written, row_bytes, rows_most, table_bytes, LinePut, LinePutAt}
use Rattle.writing.specs.TableText.{table_text, row_text, rows_text}
use Rattle.writing.proofs.Bounds.{table_head}
use Rattle.writing.proofs.Lines.{written_starts, written_steps, written_at_start}
use Rattle.table.specs.Walking.{Walking, TablePut}
use Rattle.table.specs.declared.Walk.{Walk}
use Rattle.table.proofs.Space.{table_space}

-- where one line more ends
written_line : (s t before after : List ℕ) (at r : ℕ) → at ≡ length s → Written s before before → LinePutAt at t before after r → (r ≡ length (s ++ t)) × Written (s ++ t) after after
written_line s t before after at r e w p =
    let q : Written (s ++ t) before (written_at (length s) t before) = written_steps t w in
    let now : after ≡ written_at (length s) t before = p.stands ∙ rw e in
    let z : Written (s ++ t) before after = rw now q in
    (p.counted ∙ rw (e, length-append s t), record { stands = z.stands; same_length = refl })

module _ (k : Stack) (good : within_limits k ≡ true) where
  -- BEFORE THE FIRST ROW, behind the first line
  pub begun : (n s all at : ℕ) (before after : List ℕ) → n ≡ length k.channels → s ≡ first_spread k.strips → answer_total k s ≤ all → LinePut (table_text n []) before after at →
      Walking k after (record { spread = s; total = all + 1; jump = 0; at = at })
  unfolding rows_of
  begun n s all at before after c e t h =
      let inside : s ≤ widest k = omega (arith, first_widest k good) in
      let first : Written (table_text n []) before after = rw (h.stands, ← written_at_start (table_text n []) before) (written_steps {s = []} (table_text n []) (written_starts before)) in
      let rows : rows_of k ≡ rows_walk k (suc (widest k) - (s + 0)) (s + 0) (all + 1) = rw (add-zero, ← e) (sym (walk_falls k good (widest k) s (all + 1) inside (omega arith))) in
      record {
        from = omega arith;
        upto = inside;
        least = rw add-zero (omega arith);
        text = table_text n [];
        whole = rw (← c) (table_head n (rows_of k) ∙ ap (λ (rs : List Row). table_text n [] ++ rows_text rs) rows);
        at_is = h.counted;
        written = record { stands = first.stands; same_length = refl };
      }

  -- the text so far is a part of the table's, so it is short
  pub at_fits : (o : List ℕ) (w : Walk) → Walking k o w → w.at ≤ 2 ^ 32
  unfolding table_bytes row_bytes rows_most
  at_fits o w c = omega (arith, c.at_is, simp length-append at (ap length c.whole), table_space k good)

  module _ (o : List ℕ) (w : Walk) (c : Walking k o w) (next jump : ℕ) (more : 0 < jump) (jumped : next ≡ w.spread + w.jump) (inside : next ≤ widest k) where
    from_first : first_spread k.strips ≤ next
    from_first = omega (arith, c.from)

    -- the rows from this event on
    here : table_text (length k.channels) (rows_of k) ≡ c.text ++ rows_text (rows_walk k (suc (widest k) - next) next w.total)
    here = rw jumped c.whole

    -- AN EVENT AT WHICH THE TOTAL STAYS
    pub stepped_on : answer_total k next ≡ w.total → ((d : ℕ) → d < jump → next + d ≤ widest k → w.total ≤ answer_total k (next + d)) →
        Walking k o (record { spread = next; total = w.total; jump = jump; at = w.at })
    stepped_on t stay =
        let rows = walk_stays k good (widest k) next w.total inside (omega arith) ∙ walk_next k good (widest k) next w.total inside jump more stay in
        record {
          from = from_first;
          upto = inside;
          least = omega (arith, total_never_rises k good next (next + jump) from_first (omega arith));
          text = c.text;
          whole = here ∙ ap (λ (rs : List Row). c.text ++ rows_text rs) rows;
          at_is = c.at_is;
          written = c.written;
        }

    -- AN EVENT AT WHICH IT FALLS
    pub stepped_down : (total at : ℕ) (after : List ℕ) → answer_total k next ≡ total → total < w.total → ((d : ℕ) → d < jump → next + d ≤ widest k → total ≤ answer_total k (next + d)) →
        LinePutAt w.at (row_text (row_at k next)) o after at → Walking k after (record { spread = next; total = total; jump = jump; at = at })
    unfolding rows_text
    stepped_down total at after t l stay r =
        let line = written_line c.text (row_text (row_at k next)) o after w.at at c.at_is c.written r in
        let on = walk_next k good (widest k) next total inside jump more stay in
        let rows : rows_walk k (suc (widest k) - next) next w.total ≡ row_at k next ∷ rows_walk k (suc (widest k) - (next + jump)) (next + jump) total =
        walk_falls k good (widest k) next w.total inside (omega arith) ∙ rw t (ap (λ (rs : List Row). row_at k next ∷ rs) on) in
        record {
          from = from_first;
          upto = inside;
          least = omega (arith, total_never_rises k good next (next + jump) from_first (omega arith));
          text = c.text ++ row_text (row_at k next);
          whole = here ∙ (ap (λ (rs : List Row). c.text ++ rows_text rs) rows ∙ sym (append_assoc c.text (row_text (row_at k next)) _));
          at_is = line.0;
          written = line.1;
        }

  ended : (o : List ℕ) (w : Walk) (c : Walking k o w) → rows_walk k (suc (widest k) - (w.spread + w.jump)) (w.spread + w.jump) w.total ≡ [] → TablePut k o w.at
  unfolding rows_text
  ended o w c none =
      let all : table_text (length k.channels) (rows_of k) ≡ c.text = c.whole ∙ (rw none (append-nil c.text)) in
      record { counted = c.at_is ∙ ap length (sym all); written = rw all c.written; few = rw (c.at_is, ← all) (table_space k good) }

  -- THE END: the next event lies beyond the greatest spread of use, or nothing can fall any more
  pub ended_past : (o : List ℕ) (w : Walk) → Walking k o w → widest k < w.spread + w.jump → TablePut k o w.at
  unfolding rows_walk
  ended_past o w c h = let z : suc (widest k) - (w.spread + w.jump) ≡ 0 = omega arith in ended o w c (rw z)

  pub ended_zero : (o : List ℕ) (w : Walk) → Walking k o w → w.total ≡ 0 → TablePut k o w.at
  ended_zero o w c z = ended o w c (rw z (walk_zero k (suc (widest k) - (w.spread + w.jump)) (w.spread + w.jump)))
