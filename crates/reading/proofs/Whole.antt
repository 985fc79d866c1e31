-- The stages of reading a text, one after the other: what each hands on, and the reading of the whole. The refusals of the stages, first come first, are the
-- refusal of the text. Assumes nothing.
use mathlib.Core.Path.{◌≡◌, refl, sym, ◌∙◌}
use mathlib.Core.Bool.{Bool, true, false}
use mathlib.Core.List.{List, [], append-nil}
use Prim.Native.Nat.{ℕ, suc, ◌+◌, ◌*◌, ◌-◌, ◌≤◌, ◌<◌}
use native.Mathlib.Numerals.{add-one}
use native.Mathlib.Omega.{arith}
use lib.Dec.{leb}
use lib.ListN.{length, drop, length-drop, drop_of_length-le}
use borrow.Author.Tests.{leb-true, leb-false, lt-ltb, le-ltb}
use Rattle.std.specs.Prelude.{Ok, Err, ⊤}
use Rattle.numbers.specs.Lists.{tabulate, filled}
use Rattle.numbers.proofs.Lists.{filled_starts}
use Rattle.lines.specs.Lines.{Line, lines}
use Rattle.lines.proofs.Cutting.{lines_some}
use Rattle.stack.specs.Stack.{channel, no_channel, free, strip}
use Rattle.stack.specs.Made.{bare}
use Rattle.text.specs.Text.{Refusal, refusal, fine, or_else, k_of, part_check, nets_check, tail_at, tail_count, channel_before, tail_check, text_refusal, floor_in}
use Rattle.text.specs.Outcome.{refusal_of, refused}
use Rattle.text.specs.declared.Refused.{Refused}
use Rattle.text.specs.declared.Refusal.TheVariants as why
use Rattle.reading.specs.Driver.{upto_head, HeadStands, HeadTaken, strip_read, Parting, PartTaken, parts_refusal, upto_parts, nets_pairs, PartsTaken, Wiring, NetsTaken, nets_refusal, upto_nets, NetsStand, AllNetsTaken, Gapping, IsGapTaken, tail_refusal, upto_gaps, GapsTaken, StackRead}
use Rattle.reading.specs.declared.Progress.{Progress}
use Rattle.text.proofs.Refusals.{or_else_refused, or_else_next, word_not_fine}
use Rattle.reading.proofs.Within.{checks_in_turn, stack_by_lines, accepted_within}
use Rattle.reading.proofs.Places.{gap_means}
use Rattle.reading.proofs.Stages.{lines_start, lines_step, lines_refuse, lines_end}

-- the list of all is full
filled_whole {ℓ} : {A : Type ℓ} (n : ℕ) (f : ℕ → A) (d : A) → filled n n f d ≡ tabulate n 0 f
unfolding filled
filled_whole n f d = let none : n - n ≡ 0 = omega arith in rw none (append-nil (tabulate n 0 f))

-- PART LINES behind the first line
module _ (bs : List ℕ) where
  pub parts_start : (h : Progress) → HeadStands bs h → Parting bs 0 h
  unfolding bare
  parts_start h g =
      let none = filled_starts (suc (k_of (lines bs))) (λ i. strip_read (lines bs) i) (strip 1 free) in
      lines_start bs (λ i. part_check (lines bs) i) 1 (suc (k_of (lines bs))) _ h (rw none g)

  module _ (j : ℕ) (p : Progress) (m : Parting bs j p) (q : Progress) (less : j < suc (k_of (lines bs))) where
    pub parts_step : (x : ⊤) → PartTaken bs j (Ok x) q → Parting bs (j + 1) q
    parts_step x u = lines_step bs (λ i. part_check (lines bs) i) 1 (suc (k_of (lines bs))) j _ p m less _ q x u

    pub parts_refuse : (x : Refused) → PartTaken bs j (Err x) q → PartsTaken bs (Err x) q
    parts_refuse x u = lines_refuse bs (λ i. part_check (lines bs) i) 1 (suc (k_of (lines bs))) j _ p m less _ q x u _ _

  pub parts_end : (j : ℕ) (p : Progress) → Parting bs j p → suc (k_of (lines bs)) ≤ j → PartsTaken bs (Ok (tt {0})) p
  parts_end j p m all =
      let k = k_of (lines bs) in
      let e : j ≡ suc k = omega (arith, m.below) in
      let last : k + 2 ≡ 1 + suc k = omega arith in
      let strips = filled_whole (suc k) (λ i. strip_read (lines bs) i) (strip 1 free) in
      let channels = filled_starts k (λ c. channel (nets_pairs (lines bs) c) 0) no_channel in
      rw (channels, ← strips, last) (rw e at (lines_end bs (λ i. part_check (lines bs) i) 1 (suc k) j _ p m all))

-- NETS LINES behind them
module _ (bs : List ℕ) where
  module _ (c : ℕ) (p : Progress) (m : Wiring bs c p) (q : Progress) (less : c < k_of (lines bs)) where
    pub nets_step : (x : ⊤) → NetsTaken bs c (Ok x) q → Wiring bs (c + 1) q
    nets_step x u = lines_step bs (λ i. nets_check (lines bs) i) (k_of (lines bs) + 2) (k_of (lines bs)) c _ p m less _ q x u

    pub nets_refuse : (x : Refused) → NetsTaken bs c (Err x) q → AllNetsTaken bs (Err x) q
    nets_refuse x u = lines_refuse bs (λ i. nets_check (lines bs) i) (k_of (lines bs) + 2) (k_of (lines bs)) c _ p m less _ q x u _ _

  pub nets_end : (c : ℕ) (p : Progress) → Wiring bs c p → k_of (lines bs) ≤ c → AllNetsTaken bs (Ok (tt {0})) p
  unfolding tail_at tabulate floor_in
  nets_end c p m all =
      let k = k_of (lines bs) in
      let e : c ≡ k = omega (arith, m.below) in
      let last : 2 * k + 2 ≡ k + 2 + k = omega arith in
      let channels = filled_whole k (λ j. channel (nets_pairs (lines bs) j) 0) no_channel in
      rw (last, ← channels) (rw e at (lines_end bs (λ i. nets_check (lines bs) i) (k + 2) k c _ p m all))

-- GAP LINES behind them, up to the text's end: with one line more its channel is the highest
rises : (ls : List Line) (g b c : ℕ) → ((j : ℕ) → j ≤ g → channel_before ls j ≤ b) → b < c → c ≡ channel_before ls (suc g) →
    (j : ℕ) → j ≤ g + 1 → channel_before ls j ≤ c
rises ls g b c below above last j h = go (leb j g) refl
  where
    go : (v : Bool) → leb j g ≡ v → channel_before ls j ≤ c
    go true e = omega (arith, below j (leb-true j g e))
    go false e =
        let s : j ≡ suc g = omega (arith, leb-false j g e) in
        rw (s, ← last) (omega arith)

module _ (bs : List ℕ) where
  pub gaps_start : (n : Progress) → NetsStand bs n → Gapping bs 0 0 n
  unfolding channel_before
  gaps_start n g = record {
    read = lines_start bs (λ i. tail_check (lines bs) i) (tail_at (lines bs)) (tail_count (lines bs)) _ n g;
    last = refl;
    rising = λ j h. let e : j ≡ 0 = omega arith in rw e (omega arith);
    many = omega arith;
    within = omega arith;
  }

  module _ (g b : ℕ) (p : Progress) (m : Gapping bs g b p) where
    lines_left : length (lines (drop p.at bs)) ≡ tail_count (lines bs) - g
    unfolding tail_count
    lines_left = let ls = lines bs in rw m.read.going.rest (length-drop (tail_at ls + g) ls ∙ omega arith)

    gap_next : p.at < length bs → g < tail_count (lines bs)
    gap_next more = omega (arith, lines_left, lines_some (drop p.at bs) (omega (arith, length-drop p.at bs)))

    module _ (q : Progress) (more : p.at < length bs) where
      pub gaps_step : (c : ℕ) → IsGapTaken bs g (Ok c) q → Gapping bs (g + 1) c q
      unfolding channel_before fine refusal
      gaps_step c u =
          let ls = lines bs in
          let says = gap_means bs g b p m (rw (← u.read.outcome)) in
          let last = u.channel in
          let next = add-one g in
          record {
            read = lines_step bs (λ i. tail_check ls i) (tail_at ls) (tail_count ls) g _ p m.read (gap_next more) _ q c u.read;
            last = rw next last;
            rising = rises ls g b c m.rising (omega (arith, says.above)) last;
            many = omega (arith, m.many, says.above);
            within = omega (arith, says.within);
          }

      pub gaps_refuse : (x : Refused) → IsGapTaken bs g (Err x) q → GapsTaken bs (Err x) q
      gaps_refuse x u =
          let ls = lines bs in
          lines_refuse bs (λ i. tail_check ls i) (tail_at ls) (tail_count ls) g _ p m.read (gap_next more) _ q x u.read _ _

    pub gaps_end : length bs ≤ p.at → GapsTaken bs (Ok (tt {0})) p
    unfolding lines
    gaps_end all =
        let ls = lines bs in
        let none : drop p.at bs ≡ [] = drop_of_length-le bs {i = p.at} all in
        let left : tail_count ls - g ≡ 0 = sym lines_left ∙ rw none in
        let past : tail_count ls ≤ g = omega arith in
        let e : g ≡ tail_count ls = omega (arith, m.read.below) in
        rw (stack_by_lines bs) (rw e at (lines_end bs (λ i. tail_check ls i) (tail_at ls) (tail_count ls) g _ p m.read past))

-- THE READING: the first refusal, stage by stage, or the stack
pub overlong_read : (bs : List ℕ) → 8192 < length bs → StackRead bs (Err (refused why.Overlong 0 0))
unfolding text_refusal
overlong_read bs long = record { outcome = rw (lt-ltb 8192 (length bs) long); stack = tt; within = tt }

module _ (bs : List ℕ) (short : length bs ≤ 8192) where
  text_says : text_refusal bs ≡ upto_gaps bs
  unfolding text_refusal
  text_says = rw (le-ltb 8192 (length bs) short) (checks_in_turn bs)

  refused_read : (x : Refused) → refusal_of {A = ⊤} (Err x) ≡ upto_gaps bs → StackRead bs (Err x)
  refused_read x e = record { outcome = e ∙ sym text_says; stack = tt; within = tt }

  -- a refusal stays behind further tests
  stays : (x : Refused) (f g : Refusal) → refusal_of {A = ⊤} (Err x) ≡ f → refusal_of {A = ⊤} (Err x) ≡ or_else f g
  stays x f g e = e ∙ sym (or_else_refused f g (rw e at (word_not_fine x)))

  pub head_stops : (x : Refused) → HeadTaken bs (Err x) → StackRead bs (Err x)
  head_stops x t = refused_read x (stays x (upto_nets bs) _ (stays x (upto_parts bs) _ (stays x (upto_head bs) _ t.outcome)))

  module _ (h : Progress) (t : HeadTaken bs (Ok h)) where
    upto_parts_is : upto_parts bs ≡ parts_refusal bs
    upto_parts_is = or_else_next (upto_head bs) (parts_refusal bs) (sym t.outcome)

    pub parts_stop : (x : Refused) (p : Progress) → PartsTaken bs (Err x) p → StackRead bs (Err x)
    parts_stop x p u = refused_read x (stays x (upto_nets bs) _ (stays x (upto_parts bs) _ (u.outcome ∙ sym upto_parts_is)))

    module _ (a : ⊤) (p : Progress) (u : PartsTaken bs (Ok a) p) where
      upto_nets_is : upto_nets bs ≡ nets_refusal bs
      upto_nets_is = or_else_next (upto_parts bs) (nets_refusal bs) (upto_parts_is ∙ sym u.outcome)

      pub nets_stop : (x : Refused) (q : Progress) → AllNetsTaken bs (Err x) q → StackRead bs (Err x)
      nets_stop x q v = refused_read x (stays x (upto_nets bs) _ (v.outcome ∙ sym upto_nets_is))

      module _ (b : ⊤) (q : Progress) (v : AllNetsTaken bs (Ok b) q) where
        upto_gaps_is : upto_gaps bs ≡ tail_refusal bs
        upto_gaps_is = or_else_next (upto_nets bs) (tail_refusal bs) (upto_nets_is ∙ sym v.outcome)

        pub gaps_stop : (x : Refused) (r : Progress) → GapsTaken bs (Err x) r → StackRead bs (Err x)
        gaps_stop x r w = refused_read x (w.outcome ∙ sym upto_gaps_is)

        pub whole_read : (c : ⊤) (r : Progress) → GapsTaken bs (Ok c) r → StackRead bs (Ok r.stack)
        unfolding fine refusal
        whole_read c r w =
            let says : fine ≡ text_refusal bs = w.outcome ∙ sym (text_says ∙ upto_gaps_is) in
            record { outcome = says; stack = w.going.stands; within = rw (w.going.stands) (accepted_within bs (rw (← says))) }
