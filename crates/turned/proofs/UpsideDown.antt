-- Upside down a stack has the same least totals: what is legal stays legal where strips, separations and positions are reversed and the edges of each channel
-- exchanged, since L(t) and R(t) then change places. If one stack is another upside down, that one is the first upside down, so one direction is enough. Assumes nothing.
use mathlib.Core.Path.{◌≡◌, refl, sym, ap, ◌∙◌}
use mathlib.Core.Bool.{true}
use mathlib.Core.List.{List, [], ◌∷◌, map, reverse_aux, reverse}
use Prim.Native.Nat.{ℕ, suc, ◌+◌, ◌-◌, max}
use native.Mathlib.Omega.{arith}
use lib.Dec.{leb}
use lib.ListN.{length, get_or, length-map, get_or-map}
use Rattle.std.proofs.lemmas.List.{length-reverse, get_or-reverse, ext_get_or}
use Rattle.numbers.proofs.Bools.{ands}
use Rattle.numbers.proofs.Lists.{length_tabulate, get_or_tabulate}
use Rattle.stack.specs.Stack.{Pair, pair, p_at, q_at, Channel, channel, no_channel, strip_in, channel_in, Strip, strip, no_strip, Stack, stack, feasible, legal, sum, greatest_of, reach, first_spread}
use Rattle.stack.specs.Limits.{rising, on_strips, pairs_within, channel_within, within_limits}
use Rattle.stack.proofs.Feasible.{feasible_says, says_feasible, clear_by_pairs, by_pairs_clear}
use Rattle.stack.proofs.Rising.{rising_before, rises_each}
use Rattle.stack.proofs.OnStrips.{terminals_on, on_each}
use Rattle.stack.proofs.Placements.{legal_each, each_legal}
use Rattle.stack.proofs.Within.{limits_each, each_within}
use Rattle.turned.specs.Turned.{exchanged, upside_down, UpsideDownReverses, UpsideDownSame}
use Rattle.turned.proofs.Totals.{Carried, carried_same, same_rows}

-- a list in reverse: place j has what was at place i, where i + j + 1 is its length
pub reversed_at : {A : Type 0} (xs : List A) (d : A) (i j : ℕ) → suc (i + j) ≡ length xs → get_or (reverse xs) j d ≡ get_or xs i d
reversed_at xs d i j e =
    let k : length xs - 1 - j ≡ i = omega arith in
    get_or-reverse xs j d (omega arith) ∙ ap (λ n. get_or xs n d) k

-- a channel is another with its EDGES EXCHANGED
pub record Exchanged (c d : Channel) : Type 0 where
  pub floor : d.floor ≡ c.floor
  pub size : length d.pairs ≡ length c.pairs
  pub lower : (j : ℕ) → p_at d.pairs j ≡ q_at c.pairs j
  pub upper : (j : ℕ) → q_at d.pairs j ≡ p_at c.pairs j

-- a stack is another UPSIDE DOWN
pub record Reversed (k h : Stack) : Type 0 where
  pub strips_count : length h.strips ≡ length k.strips
  pub channels_count : length h.channels ≡ length k.channels
  pub strip : (i j : ℕ) → suc (i + j) ≡ length k.strips → strip_in h j ≡ strip_in k i
  pub channel : (i j : ℕ) → suc (i + j) ≡ length k.channels → Exchanged (channel_in k i) (channel_in h j)

exchanged_back : (c d : Channel) → Exchanged c d → Exchanged d c
exchanged_back c d t = record { floor = sym t.floor; size = sym t.size; lower = λ j. sym (t.upper j); upper = λ j. sym (t.lower j) }

pub reversed_back : (k h : Stack) → Reversed k h → Reversed h k
reversed_back k h r = record {
  strips_count = sym r.strips_count;
  channels_count = sym r.channels_count;
  strip = λ i j e. sym (r.strip j i (omega (arith, r.strips_count)));
  channel = λ i j e. exchanged_back (channel_in k j) (channel_in h i) (r.channel j i (omega (arith, r.channels_count)));
}

-- a channel with its pairs exchanged is so, and the stack upside down
abbrev turned_channel : Channel → Channel
turned_channel c = channel (map exchanged c.pairs) c.floor

exchanged_is : (c : Channel) → Exchanged c (turned_channel c)
unfolding exchanged p_at q_at pair
exchanged_is c = record {
  floor = refl;
  size = length-map c.pairs exchanged;
  lower = λ j. ap (λ (x : Pair). x.p) (get_or-map exchanged c.pairs j (pair 0 0));
  upper = λ j. ap (λ (x : Pair). x.q) (get_or-map exchanged c.pairs j (pair 0 0));
}

module _ (k : Stack) where
  strip_there : (i j : ℕ) → suc (i + j) ≡ length k.strips → strip_in (upside_down k) j ≡ strip_in k i
  unfolding upside_down stack
  strip_there i j e =
      let at : length k.strips - suc j ≡ i = omega arith in
      get_or_tabulate (length k.strips) j _ no_strip (omega arith) ∙ ap (λ n. strip (strip_in k n).length (strip_in k n).window) at

  channel_there : (i j : ℕ) → suc (i + j) ≡ length k.channels → channel_in (upside_down k) j ≡ turned_channel (channel_in k i)
  unfolding upside_down stack
  channel_there i j e =
      let at : length k.channels - suc j ≡ i = omega arith in
      get_or_tabulate (length k.channels) j _ no_channel (omega arith) ∙ ap (λ n. turned_channel (channel_in k n)) at

  pub upside_down_is : Reversed k (upside_down k)
  unfolding upside_down stack
  upside_down_is = record {
    strips_count = length_tabulate (length k.strips) 0 _;
    channels_count = length_tabulate (length k.channels) 0 _;
    strip = strip_there;
    channel = λ i j e. rw (channel_there i j e) (exchanged_is (channel_in k i));
  }

  -- as lists
  strips_reversed : (upside_down k).strips ≡ reverse k.strips
  strips_reversed =
      let count = upside_down_is.strips_count in
      ext_get_or no_strip (upside_down k).strips (reverse k.strips) (omega (arith, length-reverse k.strips)) (λ j l.
      let i = length k.strips - suc j in
      strip_there i j (omega arith) ∙ sym (reversed_at k.strips no_strip i j (omega arith)))

  channels_reversed : (upside_down k).channels ≡ reverse (map turned_channel k.channels)
  channels_reversed =
      let count = upside_down_is.channels_count in
      let long = length-map k.channels turned_channel in
      ext_get_or no_channel (upside_down k).channels (reverse (map turned_channel k.channels)) (omega (arith, length-reverse (map turned_channel k.channels))) (λ j l.
      let i = length k.channels - suc j in
      channel_there i j (omega arith)
      ∙ sym (reversed_at (map turned_channel k.channels) no_channel i j (omega arith) ∙ get_or-map turned_channel k.channels i no_channel))

pub upside_down_reverses : UpsideDownReverses
unfolding UpsideDownReverses stack
upside_down_reverses k = rw (strips_reversed k, channels_reversed k)

-- A CHANNEL with its edges exchanged is feasible with its strips exchanged, and as much within the limits
module _ (c d : Channel) (r : Exchanged c d) where
  feasible_turned : (t a b : ℕ) → feasible c t a b ≡ true → feasible d t b a ≡ true
  feasible_turned t a b e =
      let both = feasible_says c t a b e in
      let f = clear_by_pairs c.pairs t a b both.1 in
      says_feasible d t b a (rw r.floor both.0)
      (by_pairs_clear d.pairs t b a (record {
        left = λ j i m l. omega (arith, f.right j i m (omega (arith, r.size)), r.lower j, r.upper i);
        right = λ j i m l. omega (arith, f.left j i m (omega (arith, r.size)), r.lower i, r.upper j);
      }))

  within_turned : (a b : ℕ) → channel_within a b c ≡ true → channel_within b a d ≡ true
  unfolding channel_within pairs_within
  within_turned a b e =
      let low : leb c.floor 64 ≡ true = search ands in
      let few : leb (length c.pairs) 32 ≡ true = search ands in
      let up : rising c.pairs ≡ true = search ands in
      let on : on_strips a b c.pairs ≡ true = search ands in
      let rise : rising d.pairs ≡ true =
      rises_each d.pairs (λ j l.
      let n = rising_before c.pairs up j 1 (suc j) (omega arith) (omega (arith, r.size)) in
      record { lower = omega (arith, n.upper, r.lower j, r.lower (suc j)); upper = omega (arith, n.lower, r.upper j, r.upper (suc j)) }) in
      let lie : on_strips b a d.pairs ≡ true =
      on_each b a d.pairs (λ j l.
      let n = terminals_on a b c.pairs on j (omega (arith, r.size)) in
      (omega (arith, n.1, r.lower j), omega (arith, n.0, r.upper j))) in
      rw (r.floor, r.size, low, few, rise) lie

-- A STACK: what is legal is legal upside down
module _ (k h : Stack) (r : Reversed k h) where
  pub legal_reversed : length k.strips ≡ suc (length k.channels) → (s : ℕ) (ts xs : List ℕ) → legal k s ts xs ≡ true → legal h s (reverse ts) (reverse xs) ≡ true
  legal_reversed count s ts xs e =
      let p = legal_each k s ts xs e in
      each_legal h s (reverse ts) (reverse xs) (omega (arith, r.strips_count, r.channels_count)) (record {
        positions = length-reverse xs ∙ (p.positions ∙ sym r.strips_count);
        separations = length-reverse ts ∙ (p.separations ∙ sym r.channels_count);
        stand = λ j l.
            let i = length k.strips - suc j in
            let strip = r.strip i j (omega (arith, r.strips_count)) in
            let at = reversed_at xs 0 i j (omega (arith, r.strips_count, p.positions)) in
            rw (strip, at) (p.stand i (omega (arith, r.strips_count)));
        wired = λ j l.
            let i = length k.channels - suc j in
            let lower = reversed_at xs 0 (suc i) j (omega (arith, r.channels_count, p.positions)) in
            let upper = reversed_at xs 0 i (suc j) (omega (arith, r.channels_count, p.positions)) in
            let between = reversed_at ts 0 i j (omega (arith, r.channels_count, p.separations)) in
            rw (lower, upper, between)
            (feasible_turned (channel_in k i) (channel_in h j) (r.channel i j (omega (arith, r.channels_count))) _ _ _ (p.wired i (omega (arith, r.channels_count))));
      })

  pub within_reversed : within_limits k ≡ true → within_limits h ≡ true
  within_reversed e =
      let w = limits_each k e in
      each_within h (record {
        some = omega (arith, w.some, r.channels_count);
        few = omega (arith, w.few, r.channels_count);
        count = omega (arith, w.count, r.strips_count, r.channels_count);
        strips = λ j l.
            let i = length k.strips - suc j in
            rw (r.strip i j (omega (arith, r.strips_count))) (w.strips i (omega (arith, r.strips_count)));
        channels = λ j l.
            let i = length k.channels - suc j in
            let lower = r.strip (suc i) j (omega (arith, r.channels_count, w.count)) in
            let upper = r.strip i (suc j) (omega (arith, r.channels_count, w.count)) in
            rw (lower, upper)
            (within_turned (channel_in k i) (channel_in h j) (r.channel i j (omega (arith, r.channels_count))) _ _ (w.channels i (omega (arith, r.channels_count))));
      })

sum_before : (ts us : List ℕ) → sum (reverse_aux ts us) ≡ sum ts + sum us
unfolding sum
sum_before [] us = omega arith
sum_before (t ∷ ts) us = omega (arith, sum_before ts (t ∷ us))

pub sum_reversed : (ts : List ℕ) → sum (reverse ts) ≡ sum ts
unfolding sum
sum_reversed ts = omega (arith, sum_before ts [])

carried : (k h : Stack) → Reversed k h → length k.strips ≡ suc (length k.channels) → Carried k h
unfolding Carried
carried k h r count s ts xs e = record {
  separations = reverse ts;
  positions = reverse xs;
  is_legal = legal_reversed k h r count s ts xs e;
  exact = sum_reversed ts;
}

-- the first spread is the same too
greatest_before : (f : Strip → ℕ) (ls ms : List Strip) → greatest_of f (reverse_aux ls ms) ≡ max (greatest_of f ls) (greatest_of f ms)
unfolding greatest_of
greatest_before f [] ms = omega arith
greatest_before f (l ∷ ls) ms = omega (arith, greatest_before f ls (l ∷ ms))

first_spread_reversed : (ls : List Strip) → first_spread (reverse ls) ≡ first_spread ls
unfolding first_spread greatest_of
first_spread_reversed ls = omega (arith, greatest_before (λ (l : Strip). reach l) ls [])

pub first_spread_same : (k : Stack) → first_spread (upside_down k).strips ≡ first_spread k.strips
first_spread_same k = ap (λ ls. first_spread ls) (strips_reversed k) ∙ first_spread_reversed k.strips

-- UPSIDE DOWN THE LEAST TOTALS ARE THE SAME
pub upside_down_same : UpsideDownSame
unfolding UpsideDownSame
upside_down_same k e =
    let h = upside_down k in
    let r = upside_down_is k in
    let count = (limits_each k e).count in
    let same = carried_same k h (carried k h r count) (carried h k (reversed_back k h r) (omega (arith, count, r.strips_count, r.channels_count))) in
    record { within = within_reversed k h r e; totals = same; rows = same_rows k h (sym (first_spread_same k)) same }
