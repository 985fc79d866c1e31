-- Left to right a stack whose strips are all free has the same least totals, by the same separations: a strip at x goes to s - length - x, and since the pairs come
-- in the other order, L(t) and R(t) change places. If one stack is another's mirror image, that one is the first's, so one direction is enough. Assumes nothing.
use mathlib.Core.Path.{◌≡◌, refl, sym, ap, ◌∙◌}
use mathlib.Core.Bool.{true}
use mathlib.Core.List.{List, map}
use Prim.Native.Nat.{ℕ, suc, ◌+◌, ◌-◌, ◌≤◌, ◌<◌}
use native.Mathlib.Omega.{arith}
use lib.Dec.{leb}
use lib.ListN.{length, get_or, length-map}
use Rattle.std.proofs.lemmas.List.{length-reverse, get_or-map}
use Rattle.numbers.specs.Lists.{tabulate}
use Rattle.numbers.proofs.Bools.{ands}
use Rattle.numbers.proofs.Lists.{length_tabulate, get_or_tabulate}
use Rattle.stack.specs.Stack.{Pair, pair, p_at, q_at, Channel, no_channel, strip_in, channel_in, Strip, Stack, stack, feasible}
use Rattle.stack.specs.Limits.{rising, on_strips, pairs_within, channel_within}
use Rattle.stack.proofs.Feasible.{feasible_says, says_feasible, clear_by_pairs, by_pairs_clear}
use Rattle.stack.proofs.Rising.{rising_before, rises_each}
use Rattle.stack.proofs.OnStrips.{terminals_on, on_each}
use Rattle.stack.proofs.Placements.{EachPlaced, legal_each, each_legal, stands_within, free_stands}
use Rattle.stack.proofs.Within.{EachWithin, limits_each, each_within}
use Rattle.turned.specs.Turned.{mirrored, mirrored_channel, left_to_right, AllFree, LeftToRightSame}
use Rattle.turned.proofs.Totals.{Carried, carried_same, same_rows}
use Rattle.turned.proofs.UpsideDown.{reversed_at}

-- between strips of these lengths a channel is another's MIRROR image: its terminals and those of the other, in the other order, make up the lengths
pub record Mirrors (a b : ℕ) (c d : Channel) : Type 0 where
  pub floor : d.floor ≡ c.floor
  pub size : length d.pairs ≡ length c.pairs
  pub lower : (i j : ℕ) → suc (i + j) ≡ length c.pairs → p_at c.pairs i + p_at d.pairs j ≡ a
  pub upper : (i j : ℕ) → suc (i + j) ≡ length c.pairs → q_at c.pairs i + q_at d.pairs j ≡ b

mirrors_back : (a b : ℕ) (c d : Channel) → Mirrors a b c d → Mirrors a b d c
mirrors_back a b c d m = record {
  floor = sym m.floor;
  size = sym m.size;
  lower = λ i j e. omega (arith, m.lower j i (omega (arith, m.size)));
  upper = λ i j e. omega (arith, m.upper j i (omega (arith, m.size)));
}

module _ (a b : ℕ) (c : Channel) where
  mirrored_at : (i j : ℕ) → suc (i + j) ≡ length c.pairs → get_or (mirrored_channel a b c).pairs j (pair 0 0) ≡ mirrored a b (get_or c.pairs i (pair 0 0))
  unfolding mirrored_channel
  mirrored_at i j e =
      let long = length-map c.pairs (λ x. mirrored a b x) in
      reversed_at (map (λ x. mirrored a b x) c.pairs) (pair 0 0) i j (e ∙ sym long)
      ∙ get_or-map (λ x. mirrored a b x) c.pairs i (pair 0 0) (pair 0 0) (omega arith)

  mirrored_mirrors : on_strips a b c.pairs ≡ true → Mirrors a b c (mirrored_channel a b c)
  unfolding mirrored_channel mirrored pair p_at q_at
  mirrored_mirrors on = record {
    floor = refl;
    size = length-reverse (map (λ x. mirrored a b x) c.pairs) ∙ length-map c.pairs (λ x. mirrored a b x);
    lower = λ i j e.
        let p = ap (λ (x : Pair). x.p) (mirrored_at i j e) in
        omega (arith, (terminals_on a b c.pairs on i (omega arith)).0);
    upper = λ i j e.
        let q = ap (λ (x : Pair). x.q) (mirrored_at i j e) in
        omega (arith, (terminals_on a b c.pairs on i (omega arith)).1);
  }

-- A CHANNEL's mirror image is feasible with its strips at the mirror images of their positions, and as much within the limits
module _ (a b : ℕ) (c d : Channel) (m : Mirrors a b c d) where
  feasible_mirrored : (s t x y u v : ℕ) → x + a + u ≡ s → y + b + v ≡ s → feasible c t x y ≡ true → feasible d t u v ≡ true
  feasible_mirrored s t x y u v k l e =
      let both = feasible_says c t x y e in
      let f = clear_by_pairs c.pairs t x y both.1 in
      let n = length c.pairs in
      says_feasible d t u v (rw m.floor both.0)
      (by_pairs_clear d.pairs t u v (record {
        left = λ j i r h.
            let z = m.size in
            let p = m.lower (n - suc j) j (omega arith) in
            let q = m.upper (n - suc i) i (omega arith) in
            omega (arith, f.right (n - suc i) (n - suc j) (omega arith) (omega arith));
        right = λ j i r h.
            let z = m.size in
            let p = m.lower (n - suc i) i (omega arith) in
            let q = m.upper (n - suc j) j (omega arith) in
            omega (arith, f.left (n - suc i) (n - suc j) (omega arith) (omega arith));
      }))

  within_mirrored : channel_within a b c ≡ true → channel_within a b d ≡ true
  unfolding channel_within pairs_within
  within_mirrored e =
      let low : leb c.floor 64 ≡ true = search ands in
      let few : leb (length c.pairs) 32 ≡ true = search ands in
      let up : rising c.pairs ≡ true = search ands in
      let n = length c.pairs in
      let z = m.size in
      let rise : rising d.pairs ≡ true =
      rises_each d.pairs (λ j l.
      let i = n - suc (suc j) in
      let r = rising_before c.pairs up i 1 (suc i) (omega arith) (omega arith) in
      record {
        lower = omega (arith, r.lower, m.lower i (suc j) (omega arith), m.lower (suc i) j (omega arith));
        upper = omega (arith, r.upper, m.upper i (suc j) (omega arith), m.upper (suc i) j (omega arith));
      }) in
      let lie : on_strips a b d.pairs ≡ true =
      on_each a b d.pairs (λ j l.
      let i = n - suc j in
      (omega (arith, m.lower i j (omega arith)), omega (arith, m.upper i j (omega arith)))) in
      rw (m.floor, m.size, low, few, rise) lie

-- A STACK is another's mirror image
record MirrorOf (k h : Stack) : Type 0 where
  strips : h.strips ≡ k.strips
  count : length h.channels ≡ length k.channels
  channel : (i : ℕ) → i < length k.channels → Mirrors (strip_in k i).length (strip_in k (suc i)).length (channel_in k i) (channel_in h i)

mirror_back : (k h : Stack) → MirrorOf k h → MirrorOf h k
mirror_back k h m = record {
  strips = sym m.strips;
  count = sym m.count;
  channel = λ i l. rw m.strips (mirrors_back _ _ (channel_in k i) (channel_in h i) (m.channel i (omega (arith, m.count))));
}

left_to_right_is : (k : Stack) → EachWithin k → MirrorOf k (left_to_right k)
unfolding left_to_right stack channel_within pairs_within
left_to_right_is k w = record {
  strips = refl;
  count = length_tabulate (length k.channels) 0 _;
  channel = λ i l.
      let within = w.channels i l in
      rw (get_or_tabulate (length k.channels) i (λ i. mirrored_channel (strip_in k i).length (strip_in k (suc i)).length (channel_in k i)) no_channel l)
      (mirrored_mirrors (strip_in k i).length (strip_in k (suc i)).length (channel_in k i) (search ands));
}

within_mirror : (k h : Stack) → MirrorOf k h → EachWithin k → EachWithin h
within_mirror k h m w = record {
  some = omega (arith, w.some, m.count);
  few = omega (arith, w.few, m.count);
  count = rw m.strips (omega (arith, w.count, m.count));
  strips = rw m.strips w.strips;
  channels = λ i l.
      let n : i < length k.channels = omega (arith, m.count) in
      rw m.strips (within_mirrored _ _ (channel_in k i) (channel_in h i) (m.channel i n) (w.channels i n));
}

carried : (k h : Stack) → MirrorOf k h → length k.strips ≡ suc (length k.channels) → AllFree k → Carried k h
unfolding Carried AllFree
carried k h m count f s ts xs e = record { separations = ts; positions = ys; is_legal = each_legal h s ts ys (omega (arith, longs, m.count)) there; exact = refl }
  where
    p : EachPlaced s k.strips k.channels ts xs
    p = legal_each k s ts xs e

    longs : length h.strips ≡ suc (length k.channels)
    longs = ap (λ (ls : List Strip). length ls) m.strips ∙ count

    ys : List ℕ
    ys = tabulate (length xs) 0 (λ i. s - (strip_in k i).length - get_or xs i 0)

    at : (i : ℕ) → i < length k.strips → get_or ys i 0 ≡ s - (strip_in k i).length - get_or xs i 0
    at i l = get_or_tabulate (length xs) i (λ i. s - (strip_in k i).length - get_or xs i 0) 0 (omega (arith, p.positions))

    within : (i : ℕ) → i < length k.strips → get_or xs i 0 + (strip_in k i).length ≤ s
    within i l = stands_within s (strip_in k i) (get_or xs i 0) (p.stand i l)

    there : EachPlaced s h.strips h.channels ts ys
    there = record {
      positions = length_tabulate (length xs) 0 _ ∙ (p.positions ∙ (count ∙ sym longs));
      separations = p.separations ∙ sym m.count;
      stand = rw m.strips (λ i l. free_stands s (strip_in k i) (get_or ys i 0) (f i l) (omega (arith, at i l, within i l)));
      wired = λ i l.
          let n = m.count in
          let lower = within i (omega (arith, count)) in
          let upper = within (suc i) (omega (arith, count)) in
          feasible_mirrored _ _ (channel_in k i) (channel_in h i) (m.channel i (omega arith)) s _ (get_or xs i 0) (get_or xs (suc i) 0) _ _
          (omega (arith, at i (omega (arith, count)))) (omega (arith, at (suc i) (omega (arith, count)))) (p.wired i (omega arith));
    }

-- LEFT TO RIGHT THE LEAST TOTALS ARE THE SAME
pub left_to_right_same : LeftToRightSame
unfolding LeftToRightSame AllFree left_to_right stack
left_to_right_same k e f =
    let h = left_to_right k in
    let w = limits_each k e in
    let m = left_to_right_is k w in
    let v = within_mirror k h m w in
    let same = carried_same k h (carried k h m w.count f) (carried h k (mirror_back k h m) v.count f) in
    record { within = each_within h v; totals = same; rows = same_rows k h refl same }
