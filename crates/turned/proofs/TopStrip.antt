-- The top strip's legal positions for a spread and a total have no gaps. First the bottom strip's, with a total of at most v: of two placements with separations t
-- and r of the lowest channel, t ≤ r, what is feasible at t is so at r, and what is left for the strips above at r is left at t. So between the two either the strip
-- above stays where it is at r and the offset changes, or the offset stays as it is at t and the strip above moves. Then turned over. Assumes nothing.
use mathlib.Core.Path.{◌≡◌, refl, ◌∙◌}
use mathlib.Core.Bool.{true}
use mathlib.Core.List.{List, [], ◌∷◌, reverse}
use mathlib.Core.Logic.{◌⊎◌, inl, inr}
use Prim.Native.Nat.{ℕ, suc, ◌+◌, ◌-◌, ◌≤◌, ◌<◌, min, max}
use native.Mathlib.Omega.{arith}
use lib.ListN.{length, get_or}
use borrow.Author.Tests.{leb-true, le-leb}
use Rattle.numbers.proofs.Bools.{ands, and_both, impossible}
use Rattle.numbers.proofs.Orders.{le_or_lt}
use Rattle.stack.specs.Stack.{Channel, Window, free, held, Strip, Stack, feasible, in_window, stands, in_spread, channels_good, legal, sum}
use Rattle.stack.specs.Limits.{rising, all_rising, within_limits}
use Rattle.stack.proofs.Feasible.{feasible_convex, feasible_monotone}
use Rattle.stack.proofs.Within.{within_rising, EachWithin, limits_each}
use Rattle.stack.proofs.Placements.{legal_each, stands_within}
use Rattle.turned.specs.Turned.{upside_down}
use Rattle.turned.specs.TopStrip.{TopAt, TopNoGap}
use Rattle.turned.proofs.UpsideDown.{reversed_at, Reversed, reversed_back, upside_down_is, legal_reversed, within_reversed, sum_reversed}

-- A STRIP stands between two positions at which it stands
between_window : (w : Window) (x y z : ℕ) → in_window w x ≡ true → in_window w z ≡ true → min x z ≤ y → y ≤ max x z → in_window w y ≡ true
unfolding in_window
between_window free x y z e f l h = refl
between_window (held a u) x y z e f l h =
    let p = leb-true a x (search ands) in
    let q = leb-true a z (search ands) in
    let r = leb-true x u (search ands) in
    let s = leb-true z u (search ands) in
    rw (le-leb a y (omega arith)) (le-leb y u (omega arith))

between_stands : (s : ℕ) (l : Strip) (x y z : ℕ) → stands s l x ≡ true → stands s l z ≡ true → min x z ≤ y → y ≤ max x z → stands s l y ≡ true
unfolding stands
between_stands s l x y z e f m h =
    rw (le-leb (y + l.length) s (omega (arith, stands_within s l x e, stands_within s l z f))) (between_window l.window x y z (search ands) (search ands) m h)

-- strips and channels CAN be placed with the bottom strip at x and a total of at most v
data Can (s : ℕ) : List Strip → List Channel → (v x : ℕ) → Type 0 where
  alone : {l : Strip} {v x : ℕ} → stands s l x ≡ true → Can s (l ∷ []) [] v x
  under :
      {l m : Strip} {ls : List Strip} {c : Channel} {cs : List Channel} {v u x y : ℕ} → (t : ℕ) → stands s l x ≡ true → feasible c t x y ≡ true → t + u ≤ v →
      Can s (m ∷ ls) cs u y → Can s (l ∷ m ∷ ls) (c ∷ cs) v x

more : {s : ℕ} {ls : List Strip} {cs : List Channel} {u v x : ℕ} → u ≤ v → Can s ls cs u x → Can s ls cs v x
more h (alone e) = alone e
more h (under t e f n p) = under t e f (omega arith) p

abbrev NoGap : (s : ℕ) → List Strip → List Channel → Type 0
NoGap s ls cs = (v x y z : ℕ) → Can s ls cs v x → Can s ls cs v z → min x z ≤ y → y ≤ max x z → Can s ls cs v y

-- one channel more: p has the strip above at a and the separation t, q has it at b and the separation r, and y is between their positions x and z
module _ (s : ℕ) (l m : Strip) (ls : List Strip) (c : Channel) (cs : List Channel) (rise : rising c.pairs ≡ true) (rec : NoGap s (m ∷ ls) cs) where
  module _ (v x y z t u a r w b : ℕ) (here : stands s l y ≡ true) (less : t ≤ r) (n : t + u ≤ v) (k : r + w ≤ v) (f : feasible c t x a ≡ true) (g : feasible c r z b ≡ true)
      (p : Can s (m ∷ ls) cs u a) (q : Can s (m ∷ ls) cs w b) where
    -- the strip above stays at b
    keep : min (a + z) (b + x) + y ≤ b + (x + z) → b + (x + z) ≤ max (a + z) (b + x) + y → Can s (l ∷ m ∷ ls) (c ∷ cs) v y
    keep h i = under r here (feasible_convex c r x a z b y b (feasible_monotone c rise t r x a less f) g h i) k q

    -- the offset stays
    move : x ≤ a + y → min a b ≤ a + y - x → a + y - x ≤ max a b → Can s (l ∷ m ∷ ls) (c ∷ cs) v y
    move d h i =
        under {u = v - t} t here (feasible_convex c t x a x a y (a + y - x) f f (omega arith) (omega arith)) (omega arith)
        (rec (v - t) a (a + y - x) b (more (omega arith) p) (more (omega arith) q) h i)

    between : min x z ≤ y → y ≤ max x z → Can s (l ∷ m ∷ ls) (c ∷ cs) v y
    between h i = go (le_or_lt x z) (le_or_lt (b + x) (a + y))
      where
        go : (x ≤ z) ⊎ (z < x) → (b + x ≤ a + y) ⊎ (a + y < b + x) → Can s (l ∷ m ∷ ls) (c ∷ cs) v y
        go (inl d) (inl e) = keep (omega arith) (omega arith)
        go (inl d) (inr e) = move (omega arith) (omega arith) (omega arith)
        go (inr d) (inl e) = move (omega arith) (omega arith) (omega arith)
        go (inr d) (inr e) = keep (omega arith) (omega arith)

bottom_no_gap : (s : ℕ) (ls : List Strip) (cs : List Channel) → all_rising cs ≡ true → NoGap s ls cs
unfolding all_rising
bottom_no_gap s [] cs rise v x y z p q h i = elim p [ ]
bottom_no_gap s (l ∷ []) (c ∷ cs) rise v x y z p q h i = elim p [ ]
bottom_no_gap s (l ∷ m ∷ ls) [] rise v x y z p q h i = elim p [ ]
bottom_no_gap s (l ∷ []) [] rise v x y z (alone e) (alone f) h i = alone (between_stands s l x y z e f h i)
bottom_no_gap s (l ∷ m ∷ ls) (c ∷ cs) rise v x y z (under {u = u} {y = a} t e f n p) (under {u = w} {y = b} r d g k q) h i =
    go (le_or_lt t r) (bottom_no_gap s (m ∷ ls) cs (search ands))
  where
    up : rising c.pairs ≡ true
    up = search ands

    here : stands s l y ≡ true
    here = between_stands s l x y z e d h i

    go : (t ≤ r) ⊎ (r < t) → NoGap s (m ∷ ls) cs → Can s (l ∷ m ∷ ls) (c ∷ cs) v y
    go (inl o) rec = between s l m ls c cs up rec v x y z t u a r w b here o n k f g p q h i
    go (inr o) rec = between s l m ls c cs up rec v z y x r w b t u a here (omega arith) k n g f q p (omega arith) (omega arith)

-- A LEGAL PLACEMENT as such, and back, with just the total: the separation of the lowest channel may grow
module _ (s : ℕ) where
  placed_can : (ls : List Strip) (cs : List Channel) (ts xs : List ℕ) (v : ℕ) → length ls ≡ suc (length cs) → in_spread s ls xs ≡ true
      → channels_good cs ts xs ≡ true → sum ts ≤ v → Can s ls cs v (get_or xs 0 0)
  unfolding in_spread channels_good sum
  placed_can [] cs ts xs v n e g h = absurd (omega arith)
  placed_can (l ∷ ls) cs ts [] v n e g h = impossible e
  placed_can (l ∷ []) [] ts (x ∷ xs) v n e g h = alone (search ands)
  placed_can (l ∷ m ∷ ls) [] ts (x ∷ xs) v n e g h = absurd (omega arith)
  placed_can (l ∷ []) (c ∷ cs) ts (x ∷ xs) v n e g h = absurd (omega arith)
  placed_can (l ∷ m ∷ ls) (c ∷ cs) [] (x ∷ xs) v n e g h = impossible g
  placed_can (l ∷ m ∷ ls) (c ∷ cs) (t ∷ ts) (x ∷ xs) v n e g h =
      under t (search ands) (search ands) h (placed_can (m ∷ ls) cs ts xs (sum ts) (omega arith) (search ands) (search ands) (omega arith))

  record AtBottom (ls : List Strip) (cs : List Channel) (x : ℕ) (Total : ℕ → Type 0) : Type 0 where
    ts : List ℕ
    ys : List ℕ
    inside : in_spread s ls (x ∷ ys) ≡ true
    good : channels_good cs ts (x ∷ ys) ≡ true
    total : Total (sum ts)

  can_placed : {ls : List Strip} {cs : List Channel} {v x : ℕ} → Can s ls cs v x → AtBottom ls cs x (λ n. n ≤ v)
  unfolding in_spread channels_good sum
  can_placed (alone e) = record { ts = []; ys = []; inside = rw e refl; good = refl; total = omega arith }
  can_placed (under {y = y} t e f n p) =
      let r = can_placed p in
      record { ts = t ∷ r.ts; ys = y ∷ r.ys; inside = rw e r.inside; good = rw f r.good; total = omega (arith, r.total) }

  can_exactly : {ls : List Strip} {cs : List Channel} {v x : ℕ} → all_rising cs ≡ true → 1 ≤ length cs → Can s ls cs v x → AtBottom ls cs x (λ n. n ≡ v)
  unfolding in_spread channels_good all_rising sum
  can_exactly rise some (alone e) = absurd (omega arith)
  can_exactly {v = v} {x = x} rise some (under {c = c} {y = y} t e f n p) =
      let r = can_placed p in
      let g = feasible_monotone c (search ands) t (v - sum r.ts) x y (omega (arith, r.total)) f in
      record { ts = (v - sum r.ts) ∷ r.ts; ys = y ∷ r.ys; inside = rw e r.inside; good = rw g r.good; total = omega (arith, r.total) }

-- TURNED OVER the top strip is the bottom strip
module _ (k : Stack) (s v : ℕ) (e : within_limits k ≡ true) where
  abbrev over : Stack
  over = upside_down k

  is_over : Reversed k over
  is_over = upside_down_is k

  within : EachWithin k
  within = limits_each k e

  count_over : length over.strips ≡ suc (length over.channels)
  count_over = omega (arith, within.count, is_over.strips_count, is_over.channels_count)

  rising_over : all_rising over.channels ≡ true
  rising_over = within_rising over (within_reversed k over is_over e)

  to_bottom : (x : ℕ) → TopAt k s v x → Can s over.strips over.channels v x
  unfolding legal
  to_bottom x t =
      let p = legal_each k s t.separations t.positions t.is_legal in
      let g = legal_reversed k over is_over within.count s t.separations t.positions t.is_legal in
      let top = reversed_at t.positions 0 (length k.channels) 0 (omega (arith, p.positions, within.count)) ∙ t.top in
      rw top at
      (placed_can s over.strips over.channels (reverse t.separations) (reverse t.positions) v count_over (search ands) (search ands)
      (omega (arith, sum_reversed t.separations, t.exact)))

  to_top : (x : ℕ) → Can s over.strips over.channels v x → TopAt k s v x
  unfolding legal
  to_top x c =
      let r = can_exactly s rising_over (omega (arith, within.some, is_over.channels_count)) c in
      let g = and_both (in_spread s over.strips (x ∷ r.ys)) (channels_good over.channels r.ts (x ∷ r.ys)) r.inside r.good in
      let p = legal_each over s r.ts (x ∷ r.ys) g in
      record {
        separations = reverse r.ts;
        positions = reverse (x ∷ r.ys);
        is_legal = legal_reversed over k (reversed_back k over is_over) count_over s r.ts (x ∷ r.ys) g;
        exact = sum_reversed r.ts ∙ r.total;
        top = reversed_at (x ∷ r.ys) 0 0 (length k.channels) (omega (arith, p.positions, within.count, is_over.strips_count));
      }

-- THE TOP STRIP'S POSITIONS HAVE NO GAP
pub top_no_gap : TopNoGap
unfolding TopNoGap
top_no_gap k s v x y z e a b h i =
    to_top k s v e y (bottom_no_gap s (upside_down k).strips (upside_down k).channels (rising_over k s v e) v x y z (to_bottom k s v e x a) (to_bottom k s v e z b) (omega arith) (omega arith))
