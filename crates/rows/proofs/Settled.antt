-- Past the greatest position of a strip that is held and the lengths together no total falls: separations that are possible in some spread are possible in that
-- one. From the top strip down. Strips whose offset is between the limits of a channel with more pairs than tracks between its edges touch. So what stands on a
-- strip is loose, where no strip of its run of touching strips is held: it can stand wherever it leaves some columns on its left and some from it on; or it is
-- fast, and stays where it stood, which is not beyond that position and the lengths together. Assumes nothing.
use mathlib.Core.Path.{◌≡◌, refl}
use mathlib.Core.Bool.{true, false, ◌&&◌}
use mathlib.Core.Logic.{◌⊎◌, inl, inr}
use mathlib.Core.List.{List, [], ◌∷◌}
use Prim.Native.Nat.{ℕ, ◌+◌, ◌*◌, ◌-◌, ◌≤◌, ◌<◌, max}
use native.Mathlib.Omega.{arith}
use lib.Dec.{leb}
use lib.ListN.{length}
use borrow.Author.Tests.{leb-true, le-leb}
use Rattle.numbers.proofs.Bools.{ands, and_right, and_both, impossible}
use Rattle.numbers.proofs.Orders.{le_or_lt}
use Rattle.stack.specs.Stack.{Channel, Window, free, held, Strip, strip, Stack, stack, feasible, in_window, stands, in_spread, channels_good, legal, sum, greatest_of, least_position, first_spread}
use Rattle.stack.specs.Limits.{pairs_within, channel_within, channels_within, window_within, strip_within, strips_within, within_limits}
use Rattle.stack.specs.Lengths.{lengths, greatest_position, last_position}
use Rattle.stack.proofs.Feasible.{ByPairs, by_pairs_clear, clear_by_pairs, feasible_says, says_feasible, feasible_convex}
use Rattle.stack.proofs.Placements.{free_stands}
use Rattle.stack.proofs.OnStrips.{terminals_on}
use Rattle.stack.proofs.Within.{strips_count, channels_few}
use Rattle.limits.specs.Limits.{open_from}
use Rattle.rows.specs.Walk.{widest}

pub feasible_open : (c : Channel) (t x y : ℕ) → c.floor ≤ t → open_from (length c.pairs) ≤ t → feasible c t x y ≡ true
feasible_open c t x y h k =
    says_feasible c t x y h (by_pairs_clear c.pairs t x y (record { left = λ j i e l. absurd (omega arith); right = λ j i e l. absurd (omega arith) }))

-- feasibility goes by the offset alone
feasible_moved : (c : Channel) (t x y x' y' : ℕ) → y + x' ≡ y' + x → feasible c t x y ≡ true → feasible c t x' y' ≡ true
feasible_moved c t x y x' y' e f = feasible_convex c t x y x y x' y' f f (omega arith) (omega arith)

-- where some offset is closed there are more pairs than tracks between the edges, and the strips touch
record Touch (l u x y : ℕ) : Type 0 where
  pub right : y ≤ x + l
  pub left : x ≤ y + u

touch : (l u t x y : ℕ) (c : Channel) → channel_within l u c ≡ true → t < open_from (length c.pairs) → feasible c t x y ≡ true → Touch l u x y
unfolding channel_within pairs_within
touch l u t x y c e h f =
    let g : ByPairs c.pairs (t - 1) x y = clear_by_pairs c.pairs t x y (feasible_says c t x y f).1 in
    let z : 0 + (t - 1) ≡ t - 1 = omega arith in
    let k : t - 1 < length c.pairs = omega arith in
    let on = terminals_on l u c.pairs (search ands) (t - 1) k in
    omega (arith, g.left 0 (t - 1) z k, g.right 0 (t - 1) z k)

-- a strip stands in every spread that reaches to its end
restand : (s r : ℕ) (l : Strip) (x : ℕ) → x + l.length ≤ r → stands s l x ≡ true → stands r l x ≡ true
unfolding stands
restand s r l x h e = and_both (leb (x + l.length) r) (in_window l.window x) (le-leb (x + l.length) r h) (search ands)

held_upto : (g s n x a e : ℕ) → e ≤ g → stands s (strip n (held a e)) x ≡ true → x ≤ g
unfolding stands in_window
held_upto g s n x a e h i = let j : x ≤ e = leb-true x e (search ands) in omega arith

-- a placement of the strips with the bottom one at x
unfoldable Placeable : (r : ℕ) → Strip → List Strip → List Channel → (ts : List ℕ) → (x : ℕ) → Type 0
Placeable r l ls cs ts x = (ys : List ℕ) × ((in_spread r (l ∷ ls) (x ∷ ys) && channels_good cs ts (x ∷ ys)) ≡ true)

-- one strip more below it
one_more : (r : ℕ) (l u : Strip) (ls : List Strip) (c : Channel) (cs : List Channel) (t : ℕ) (ts : List ℕ) (x y : ℕ) → stands r l x ≡ true → feasible c t x y ≡ true →
    Placeable r u ls cs ts y → Placeable r l (u ∷ ls) (c ∷ cs) (t ∷ ts) x
unfolding Placeable in_spread channels_good
one_more r l u ls c cs t ts x y i f (ys, p) = (y ∷ ys, rw (i, f) p)

-- the strips from l on, which stood with l at x, in spreads from g and their lengths together on
data Tail (g : ℕ) (l : Strip) (ls : List Strip) (cs : List Channel) (ts : List ℕ) (x : ℕ) : Type 0 where
  loose :
      (before onward : ℕ)
      → before ≤ x
      → l.length ≤ onward
      → before + onward ≤ l.length + sum (lengths ls)
      → ((z r : ℕ) → before ≤ z → z + onward ≤ r → g + (l.length + sum (lengths ls)) ≤ r → Placeable r l ls cs ts z)
      → Tail g l ls cs ts x
  fast :
      x ≤ g + sum (lengths ls)
      → ((r : ℕ) → g + (l.length + sum (lengths ls)) ≤ r → Placeable r l ls cs ts x)
      → Tail g l ls cs ts x

-- the columns that a strip of length l takes up with those above, whose bottom strip is d to the right or to the left of it
module _ (l u before onward total d : ℕ) (longer : u ≤ onward) (fits : before + onward ≤ total) where
  right_fits : d ≤ l → (before - d) + max l (d + onward) ≤ l + total
  right_fits h = omega arith

  left_fits : d ≤ u → (before + d) + max l (onward - d) ≤ l + total
  left_fits h = omega arith

-- the strips above can stand somewhere
somewhere : (g : ℕ) (u : Strip) (ls : List Strip) (cs : List Channel) (ts : List ℕ) (y : ℕ) → Tail g u ls cs ts y → (r : ℕ) → g + (u.length + sum (lengths ls)) ≤ r →
    (z : ℕ) × Placeable r u ls cs ts z
somewhere g u ls cs ts y (loose b o m n k p) r h = (b, p b r (omega arith) (omega arith) h)
somewhere g u ls cs ts y (fast m p) r h = (y, p r h)

module _ (g s n : ℕ) (u : Strip) (ls : List Strip) (c : Channel) (cs : List Channel) (t : ℕ) (ts : List ℕ) (x y : ℕ) where
  -- where they stood, if that touches a strip not beyond g
  stood : Tail g u ls cs ts y → y ≤ g + n → (r : ℕ) → g + (n + (u.length + sum (lengths ls))) ≤ r → Placeable r u ls cs ts y
  stood (loose b o m k i p) h r j = p y r m (omega arith) (omega arith)
  stood (fast m p) h r j = p r (omega arith)

  module _ (opened : (x y : ℕ) → feasible c t x y ≡ true) where
    free_open : Tail g u ls cs ts y → Tail g (strip n free) (u ∷ ls) (c ∷ cs) (t ∷ ts) x
    unfolding sum lengths
    free_open k =
        loose 0 n (omega arith) (omega arith) (omega arith) λ z r i j m.
        let (q, p) = somewhere g u ls cs ts y k r (omega arith) in
        one_more r (strip n free) u ls c cs t ts z q (free_stands r (strip n free) z refl j) (opened z q) p

    held_open : (a e : ℕ) → e ≤ g → stands s (strip n (held a e)) x ≡ true → Tail g u ls cs ts y → Tail g (strip n (held a e)) (u ∷ ls) (c ∷ cs) (t ∷ ts) x
    unfolding sum lengths
    held_open a e h i k =
        let upto = held_upto g s n x a e h i in
        fast (omega arith) λ r m.
        let (q, p) = somewhere g u ls cs ts y k r (omega arith) in
        one_more r (strip n (held a e)) u ls c cs t ts x q (restand s r (strip n (held a e)) x (omega arith) i) (opened x q) p

  module _ (f : feasible c t x y ≡ true) (o : Touch n u.length x y) where
    held_joined : (a e : ℕ) → e ≤ g → stands s (strip n (held a e)) x ≡ true → Tail g u ls cs ts y → Tail g (strip n (held a e)) (u ∷ ls) (c ∷ cs) (t ∷ ts) x
    unfolding sum lengths
    held_joined a e h i k =
        let upto = held_upto g s n x a e h i in
        fast (omega arith) λ r m.
        one_more r (strip n (held a e)) u ls c cs t ts x y (restand s r (strip n (held a e)) x (omega arith) i) f (stood k (omega (arith, o.right)) r (omega arith))

    free_joined : (x ≤ y) ⊎ (y < x) → Tail g u ls cs ts y → Tail g (strip n free) (u ∷ ls) (c ∷ cs) (t ∷ ts) x
    unfolding sum lengths
    free_joined d (fast m p) =
        fast (omega (arith, o.left)) λ r i. one_more r (strip n free) u ls c cs t ts x y (free_stands r (strip n free) x refl (omega (arith, o.left))) f (p r (omega arith))
    free_joined (inl d) (loose b v j k i p) =
        loose (b - (y - x)) (max n ((y - x) + v)) (omega arith) (omega arith) (right_fits n u.length b v (u.length + sum (lengths ls)) (y - x) k i (omega (arith, o.right))) λ z r h q w.
        one_more r (strip n free) u ls c cs t ts z (z + (y - x)) (free_stands r (strip n free) z refl (omega arith)) (feasible_moved c t x y z (z + (y - x)) (omega arith) f)
        (p (z + (y - x)) r (omega arith) (omega arith) (omega arith))
    free_joined (inr d) (loose b v j k i p) =
        loose (b + (x - y)) (max n (v - (x - y))) (omega arith) (omega arith) (left_fits n u.length b v (u.length + sum (lengths ls)) (x - y) k i (omega (arith, o.left))) λ z r h q w.
        one_more r (strip n free) u ls c cs t ts z (z - (x - y)) (free_stands r (strip n free) z refl (omega arith)) (feasible_moved c t x y z (z - (x - y)) (omega arith) f)
        (p (z - (x - y)) r (omega arith) (omega arith) (omega arith))

-- the top strip
top : (g s n : ℕ) (w : Window) (x : ℕ) → greatest_position w ≤ g → stands s (strip n w) x ≡ true → Tail g (strip n w) [] [] [] x
unfolding Placeable in_spread channels_good sum lengths greatest_position
top g s n free x h i = loose 0 n (omega arith) (omega arith) (omega arith) (λ z r j m k. ([], rw (free_stands r (strip n free) z refl m)))
top g s n (held a e) x h i =
    let upto = held_upto g s n x a e h i in
    fast (omega arith) (λ r m. ([], rw (restand s r (strip n (held a e)) x (omega arith) i)))

tail : (g : ℕ) (l : Strip) (ls : List Strip) (cs : List Channel) (ts : List ℕ) (s x : ℕ) (xs : List ℕ) → channels_within (l ∷ ls) cs ≡ true → last_position (l ∷ ls) ≤ g →
    in_spread s (l ∷ ls) (x ∷ xs) ≡ true → channels_good cs ts (x ∷ xs) ≡ true → Tail g l ls cs ts x
unfolding channels_within last_position greatest_of in_spread channels_good greatest_position
tail g l [] [] [] s x [] e b i k = top g s l.length l.window x (omega arith) (search ands)
tail g l [] [] [] s x (y ∷ xs) e b i k = impossible (and_right (stands s l x) false i)
tail g l [] [] (t ∷ ts) s x xs e b i k = impossible k
tail g l [] (c ∷ cs) ts s x xs e b i k = impossible e
tail g l (u ∷ ls) [] ts s x xs e b i k = impossible e
tail g l (u ∷ ls) (c ∷ cs) [] s x xs e b i k = impossible k
tail g l (u ∷ ls) (c ∷ cs) (t ∷ ts) s x [] e b i k = impossible (and_right (stands s l x) false i)
tail g l (u ∷ ls) (c ∷ cs) (t ∷ ts) s x (y ∷ xs) e b i k =
    go l.window (omega arith) (search ands) (tail g u ls cs ts s y xs (search ands) (omega arith) (search ands) (search ands)) (le_or_lt (open_from (length c.pairs)) t)
  where
    f : feasible c t x y ≡ true
    f = search ands

    n : ℕ
    n = l.length

    go : (w : Window) → greatest_position w ≤ g → stands s (strip n w) x ≡ true → Tail g u ls cs ts y → (open_from (length c.pairs) ≤ t) ⊎ (t < open_from (length c.pairs)) →
        Tail g (strip n w) (u ∷ ls) (c ∷ cs) (t ∷ ts) x
    go free j m q (inl h) = free_open g s n u ls c cs t ts x y (λ x' y'. feasible_open c t x' y' (feasible_says c t x y f).0 h) q
    go free j m q (inr h) = free_joined g s n u ls c cs t ts x y f (touch n u.length t x y c (search ands) h f) (le_or_lt x y) q
    go (held a d) j m q (inl h) = held_open g s n u ls c cs t ts x y (λ x' y'. feasible_open c t x' y' (feasible_says c t x y f).0 h) a d j m q
    go (held a d) j m q (inr h) = held_joined g s n u ls c cs t ts x y f (touch n u.length t x y c (search ands) h f) a d j m q

spread_wider : (s r : ℕ) (ls : List Strip) (xs : List ℕ) → s ≤ r → in_spread s ls xs ≡ true → in_spread r ls xs ≡ true
unfolding in_spread stands
spread_wider s r [] [] h i = refl
spread_wider s r [] (x ∷ xs) h i = i
spread_wider s r (l ∷ ls) [] h i = i
spread_wider s r (l ∷ ls) (x ∷ xs) h i =
    let here : x + l.length ≤ s = leb-true (x + l.length) s (search ands) in
    and_both (stands r l x) (in_spread r ls xs) (restand s r l x (omega arith) (search ands)) (spread_wider s r ls xs h (search ands))

-- what is legal in a spread is legal in a wider one
pub legal_wider : (k : Stack) (s r : ℕ) (ts xs : List ℕ) → s ≤ r → legal k s ts xs ≡ true → legal k r ts xs ≡ true
unfolding legal
legal_wider k s r ts xs h e =
    and_both (in_spread r k.strips xs) (channels_good k.channels ts xs) (spread_wider s r k.strips xs h (search ands)) (search ands)

settled_strips : (ls : List Strip) (cs : List Channel) (s : ℕ) (us ys : List ℕ) → channels_within ls cs ≡ true → legal (stack ls cs) s us ys ≡ true →
    (zs : List ℕ) × (legal (stack ls cs) (last_position ls + sum (lengths ls)) us zs ≡ true)
unfolding legal stack channels_within sum lengths in_spread Placeable
settled_strips [] cs s us ys e h = impossible e
settled_strips (l ∷ ls) cs s us [] e h = impossible h
settled_strips (l ∷ ls) cs s us (y ∷ ys) e h =
    let g = last_position (l ∷ ls) in
    let (z, p) = somewhere g l ls cs us y (tail g l ls cs us s y ys e (omega arith) (search ands) (search ands)) (g + (l.length + sum (lengths ls))) (omega arith) in
    (z ∷ p.0, p.1)

-- PAST THAT SPREAD: what is possible in some spread is possible there
pub settled : (k : Stack) (s : ℕ) (us ys : List ℕ) → within_limits k ≡ true → legal k s us ys ≡ true → (zs : List ℕ) × (legal k (widest k) us zs ≡ true)
unfolding within_limits stack widest
settled k s us ys e h = settled_strips k.strips k.channels s us ys (search ands) h

-- the sum of the lengths is at most 1,000 for each strip, and no position of a window is above 9,999
sum_small : (ls : List Strip) → strips_within ls ≡ true → sum (lengths ls) ≤ 1000 * length ls
unfolding strips_within strip_within sum lengths
sum_small [] e = omega arith
sum_small (l ∷ ls) e =
    let here : l.length ≤ 1000 = leb-true l.length 1000 (search ands) in
    omega (arith, sum_small ls (search ands))

position_small : (w : Window) → window_within w ≡ true → (least_position w ≤ greatest_position w) × (greatest_position w ≤ 9999)
unfolding window_within least_position greatest_position
position_small free e = (omega arith, omega arith)
position_small (held a g) e = (leb-true a g (search ands), leb-true g 9999 (search ands))

positions_small : (ls : List Strip) → strips_within ls ≡ true → (last_position ls ≤ 9999) × (first_spread ls ≤ last_position ls + sum (lengths ls))
unfolding strips_within strip_within last_position first_spread greatest_of sum lengths
positions_small [] e = (omega arith, omega arith)
positions_small (l ∷ ls) e =
    let here = position_small l.window (search ands) in
    let rest = positions_small ls (search ands) in
    (omega (arith, here.1, rest.0), omega (arith, here.0, rest.1))

-- THE GREATEST SPREAD OF USE is small, and no less than the first
pub widest_small : (k : Stack) → within_limits k ≡ true → widest k ≤ 18999
unfolding widest within_limits
widest_small k e = omega (arith, sum_small k.strips (search ands), (positions_small k.strips (search ands)).0, strips_count k e, channels_few k e)

pub first_widest : (k : Stack) → within_limits k ≡ true → first_spread k.strips ≤ widest k
unfolding widest within_limits
first_widest k e = (positions_small k.strips (search ands)).1
