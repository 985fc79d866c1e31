-- Legal placements strip by strip and channel by channel: what is legal is that and nothing more. Of legal placements there is but one least total. Assumes nothing.
use mathlib.Core.Path.{◌≡◌, refl, ap}
use mathlib.Core.Bool.{true}
use mathlib.Core.List.{List, [], ◌∷◌}
use Prim.Native.Nat.{ℕ, zero, suc, ◌+◌, ◌≤◌, ◌<◌}
use native.Mathlib.Omega.{arith}
use lib.ListN.{length, get_or}
use borrow.Author.Tests.{leb-true, le-leb}
use Rattle.numbers.proofs.Bools.{ands, and_both, impossible}
use Rattle.stack.specs.Stack.{Channel, no_channel, free, Strip, no_strip, Stack, feasible, in_window, stands, in_spread, channels_good, legal, sum, LeastTotal, Answer}

-- EACH strip of a placement stands, and each channel is feasible
pub record EachPlaced (s : ℕ) (ls : List Strip) (cs : List Channel) (ts xs : List ℕ) : Type 0 where
  pub positions : length xs ≡ length ls
  pub separations : length ts ≡ length cs
  pub stand : (i : ℕ) → i < length ls → stands s (get_or ls i no_strip) (get_or xs i 0) ≡ true
  pub wired : (i : ℕ) → i < length cs → feasible (get_or cs i no_channel) (get_or ts i 0) (get_or xs i 0) (get_or xs (suc i) 0) ≡ true

module _ (s : ℕ) where
  pub positions_long : (ls : List Strip) (xs : List ℕ) → in_spread s ls xs ≡ true → length xs ≡ length ls
  unfolding in_spread
  positions_long [] [] e = refl
  positions_long [] (x ∷ xs) e = impossible e
  positions_long (l ∷ ls) [] e = impossible e
  positions_long (l ∷ ls) (x ∷ xs) e = ap suc (positions_long ls xs (search ands))

  strip_stands : (ls : List Strip) (xs : List ℕ) → in_spread s ls xs ≡ true → (i : ℕ) → i < length ls → stands s (get_or ls i no_strip) (get_or xs i 0) ≡ true
  unfolding in_spread
  strip_stands [] xs e i h = absurd (omega arith)
  strip_stands (l ∷ ls) [] e i h = impossible e
  strip_stands (l ∷ ls) (x ∷ xs) e zero h = search ands
  strip_stands (l ∷ ls) (x ∷ xs) e (suc i) h = strip_stands ls xs (search ands) i (omega arith)

  strips_stand : (ls : List Strip) (xs : List ℕ) → length xs ≡ length ls → ((i : ℕ) → i < length ls → stands s (get_or ls i no_strip) (get_or xs i 0) ≡ true)
      → in_spread s ls xs ≡ true
  unfolding in_spread
  strips_stand [] [] e h = refl
  strips_stand [] (x ∷ xs) e h = absurd (omega arith)
  strips_stand (l ∷ ls) [] e h = absurd (omega arith)
  strips_stand (l ∷ ls) (x ∷ xs) e h =
      and_both (stands s l x) (in_spread s ls xs) (h 0 (omega arith)) (strips_stand ls xs (omega arith) (λ i m. h (suc i) (omega arith)))

separations_long : (cs : List Channel) (ts xs : List ℕ) → channels_good cs ts xs ≡ true → length ts ≡ length cs
unfolding channels_good
separations_long [] [] xs e = refl
separations_long [] (t ∷ ts) xs e = impossible e
separations_long (c ∷ cs) [] xs e = impossible e
separations_long (c ∷ cs) (t ∷ ts) [] e = impossible e
separations_long (c ∷ cs) (t ∷ ts) (x ∷ xs) e = ap suc (separations_long cs ts xs (search ands))

channel_wired : (cs : List Channel) (ts xs : List ℕ) → channels_good cs ts xs ≡ true → (i : ℕ) → i < length cs
    → feasible (get_or cs i no_channel) (get_or ts i 0) (get_or xs i 0) (get_or xs (suc i) 0) ≡ true
unfolding channels_good
channel_wired [] ts xs e i h = absurd (omega arith)
channel_wired (c ∷ cs) [] xs e i h = impossible e
channel_wired (c ∷ cs) (t ∷ ts) [] e i h = impossible e
channel_wired (c ∷ cs) (t ∷ ts) (x ∷ xs) e zero h = search ands
channel_wired (c ∷ cs) (t ∷ ts) (x ∷ xs) e (suc i) h = channel_wired cs ts xs (search ands) i (omega arith)

channels_wired : (cs : List Channel) (ts xs : List ℕ) → length ts ≡ length cs → length cs ≤ length xs
    → ((i : ℕ) → i < length cs → feasible (get_or cs i no_channel) (get_or ts i 0) (get_or xs i 0) (get_or xs (suc i) 0) ≡ true)
    → channels_good cs ts xs ≡ true
unfolding channels_good
channels_wired [] [] xs e l h = refl
channels_wired [] (t ∷ ts) xs e l h = absurd (omega arith)
channels_wired (c ∷ cs) [] xs e l h = absurd (omega arith)
channels_wired (c ∷ cs) (t ∷ ts) [] e l h = absurd (omega arith)
channels_wired (c ∷ cs) (t ∷ ts) (x ∷ xs) e l h =
    and_both (feasible c t x (get_or xs 0 0)) (channels_good cs ts xs) (h 0 (omega arith)) (channels_wired cs ts xs (omega arith) (omega arith) (λ i m. h (suc i) (omega arith)))

pub legal_each : (k : Stack) (s : ℕ) (ts xs : List ℕ) → legal k s ts xs ≡ true → EachPlaced s k.strips k.channels ts xs
unfolding legal
legal_each k s ts xs e = record {
  positions = positions_long s k.strips xs (search ands);
  separations = separations_long k.channels ts xs (search ands);
  stand = strip_stands s k.strips xs (search ands);
  wired = channel_wired k.channels ts xs (search ands);
}

pub each_legal : (k : Stack) (s : ℕ) (ts xs : List ℕ) → length k.channels ≤ length k.strips → EachPlaced s k.strips k.channels ts xs → legal k s ts xs ≡ true
unfolding legal
each_legal k s ts xs l p =
    and_both (in_spread s k.strips xs) (channels_good k.channels ts xs) (strips_stand s k.strips xs p.positions p.stand)
    (channels_wired k.channels ts xs p.separations (omega (arith, p.positions)) p.wired)

-- a strip that stands ends within the spread, and a free one stands wherever it does
pub stands_within : (s : ℕ) (l : Strip) (x : ℕ) → stands s l x ≡ true → x + l.length ≤ s
unfolding stands
stands_within s l x e = leb-true (x + l.length) s (search ands)

pub free_stands : (s : ℕ) (l : Strip) (x : ℕ) → l.window ≡ free → x + l.length ≤ s → stands s l x ≡ true
unfolding stands in_window
free_stands s l x f h = rw (f, le-leb (x + l.length) s h)

-- so no position is above the spread
pub position_most : (s : ℕ) (ls : List Strip) (cs : List Channel) (ts xs : List ℕ) → EachPlaced s ls cs ts xs → (i : ℕ) → i < length xs → get_or xs i 0 ≤ s
position_most s ls cs ts xs p i l = omega (arith, stands_within s (get_or ls i no_strip) (get_or xs i 0) (p.stand i (omega (arith, p.positions))))

-- an answer's total is the least one
pub answer_total_is : (k : Stack) (s : ℕ) (ts xs : List ℕ) → Answer k s ts xs → LeastTotal k s (sum ts)
answer_total_is k s ts xs a = record { met = record { separations = ts; positions = xs; is_legal = a.is_legal; exact = refl }; least = a.least }

-- AT MOST ONE LEAST TOTAL
pub total_alone : (k : Stack) (s v w : ℕ) → LeastTotal k s v → LeastTotal k s w → v ≡ w
total_alone k s v w a b =
    let m = a.met in
    let n = b.met in
    omega (arith, a.least n.separations n.positions n.is_legal, b.least m.separations m.positions m.is_legal, m.exact, n.exact)
