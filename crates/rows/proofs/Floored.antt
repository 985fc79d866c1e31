-- Where each channel's floor leaves every offset open, the floors themselves are the answer in every spread, and every strip stands at its least position: no
-- separation is below its floor, and the last separations of use, which are the floors then, serve every offset. Assumes nothing.
use mathlib.Core.Path.{◌≡◌, refl, ap₂}
use mathlib.Core.Bool.{Bool, true, ◌&&◌}
use mathlib.Core.Logic.{◌⊎◌, inl, inr}
use mathlib.Core.List.{List, [], ◌∷◌}
use Prim.Native.Nat.{ℕ, ◌+◌, ◌≤◌, ◌<◌}
use native.Mathlib.Omega.{arith}
use lib.Dec.{leb}
use lib.ListN.{length, get_or}
use borrow.Author.Tests.{leb-true, lt-ltb, le-ltb, eq-eqb}
use Rattle.numbers.proofs.Bools.{ands, impossible}
use Rattle.numbers.proofs.Orders.{lt_or_eq}
use Rattle.stack.specs.Stack.{Channel, Window, free, held, Strip, strip, Stack, stack, in_window, stands, in_spread, channels_good, legal, sum, least_position, first_spread, not_later, Answer}
use Rattle.stack.specs.Limits.{channels_within, within_limits}
use Rattle.stack.proofs.Feasible.{feasible_says}
use Rattle.limits.specs.Limits.{open_from}
use Rattle.answer.specs.Solve.{last_use}
use Rattle.answer.proofs.Legal.{Stand, placed_legal}
use Rattle.answer.proofs.Answers.{lasts_of, leasts_of, some_placed, all_stand}

-- the floors of channels, and whether with these their pairs leave every offset open
unfoldable pub floors_of : List Channel → List ℕ
floors_of [] = []
floors_of (c ∷ cs) = c.floor ∷ floors_of cs

unfoldable pub all_covered : List Channel → Bool
all_covered [] = true
all_covered (c ∷ cs) = leb (open_from (length c.pairs)) c.floor && all_covered cs

-- one not above the other, then the rest: not later
first_not_later : (a b : ℕ) (xs ys : List ℕ) → a ≤ b → not_later xs ys ≡ true → not_later (a ∷ xs) (b ∷ ys) ≡ true
unfolding not_later
first_not_later a b xs ys h e = go (lt_or_eq a b h)
  where
    go : (a < b) ⊎ (a ≡ b) → not_later (a ∷ xs) (b ∷ ys) ≡ true
    go (inl l) = rw (lt-ltb a b l)
    go (inr q) = rw (le-ltb a b (omega arith), eq-eqb a b q) e

-- no good separations are before the floors, or sum to less
pub floors_first : (cs : List Channel) (us xs : List ℕ) → channels_good cs us xs ≡ true → (not_later (floors_of cs) us ≡ true) × (sum (floors_of cs) ≤ sum us)
unfolding channels_good floors_of sum not_later
floors_first [] [] xs g = (refl, omega arith)
floors_first [] (u ∷ us) xs g = impossible g
floors_first (c ∷ cs) [] xs g = impossible g
floors_first (c ∷ cs) (u ∷ us) [] g = impossible g
floors_first (c ∷ cs) (u ∷ us) (x ∷ xs) g =
    let here = (feasible_says c u x (get_or xs 0 0) (search ands)).0 in
    let rest = floors_first cs us xs (search ands) in
    (first_not_later c.floor u (floors_of cs) us here rest.0, omega (arith, rest.1))

-- and no positions within the spread are before the least ones
least_upto : (s n x : ℕ) (w : Window) → stands s (strip n w) x ≡ true → least_position w ≤ x
unfolding stands in_window least_position
least_upto s n x free i = omega arith
least_upto s n x (held a e) i = leb-true a x (search ands)

leasts_first : (s : ℕ) (ls : List Strip) (ys : List ℕ) → in_spread s ls ys ≡ true → not_later (leasts_of ls) ys ≡ true
unfolding leasts_of in_spread not_later
leasts_first s [] ys i = refl
leasts_first s (l ∷ ls) [] i = impossible i
leasts_first s (l ∷ ls) (y ∷ ys) i =
    first_not_later (least_position l.window) y (leasts_of ls) ys (least_upto s l.length y l.window (search ands)) (leasts_first s ls ys (search ands))

lasts_are_floors : (cs : List Channel) → all_covered cs ≡ true → lasts_of cs ≡ floors_of cs
unfolding lasts_of floors_of all_covered
lasts_are_floors [] h = refl
lasts_are_floors (c ∷ cs) h =
    let most : last_use c ≡ c.floor = omega (arith, leb-true (open_from (length c.pairs)) c.floor (search ands)) in
    ap₂ ◌∷◌ most (lasts_are_floors cs (search ands))

floors_legal : (ls : List Strip) (cs : List Channel) (s : ℕ) → channels_within ls cs ≡ true → Stand s ls → all_covered cs ≡ true →
    legal (stack ls cs) s (floors_of cs) (leasts_of ls) ≡ true
unfolding legal stack channels_within leasts_of
floors_legal [] cs s e h c = impossible e
floors_legal (l ∷ ls) cs s e h c =
    let b = s + 32 in
    rw (← lasts_are_floors cs c)
    (placed_legal b s (omega arith) l ls cs (lasts_of cs) (least_position l.window) (leasts_of ls) e (some_placed b s (omega arith) l ls cs e h))

pub floors_answer : (k : Stack) (s : ℕ) → within_limits k ≡ true → first_spread k.strips ≤ s → all_covered k.channels ≡ true →
    Answer k s (floors_of k.channels) (leasts_of k.strips)
unfolding legal stack within_limits
floors_answer k s e h c =
    record {
      is_legal = floors_legal k.strips k.channels s (search ands) (all_stand (s + 32) s (omega arith) k e h) c;
      least = λ us ys g. (floors_first k.channels us ys (search ands)).1;
      first = λ us ys g q. (floors_first k.channels us ys (search ands)).0;
      first_places = λ ys g. leasts_first s k.strips ys (search ands);
    }
