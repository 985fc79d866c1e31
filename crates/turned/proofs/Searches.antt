-- Facts of small stacks by search: a computed test of every list of separations up to a total and every list of positions within the spread holds of every legal
-- placement with a total of at most that. Assumes nothing.
use mathlib.Core.Path.{◌≡◌, refl}
use mathlib.Core.Bool.{Bool, true, false, ◌&&◌, ◌||◌, not}
use mathlib.Core.Logic.{◌⊎◌, inl, inr}
use mathlib.Core.List.{List, [], ◌∷◌}
use Prim.Native.Nat.{ℕ, zero, suc, ◌≤◌, ◌<◌}
use native.Mathlib.Omega.{arith}
use lib.Dec.{leb}
use lib.ListN.{length, get_or}
use borrow.Author.Tests.{leb-true, le-leb}
use Rattle.numbers.proofs.Bools.{ands, and_both, impossible}
use Rattle.numbers.proofs.Orders.{le_or_lt}
use Rattle.stack.specs.Stack as stacks
use Rattle.stack.specs.Stack.{Stack, every, legal, sum, LeastTotal}
use Rattle.stack.proofs.Feasible.{every_elim}
use Rattle.stack.proofs.Placements.{legal_each, position_most}

-- every list of n numbers up to m passes
unfoldable pub lists_pass : (n m : ℕ) → (List ℕ → Bool) → Bool
lists_pass zero m f = f []
lists_pass (suc n) m f = every (suc m) 0 (λ x. lists_pass n m (λ xs. f (x ∷ xs)))

list_passes : (n m : ℕ) (f : List ℕ → Bool) → lists_pass n m f ≡ true → (xs : List ℕ) → length xs ≡ n → ((i : ℕ) → i < length xs → get_or xs i 0 ≤ m) → f xs ≡ true
unfolding lists_pass
list_passes zero m f e [] l h = e
list_passes zero m f e (x ∷ xs) l h = absurd (omega arith)
list_passes (suc n) m f e [] l h = absurd (omega arith)
list_passes (suc n) m f e (x ∷ xs) l h =
    list_passes n m (λ ys. f (x ∷ ys)) (every_elim (suc m) 0 (λ y. lists_pass n m (λ ys. f (y ∷ ys))) e x (omega arith) (omega (arith, h 0 (omega arith))))
    xs (omega arith) (λ i k. h (suc i) (omega arith))

-- a test of every legal placement with a total of at most v
unfoldable pub placements_pass : Stack → (s v : ℕ) → (List ℕ → List ℕ → Bool) → Bool
placements_pass k s v f =
    lists_pass (length k.channels) v (λ ts. lists_pass (length k.strips) s (λ xs. not (leb (sum ts) v && legal k s ts xs) || f ts xs))

implied : (a b : Bool) → (not a || b) ≡ true → a ≡ true → b ≡ true
implied true b h e = h
implied false b h e = impossible e

pub part_below : (ts : List ℕ) (i : ℕ) → get_or ts i 0 ≤ sum ts
unfolding sum
part_below [] i = omega arith
part_below (t ∷ ts) zero = omega arith
part_below (t ∷ ts) (suc i) = omega (arith, part_below ts i)

pub placement_passes : (k : Stack) (s v : ℕ) (f : List ℕ → List ℕ → Bool) → placements_pass k s v f ≡ true → (ts xs : List ℕ) → legal k s ts xs ≡ true → sum ts ≤ v
    → f ts xs ≡ true
unfolding placements_pass
placement_passes k s v f e ts xs g h =
    let p = legal_each k s ts xs g in
    let r = list_passes (length k.channels) v _ e ts p.separations (λ i l. omega (arith, part_below ts i)) in
    let q = list_passes (length k.strips) s _ r xs p.positions (position_most s k.strips k.channels ts xs p) in
    implied (leb (sum ts) v && legal k s ts xs) (f ts xs) q (and_both (leb (sum ts) v) (legal k s ts xs) (le-leb (sum ts) v h) g)

-- a legal placement whose total is the least, since no legal placement up to it has a smaller one
unfoldable pub is_least : Stack → (s : ℕ) → (ts xs : List ℕ) → Bool
is_least k s ts xs = legal k s ts xs && placements_pass k s (sum ts) (λ us ys. leb (sum ts) (sum us))

pub least_by_search : (k : Stack) (s : ℕ) (ts xs : List ℕ) → is_least k s ts xs ≡ true → LeastTotal k s (sum ts)
unfolding is_least
least_by_search k s ts xs e = record { met = record { separations = ts; positions = xs; is_legal = search ands; exact = refl }; least = none }
  where
    passed : placements_pass k s (sum ts) (λ us ys. leb (sum ts) (sum us)) ≡ true
    passed = search ands

    none : (us ys : List ℕ) → legal k s us ys ≡ true → sum ts ≤ sum us
    none us ys h = go (le_or_lt (sum ts) (sum us))
      where
        go : (sum ts ≤ sum us) ⊎ (sum us < sum ts) → sum ts ≤ sum us
        go (inl l) = l
        go (inr l) = leb-true (sum ts) (sum us) (placement_passes k s (sum ts) (λ us ys. leb (sum ts) (sum us)) passed us ys h (omega arith))

-- to unfold searching is to unfold every definition that such a test runs through
unfoldable pub searching : Stack → (s v : ℕ) → (List ℕ → List ℕ → Bool) → Bool
unfolding stacks.pair stacks.stack stacks.p_at stacks.q_at stacks.every stacks.left_good stacks.right_good stacks.wirable stacks.edge_clear stacks.feasible
    stacks.in_window stacks.stands stacks.in_spread stacks.channels_good stacks.legal stacks.sum lists_pass placements_pass is_least
searching k s v f = placements_pass k s v f
