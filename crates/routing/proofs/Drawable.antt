-- The routing theorem: a placement of a stack with rising terminals is drawable exactly if it is legal. Channel by channel: both ask for the floor, pairs that
-- can be drawn are wirable with the lower edge clear (Necessity), and pairs that are can be drawn (Sufficiency). Assumes nothing.
use mathlib.Core.Path.{◌≡◌, refl}
use mathlib.Core.Bool.{true}
use mathlib.Core.List.{List, [], ◌∷◌}
use mathlib.Core.Logic.{◌↔◌}
use Prim.Native.Nat.{ℕ}
use lib.ListN.{get_or}
use native.Mathlib.Omega.{arith}
use Rattle.numbers.proofs.Bools.{ands, and_both}
use Rattle.stack.specs.Stack.{Stack, Channel, feasible, in_spread, channels_good, legal}
use Rattle.stack.specs.Limits.{all_rising}
use Rattle.stack.proofs.Feasible.{feasible_says, says_feasible}
use Rattle.routing.specs.Paths.{ChannelsDrawn, Drawable}
use Rattle.routing.proofs.Necessity.{drawn_clear}
use Rattle.routing.proofs.Sufficiency.{clear_drawn}

drawn_good : (cs : List Channel) (ts xs : List ℕ) → all_rising cs ≡ true → ChannelsDrawn cs ts xs → channels_good cs ts xs ≡ true
unfolding all_rising ChannelsDrawn channels_good
drawn_good [] [] xs r d = refl
drawn_good [] (t ∷ ts) xs r d = absurd d
drawn_good (c ∷ cs) [] xs r d = absurd d
drawn_good (c ∷ cs) (t ∷ ts) [] r d = absurd d
drawn_good (c ∷ cs) (t ∷ ts) (x ∷ xs) r d =
    and_both (feasible c t x (get_or xs 0 0)) (channels_good cs ts xs)
    (says_feasible c t x (get_or xs 0 0) d.0 (drawn_clear c.pairs t x (get_or xs 0 0) (search ands) d.1))
    (drawn_good cs ts xs (search ands) d.2)

good_drawn : (cs : List Channel) (ts xs : List ℕ) → all_rising cs ≡ true → channels_good cs ts xs ≡ true → ChannelsDrawn cs ts xs
unfolding all_rising ChannelsDrawn channels_good
good_drawn [] [] xs r g = refl
good_drawn [] (t ∷ ts) xs r g = let z : ◌≡◌ {A = ℕ} 0 1 = cc in absurd (omega arith)
good_drawn (c ∷ cs) [] xs r g = let z : ◌≡◌ {A = ℕ} 0 1 = cc in absurd (omega arith)
good_drawn (c ∷ cs) (t ∷ ts) [] r g = let z : ◌≡◌ {A = ℕ} 0 1 = cc in absurd (omega arith)
good_drawn (c ∷ cs) (t ∷ ts) (x ∷ xs) r g =
    let both = feasible_says c t x (get_or xs 0 0) (search ands) in
    (both.0, clear_drawn c.pairs t x (get_or xs 0 0) (search ands) both.1, good_drawn cs ts xs (search ands) (search ands))

pub drawable_legal : (k : Stack) (s : ℕ) (ts xs : List ℕ) → all_rising k.channels ≡ true → Drawable k s ts xs → legal k s ts xs ≡ true
unfolding legal
drawable_legal k s ts xs r d =
    and_both (in_spread s k.strips xs) (channels_good k.channels ts xs) d.within (drawn_good k.channels ts xs r d.drawn)

pub legal_drawable : (k : Stack) (s : ℕ) (ts xs : List ℕ) → all_rising k.channels ≡ true → legal k s ts xs ≡ true → Drawable k s ts xs
unfolding legal
legal_drawable k s ts xs r l = record { within = search ands; drawn = good_drawn k.channels ts xs r (search ands) }

pub drawable_iff_legal : (k : Stack) (s : ℕ) (ts xs : List ℕ) → all_rising k.channels ≡ true → Drawable k s ts xs ↔ (legal k s ts xs ≡ true)
drawable_iff_legal k s ts xs r = (drawable_legal k s ts xs r, legal_drawable k s ts xs r)
