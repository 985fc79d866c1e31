-- Wrong versions of a card turned over, each within the limits and with another least total, on a card of two or three strips; and the mirror image of a card with a
-- held strip, for which left to right the least total does change. Assumes nothing.
use mathlib.Core.Path.{◌≡◌, refl}
use mathlib.Core.Bool.{Bool, true, ◌&&◌, not}
use mathlib.Core.List.{List, [], ◌∷◌, map, reverse}
use Prim.Native.Nat.{ℕ, suc, ◌-◌}
use lib.Dec.{eqb}
use lib.ListN.{length}
use borrow.Author.Tests.{eqb-false, not-true}
use Rattle.numbers.specs.Lists.{tabulate}
use Rattle.numbers.proofs.Bools.{ands}
use Rattle.stack.specs.Stack.{Pair, pair, channel, strip_in, channel_in, free, held, strip, Stack, stack, sum, LeastTotal}
use Rattle.stack.specs.Limits as limits
use Rattle.stack.specs.Limits.{within_limits}
use Rattle.stack.proofs.Placements.{total_alone}
use Rattle.turned.specs.Turned.{SameTotals, exchanged, upside_down, mirrored, mirrored_channel, left_to_right}
use Rattle.turned.proofs.Searches.{is_least, least_by_search, searching}

-- THE EDGES not exchanged
unfoldable pub edges_kept : Stack → Stack
edges_kept k = stack (reverse k.strips) (reverse k.channels)

-- THE FLOORS left in the old order
unfoldable pub floors_kept : Stack → Stack
floors_kept k =
    stack (reverse k.strips) (tabulate (length k.channels) 0 (λ i. channel (channel_in (upside_down k) i).pairs (channel_in k i).floor))

-- THE WINDOWS left behind
unfoldable pub windows_kept : Stack → Stack
windows_kept k =
    stack (tabulate (length k.strips) 0 (λ i. strip (strip_in (upside_down k) i).length (strip_in k i).window)) (upside_down k).channels

-- THE LOWER TERMINALS counted from the wrong end
unfoldable pub lower_kept : Stack → Stack
lower_kept k =
    stack k.strips
    (tabulate (length k.channels) 0 (λ i. channel (reverse (map (λ (x : Pair). pair x.p ((strip_in k (suc i)).length - x.q)) (channel_in k i).pairs)) (channel_in k i).floor))

-- one stack within the limits and another, whose least total at a spread is another
pub record Differ (k h : Stack) (s v w : ℕ) : Type 0 where
  pub within : within_limits k ≡ true
  pub also : within_limits h ≡ true
  pub one : LeastTotal k s v
  pub other : LeastTotal h s w
  pub differ : v ≡ w → ⊥

-- so the least totals are not the same at every spread
pub differ_breaks : (k h : Stack) (s v w : ℕ) → Differ k h s v w → SameTotals k h → ⊥
unfolding SameTotals
differ_breaks k h s v w d e = d.differ (total_alone h s v w ((e s v).0 d.one) d.other)

-- by search: a legal placement of each with its least total
unfoldable are_other : (k h : Stack) (s : ℕ) (ts xs us ys : List ℕ) → Bool
are_other k h s ts xs us ys =
    (within_limits k && within_limits h) && ((is_least k s ts xs && is_least h s us ys) && not (eqb (sum ts) (sum us)))

differ_by_search : (k h : Stack) (s : ℕ) (ts xs us ys : List ℕ) → are_other k h s ts xs us ys ≡ true → Differ k h s (sum ts) (sum us)
unfolding are_other
differ_by_search k h s ts xs us ys e =
    let other : not (eqb (sum ts) (sum us)) ≡ true = search ands in
    record {
      within = search ands;
      also = search ands;
      one = least_by_search k s ts xs (search ands);
      other = least_by_search h s us ys (search ands);
      differ = eqb-false (sum ts) (sum us) (not-true (eqb (sum ts) (sum us)) other);
    }

-- to unfold turning is to unfold every definition of a stack turned over, and of the limits
unfoldable turning : Stack → List Stack × Bool
unfolding tabulate exchanged upside_down mirrored mirrored_channel left_to_right edges_kept floors_kept windows_kept lower_kept are_other
    limits.rises_above limits.rising limits.on_strips limits.pairs_within limits.channel_within limits.channels_within limits.window_within limits.strip_within
    limits.strips_within limits.within_limits
turning k = (upside_down k ∷ left_to_right k ∷ edges_kept k ∷ floors_kept k ∷ windows_kept k ∷ lower_kept k ∷ [], within_limits k)

-- a lower strip held at 1, a free one, and a pair whose terminals are above one another where the free one is at 0
abbrev pub held_card : Stack
held_card = stack (strip 1 (held 1 1) ∷ strip 1 free ∷ []) (channel (pair 0 1 ∷ []) 0 ∷ [])

pub edges_kept_differs : Differ held_card (edges_kept held_card) 2 0 2
unfolding searching turning
edges_kept_differs = differ_by_search held_card (edges_kept held_card) 2 (0 ∷ []) (1 ∷ 0 ∷ []) (2 ∷ []) (0 ∷ 1 ∷ []) refl

pub windows_kept_differs : Differ held_card (windows_kept held_card) 2 0 2
unfolding searching turning
windows_kept_differs = differ_by_search held_card (windows_kept held_card) 2 (0 ∷ []) (1 ∷ 0 ∷ []) (2 ∷ []) (1 ∷ 0 ∷ []) refl

-- A HELD STRIP: left to right, its window as it is, the least total changes, so the strips must be free
pub held_strip_differs : Differ held_card (left_to_right held_card) 2 0 2
unfolding searching turning
held_strip_differs = differ_by_search held_card (left_to_right held_card) 2 (0 ∷ []) (1 ∷ 0 ∷ []) (2 ∷ []) (1 ∷ 0 ∷ []) refl

-- three strips as long as the spread: the lower channel's pair needs two tracks, the upper channel's floor asks for two
abbrev floor_card : Stack
floor_card = stack (strip 1 free ∷ strip 1 free ∷ strip 1 free ∷ []) (channel (pair 0 1 ∷ []) 0 ∷ channel [] 2 ∷ [])

pub floors_kept_differs : Differ floor_card (floors_kept floor_card) 1 4 2
unfolding searching turning
floors_kept_differs = differ_by_search floor_card (floors_kept floor_card) 1 (2 ∷ 2 ∷ []) (0 ∷ 0 ∷ 0 ∷ []) (0 ∷ 2 ∷ []) (0 ∷ 0 ∷ 0 ∷ []) refl

-- two strips as long as the spread, and a pair whose terminals are above one another
abbrev level_card : Stack
level_card = stack (strip 1 free ∷ strip 1 free ∷ []) (channel (pair 0 0 ∷ []) 0 ∷ [])

pub lower_kept_differs : Differ level_card (lower_kept level_card) 1 0 2
unfolding searching turning
lower_kept_differs = differ_by_search level_card (lower_kept level_card) 1 (0 ∷ []) (0 ∷ 0 ∷ []) (2 ∷ []) (0 ∷ 0 ∷ []) refl
