-- TRUSTED. A card turned over, upside down and left to right, and what is promised of it. Document 02, P8. Each statement is a type; proofs/UpsideDown.antt and
-- LeftToRight.antt prove them. Assumes nothing: these are definitions.
use Rattle.std.specs.Prelude.{◌≡◌, ◌↔◌, true, List, [], ◌∷◌, map, reverse, ℕ, suc, ◌-◌, ◌<◌, length}
use Rattle.numbers.specs.Lists.{tabulate}
use Rattle.stack.specs.Stack.{Pair, pair, Channel, channel, strip_in, channel_in, free, strip, Stack, stack, LeastTotal, Row, total, RowsAre}
use Rattle.stack.specs.Limits.{within_limits}

-- the same least total at every spread
unfoldable pub SameTotals : (k h : Stack) → Type 0
SameTotals k h = (s v : ℕ) → LeastTotal k s v ↔ LeastTotal h s v

-- the spreads and the totals of a table's rows
unfoldable pub spreads_and_totals : List Row → List (ℕ × ℕ)
spreads_and_totals [] = []
spreads_and_totals (r ∷ rs) = (r.spread, total r) ∷ spreads_and_totals rs

-- tables with rows at the same spreads and with the same totals
unfoldable pub SameRows : (k h : Stack) → Type 0
SameRows k h = (rs qs : List Row) → RowsAre k rs → RowsAre h qs → spreads_and_totals rs ≡ spreads_and_totals qs

-- A STACK AGREES with one within the limits: it is within them too, and has the same least totals, and rows at the same spreads with the same totals
pub record Agrees (k h : Stack) : Type 0 where
  pub within : within_limits h ≡ true
  pub totals : SameTotals k h
  pub rows : SameRows k h

-- UPSIDE DOWN: the strips in reverse, each with its window, and the channels in reverse, each with its two edges exchanged and with its floor
unfoldable pub exchanged : Pair → Pair
exchanged x = pair x.q x.p

unfoldable pub upside_down : Stack → Stack
upside_down k =
    let m = length k.strips in
    let n = length k.channels in
    stack
    (tabulate m 0 (λ i. strip (strip_in k (m - suc i)).length (strip_in k (m - suc i)).window))
    (tabulate n 0 (λ i. channel (map exchanged (channel_in k (n - suc i)).pairs) (channel_in k (n - suc i)).floor))

-- as lists
unfoldable pub UpsideDownReverses : Type 0
UpsideDownReverses =
    (k : Stack) → upside_down k ≡ stack (reverse k.strips) (reverse (map (λ (c : Channel). channel (map exchanged c.pairs) c.floor) k.channels))

unfoldable pub UpsideDownSame : Type 0
UpsideDownSame = (k : Stack) → within_limits k ≡ true → Agrees k (upside_down k)

-- LEFT TO RIGHT: every terminal counted from the other end of its strip, and so the pairs in the other order; windows and floors stay. Within the limits no
-- terminal is above its strip's length
unfoldable pub mirrored : (lower upper : ℕ) → Pair → Pair
mirrored a b x = pair (a - x.p) (b - x.q)

unfoldable pub mirrored_channel : (lower upper : ℕ) → Channel → Channel
mirrored_channel a b c = channel (reverse (map (λ x. mirrored a b x) c.pairs)) c.floor

unfoldable pub left_to_right : Stack → Stack
left_to_right k =
    stack k.strips
    (tabulate (length k.channels) 0 (λ i. mirrored_channel (strip_in k i).length (strip_in k (suc i)).length (channel_in k i)))

-- no window is written
unfoldable pub AllFree : Stack → Type 0
AllFree k = (i : ℕ) → i < length k.strips → (strip_in k i).window ≡ free

unfoldable pub LeftToRightSame : Type 0
LeftToRightSame = (k : Stack) → within_limits k ≡ true → AllFree k → Agrees k (left_to_right k)
