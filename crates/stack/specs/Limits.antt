-- TRUSTED. The limits on a stack of documents 01 and 02 (P2, P7): k from 1 to 8, strip lengths from 1 to 1,000, up to 32 pairs in a channel, terminals within
-- their strip and strictly rising along each edge, floors up to 64, windows from a least to a greatest position up to 9,999. Assumes nothing: these are
-- definitions.
use Rattle.std.specs.Prelude.{Bool, true, false, ◌&&◌, List, [], ◌∷◌, ℕ, ltb, leb, length}
use Rattle.stack.specs.Stack.{Pair, Channel, Window, free, held, Strip, Stack}

-- each pair's terminals are above those of the pair before it, the first's above p and q
unfoldable pub rises_above : (p q : ℕ) → List Pair → Bool
rises_above p q [] = true
rises_above p q (x ∷ xs) = (ltb p x.p && ltb q x.q) && rises_above x.p x.q xs

unfoldable pub rising : List Pair → Bool
rising [] = true
rising (x ∷ xs) = rises_above x.p x.q xs

unfoldable pub all_rising : List Channel → Bool
all_rising [] = true
all_rising (c ∷ cs) = rising c.pairs && all_rising cs

-- every terminal is at most its strip's length
unfoldable pub on_strips : (lower upper : ℕ) → List Pair → Bool
on_strips a b [] = true
on_strips a b (x ∷ xs) = (leb x.p a && leb x.q b) && on_strips a b xs

unfoldable pub pairs_within : (lower upper : ℕ) → List Pair → Bool
pairs_within a b ps = leb (length ps) 32 && (rising ps && on_strips a b ps)

unfoldable pub channel_within : (lower upper : ℕ) → Channel → Bool
channel_within a b c = leb c.floor 64 && pairs_within a b c.pairs

-- one channel above each strip but the last
unfoldable pub channels_within : List Strip → List Channel → Bool
channels_within [] cs = false
channels_within (a ∷ []) [] = true
channels_within (a ∷ []) (c ∷ cs) = false
channels_within (a ∷ b ∷ ls) [] = false
channels_within (a ∷ b ∷ ls) (c ∷ cs) = channel_within a.length b.length c && channels_within (b ∷ ls) cs

unfoldable pub window_within : Window → Bool
window_within free = true
window_within (held a e) = leb a e && leb e 9999

unfoldable pub strip_within : Strip → Bool
strip_within l = (leb 1 l.length && leb l.length 1000) && window_within l.window

unfoldable pub strips_within : List Strip → Bool
strips_within [] = true
strips_within (l ∷ ls) = strip_within l && strips_within ls

unfoldable pub within_limits : Stack → Bool
within_limits k =
    (leb 1 (length k.channels) && leb (length k.channels) 8)
    && (strips_within k.strips && channels_within k.strips k.channels)
