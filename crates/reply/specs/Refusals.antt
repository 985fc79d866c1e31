-- TRUSTED. The refusals of a spread and of a channel, at no line: narrow, 7; crowd, 3, for a channel's number; broad, 9, for a page's spread. Document 01, "Sent
-- back at the counter"; document 02, P1 and P7. Assumes nothing: these are definitions.
use Rattle.std.specs.Prelude.{◌&&◌, cond, ℕ, ltb, leb, length}
use Rattle.stack.specs.Stack.{Stack, first_spread}
use Rattle.text.specs.Text.{Refusal, refusal, fine, or_else}

-- a spread below the first one is 7
unfoldable pub narrow_refusal : Stack → (s : ℕ) → Refusal
narrow_refusal k s = cond (ltb s (first_spread k.strips)) (refusal 7 0 0) fine

-- a channel's number outside 1 to k is 3, a spread above 63 is 9
unfoldable pub channel_refusal : Stack → (channel : ℕ) → Refusal
channel_refusal k n = cond (leb 1 n && leb n (length k.channels)) fine (refusal 3 0 0)

unfoldable pub broad_refusal : (s : ℕ) → Refusal
broad_refusal s = cond (ltb 63 s) (refusal 9 0 0) fine

-- of a page: 3 for the channel, then 7, then 9
unfoldable pub asked_refusal : Stack → (s channel : ℕ) → Refusal
asked_refusal k s n = or_else (channel_refusal k n) (or_else (narrow_refusal k s) (broad_refusal s))
