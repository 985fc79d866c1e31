-- A spread that is not refused is no less than the first one. Assumes nothing.
use mathlib.Core.Path.{◌≡◌}
use Prim.Native.Nat.{ℕ, ◌≤◌}
use lib.Dec.{ltb}
use borrow.Author.Tests.{ltb-false}
use Rattle.stack.specs.Stack.{Stack, first_spread}
use Rattle.text.specs.Text.{Refusal, fine, or_else}
use Rattle.text.proofs.Refusals.{or_else_fine, when_fine, fine_number}
use Rattle.reply.specs.Refusals.{narrow_refusal}

wide_spread : (k : Stack) (s : ℕ) → (narrow_refusal k s).number ≡ 0 → first_spread k.strips ≤ s
unfolding narrow_refusal
wide_spread k s e = ltb-false s (first_spread k.strips) (when_fine (ltb s (first_spread k.strips)) 6 0 0 fine e).0

pub narrow_wide : (k : Stack) (s : ℕ) → fine ≡ narrow_refusal k s → first_spread k.strips ≤ s
narrow_wide k s e = wide_spread k s (fine_number (narrow_refusal k s) e)

pub fine_wide : (f : Refusal) (k : Stack) (s : ℕ) → (or_else f (narrow_refusal k s)).number ≡ 0 → first_spread k.strips ≤ s
fine_wide f k s e = wide_spread k s (or_else_fine f (narrow_refusal k s) e).1
