-- has_position meets its contract: the end is beyond the start. Assumes nothing.
use mathlib.Core.Path.{◌≡◌, sym, ◌∙◌}
use mathlib.Core.Logic.{◌⊎◌, inl, inr}
use Prim.Native.Nat.{ℕ, ◌-◌, ◌≤◌, ◌<◌}
use native.Mathlib.Omega.{arith}
use lib.Dec.{ltb}
use borrow.Author.Tests.{lt-ltb, le-ltb}
use Rattle.numbers.proofs.Orders.{le_or_lt}
use Rattle.answer.proofs.has_position.Goals as goal

some_between : (from upto d : ℕ) → d ≡ upto - from → ltb 0 d ≡ ltb from upto
some_between from upto d e = go (le_or_lt upto from)
  where
    go : (upto ≤ from) ⊎ (from < upto) → ltb 0 d ≡ ltb from upto
    go (inl h) = le-ltb 0 d (omega arith) ∙ sym (le-ltb from upto h)
    go (inr h) = lt-ltb 0 d (omega arith) ∙ sym (lt-ltb from upto h)

pub returns : goal.returns
returns c = some_between c.args.span.from c.args.span.upto c.saturating_sub.result c.saturating_sub.ensures
