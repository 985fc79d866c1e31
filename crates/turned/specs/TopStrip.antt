-- TRUSTED. The top strip's legal positions for a spread and a total, and that they have no gaps. Document 02, P8. The statement is a type; proofs/TopStrip.antt
-- proves it. Assumes nothing: these are definitions.
use Rattle.std.specs.Prelude.{◌≡◌, true, List, ℕ, ◌≤◌, length, get_or}
use Rattle.stack.specs.Stack.{Stack, legal, sum}
use Rattle.stack.specs.Limits.{within_limits}

-- THE TOP STRIP stands at x in a legal placement with just this total
pub record TopAt (k : Stack) (s v x : ℕ) : Type 0 where
  pub separations : List ℕ
  pub positions : List ℕ
  pub is_legal : legal k s separations positions ≡ true
  pub exact : sum separations ≡ v
  pub top : get_or positions (length k.channels) 0 ≡ x

unfoldable pub TopNoGap : Type 0
TopNoGap = (k : Stack) (s v x y z : ℕ) → within_limits k ≡ true → TopAt k s v x → TopAt k s v z → x ≤ y → y ≤ z → TopAt k s v y
