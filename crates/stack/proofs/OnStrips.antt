-- The terminals of a channel within the limits lie on its strips, each of them, and on longer ones. By induction on the pairs. Assumes nothing.
use mathlib.Core.Path.{◌≡◌, refl}
use mathlib.Core.Bool.{true}
use mathlib.Core.List.{List, [], ◌∷◌}
use Prim.Native.Nat.{ℕ, zero, suc, ◌≤◌, ◌<◌}
use native.Mathlib.Omega.{arith}
use lib.ListN.{length}
use borrow.Author.Tests.{leb-true, le-leb}
use Rattle.numbers.proofs.Bools.{ands}
use Rattle.stack.specs.Stack.{Pair, p_at, q_at}
use Rattle.stack.specs.Limits.{on_strips}

pub terminals_on : (l u : ℕ) (c : List Pair) → on_strips l u c ≡ true → (j : ℕ) → j < length c → (p_at c j ≤ l) × (q_at c j ≤ u)
unfolding on_strips p_at q_at
terminals_on l u [] e j h = absurd (omega arith)
terminals_on l u (x ∷ c) e zero h = (leb-true x.p l (search ands), leb-true x.q u (search ands))
terminals_on l u (x ∷ c) e (suc j) h = terminals_on l u c (search ands) j (omega arith)

-- and where each pair's terminals do, the channel's are on its strips
pub on_each : (a b : ℕ) (c : List Pair) → ((j : ℕ) → j < length c → (p_at c j ≤ a) × (q_at c j ≤ b)) → on_strips a b c ≡ true
unfolding on_strips p_at q_at
on_each a b [] h = refl
on_each a b (x ∷ c) h =
    let z = h 0 (omega arith) in
    rw (le-leb x.p a z.0, le-leb x.q b z.1) (on_each a b c (λ j m. h (suc j) (omega arith)))

pub on_longer : (l u m n : ℕ) (c : List Pair) → l ≤ m → u ≤ n → on_strips l u c ≡ true → on_strips m n c ≡ true
on_longer l u m n c a b e = on_each m n c (λ j h. let t = terminals_on l u c e j h in (omega (arith, t.0), omega (arith, t.1)))
