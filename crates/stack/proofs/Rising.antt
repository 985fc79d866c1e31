-- Along a rising channel's edges each terminal is at least one column further than the one before it: n pairs on, at least n columns. By induction on
-- the pairs, then on n. Assumes nothing.
use mathlib.Core.Path.{◌≡◌, refl}
use mathlib.Core.Bool.{true}
use mathlib.Core.List.{List, [], ◌∷◌}
use Prim.Native.Nat.{ℕ, zero, suc, ◌+◌, ◌≤◌, ◌<◌}
use lib.Dec.{ltb}
use lib.ListN.{length}
use native.Mathlib.Omega.{arith}
use borrow.Author.Tests.{ltb-true, lt-ltb}
use Rattle.numbers.proofs.Bools.{ands}
use Rattle.stack.specs.Stack.{Pair, p_at, q_at}
use Rattle.stack.specs.Limits.{rising, rises_above}

-- the terminals of pair j are at least n columns before those of pair i
pub record Before (c : List Pair) (j i n : ℕ) : Type 0 where
  pub lower : p_at c j + n ≤ p_at c i
  pub upper : q_at c j + n ≤ q_at c i

one_on : (c : List Pair) → rising c ≡ true → (j : ℕ) → suc j < length c → Before c j (suc j) 1
unfolding rising rises_above p_at q_at
one_on [] r j h = omega arith
one_on (x ∷ []) r j h = omega arith
one_on (x ∷ y ∷ c) r zero h =
    let p : ltb x.p y.p ≡ true = search ands in
    let q : ltb x.q y.q ≡ true = search ands in
    omega (arith, ltb-true)
one_on (x ∷ y ∷ c) r (suc j) h = let b = one_on (y ∷ c) (search ands) j (omega arith) in record { lower = b.lower; upper = b.upper }

pub rising_before : (c : List Pair) → rising c ≡ true → (j n i : ℕ) → j + n ≡ i → i < length c → Before c j i n
rising_before c r j zero i e h =
    let s : j ≡ i = omega arith in
    rw s (omega arith)
rising_before c r j (suc n) zero e h = absurd (omega arith)
rising_before c r j (suc n) (suc i) e h =
    let b = rising_before c r j n i (omega arith) (omega arith) in
    let o = one_on c r i h in
    omega arith

-- and what rises so from each pair to the next is rising
pub rises_each : (c : List Pair) → ((j : ℕ) → suc j < length c → Before c j (suc j) 1) → rising c ≡ true
unfolding rising rises_above p_at q_at
rises_each [] h = refl
rises_each (x ∷ []) h = refl
rises_each (x ∷ y ∷ c) h =
    let z = h 0 (omega arith) in
    let rest : (j : ℕ) → suc j < length (y ∷ c) → Before (y ∷ c) j (suc j) 1 =
    λ j m. let b = h (suc j) (omega arith) in record { lower = b.lower; upper = b.upper } in
    rw (lt-ltb x.p y.p (omega (arith, z.lower)), lt-ltb x.q y.q (omega (arith, z.upper))) (rises_each (y ∷ c) rest)
