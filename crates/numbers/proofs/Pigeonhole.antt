-- The pigeonhole principle for a relation: n + 1 things cannot each have one of n places to itself. By induction on n: the last thing's place is
-- struck out, and the places above it move down by one. Assumes nothing.
use mathlib.Core.Path.{◌≡◌, subst}
use Prim.Native.Nat.{ℕ, zero, suc, ◌≤◌, ◌<◌, ◌-◌}
use native.Mathlib.Decide.{dec_lt}
use native.Mathlib.Omega.{arith}

-- each of the things 0 to n has one of the places below n
unfoldable pub Placed : (n : ℕ) → (R : ℕ → ℕ → Type 0) → Type 0
Placed n R = (i : ℕ) → i ≤ n → (y : ℕ) × (y < n) × R i y

-- no two of the things 0 to n have the same place
unfoldable pub Alone : (n : ℕ) → (R : ℕ → ℕ → Type 0) → Type 0
Alone n R = (i j y : ℕ) → i < j → j ≤ n → R i y → R j y → ⊥

-- the relation with place o struck out
data Without (R : ℕ → ℕ → Type 0) (o i y : ℕ) : Type 0 where
  below : y < o → R i y → Without R o i y
  above : o ≤ y → R i (suc y) → Without R o i y

without_place : (R : ℕ → ℕ → Type 0) (n o i y : ℕ) → o ≤ n → y ≤ n → (y ≡ o → ⊥) → R i y → (x : ℕ) × (x < n) × Without R o i x
without_place R n o i y g h e r = go (dec_lt y o)
  where
    go : Dec (y < o) → (x : ℕ) × (x < n) × Without R o i x
    go (yes l) = (y, omega arith, below l r)
    go (no f) =
        let s : y ≡ suc (y - 1) = omega arith in
        (y - 1, omega arith, above (omega arith) (subst (λ (z : ℕ). R i z) s r))

-- with the last thing's place struck out the others still have places
without_placed : (n o : ℕ) (R : ℕ → ℕ → Type 0) → Placed (suc n) R → Alone (suc n) R → o ≤ n → R (suc n) o → Placed n (Without R o)
unfolding Placed Alone
without_placed n o R p f l r i h =
    let (y, k, s) = p i (omega arith) in
    without_place R n o i y l (omega arith) (λ e. f i (suc n) o (omega arith) (omega arith) (rw e at s) r) s

without_alone : (n o : ℕ) (R : ℕ → ℕ → Type 0) → Alone (suc n) R → Alone n (Without R o)
unfolding Alone
without_alone n o R f i j y l h (below x r) (below z s) = f i j y l (omega arith) r s
without_alone n o R f i j y l h (below x r) (above z s) = omega arith
without_alone n o R f i j y l h (above x r) (below z s) = omega arith
without_alone n o R f i j y l h (above x r) (above z s) = f i j (suc y) l (omega arith) r s

pub pigeonhole : (n : ℕ) (R : ℕ → ℕ → Type 0) → Placed n R → Alone n R → ⊥
unfolding Placed
pigeonhole zero R p f = let h = p 0 (omega arith) in omega arith
pigeonhole (suc n) R p f =
    let (o, l, r) = p (suc n) (omega arith) in
    pigeonhole n (Without R o) (without_placed n o R p f (omega arith) r) (without_alone n o R f)
