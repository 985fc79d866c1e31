-- A list stored into an array of zeros, and read back. Assumes nothing.
use mathlib.Core.Path.{◌≡◌, refl, ap, ◌∙◌}
use mathlib.Core.List.{List, [], ◌∷◌, ◌++◌, append_assoc}
use Prim.Native.Nat.{ℕ, zero, suc, ◌-◌, ◌≤◌}
use native.Mathlib.Nat.{sub-zero, suc-sub-suc}
use native.Mathlib.Omega.{arith}
use lib.ListN.{length, replicate, length-append}
use lib.Seq.{set_at, append_snoc}
use Rattle.numbers.specs.Lists.{padded}
use Rattle.arrays.specs.Arrays.{entry, store, taken}

-- stored behind what is written already
store_behind : (xs ys : List ℕ) (n i : ℕ) → length ys ≡ i → length xs ≤ n → store (ys ++ replicate n 0) i xs ≡ ys ++ (xs ++ replicate (n - length xs) 0)
unfolding store
store_behind [] ys n i e h = rw sub-zero
store_behind (x ∷ xs) ys zero i e h = absurd (omega arith)
store_behind (x ∷ xs) ys (suc n) i e h =
    let r : store ((ys ++ (x ∷ [])) ++ replicate n 0) (suc i) xs ≡ (ys ++ (x ∷ [])) ++ (xs ++ replicate (n - length xs) 0) = store_behind xs (ys ++ (x ∷ [])) n (suc i) (omega (arith, length-append ys (x ∷ []))) (omega arith) in
    rw (set_at ys 0 (replicate n 0) x i e, ← append_snoc ys x (replicate n 0), suc-sub-suc) (r ∙ append_assoc ys (x ∷ []) (xs ++ replicate (n - length xs) 0))

pub store_padded : (n : ℕ) (xs : List ℕ) → length xs ≤ n → store (replicate n 0) 0 xs ≡ padded n xs
unfolding padded
store_padded n xs h = store_behind xs [] n 0 refl h

taken_on : (x : ℕ) (xs : List ℕ) (i n : ℕ) → taken (x ∷ xs) (suc i) n ≡ taken xs i n
unfolding taken
taken_on x xs i zero = refl
taken_on x xs i (suc n) = ap {B = List ℕ} (λ ys. entry xs i ∷ ys) (taken_on x xs (suc i) n)

taken_front : (xs ys : List ℕ) → taken (xs ++ ys) 0 (length xs) ≡ xs
unfolding taken
taken_front [] ys = refl
taken_front (x ∷ xs) ys = ap {B = List ℕ} (λ zs. x ∷ zs) (taken_on x (xs ++ ys) 0 (length xs) ∙ taken_front xs ys)

pub taken_padded : (n k : ℕ) (xs : List ℕ) → length xs ≡ k → taken (padded n xs) 0 k ≡ xs
unfolding padded
taken_padded n k xs e = rw (← e) (taken_front xs (replicate (n - length xs) 0))
