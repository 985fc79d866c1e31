-- The bounded search: what it finds passes the test, nothing before it does, and it finds something if anything in its range passes. Assumes nothing.
use mathlib.Core.Path.{◌≡◌, refl}
use mathlib.Core.Bool.{Bool, true, false}
use mathlib.Core.Logic.{◌⊎◌, inl, inr}
use Prim.Native.Nat.{ℕ, zero, suc, ◌+◌, ◌≤◌, ◌<◌}
use native.Mathlib.Omega.{arith}
use Rattle.numbers.proofs.Orders.{lt_or_eq}
use Rattle.spans.specs.Solver.{first}

module _ (f : ℕ → Bool) where
  pub first_hit : (q n : ℕ) → f q ≡ true → first f q (suc n) ≡ q
  unfolding first
  first_hit q n e = rw (e, first)

  pub first_miss : (q n : ℕ) → f q ≡ false → first f q (suc n) ≡ first f (suc q) n
  unfolding first
  first_miss q n e = rw (e, first)

  -- two cases: found at once, or later
  data Found (q n : ℕ) : Type 0 where
    here : f q ≡ true → first f q (suc n) ≡ q → Found q n
    later : f q ≡ false → first f q (suc n) ≡ first f (suc q) n → Found q n

  found : (q n : ℕ) → Found q n
  found q n = go (f q) refl
    where
      go : (v : Bool) → f q ≡ v → Found q n
      go true e = here e (first_hit q n e)
      go false e = later e (first_miss q n e)

  pub first_from : (q n : ℕ) → q ≤ first f q n
  unfolding first
  first_from q zero = omega arith
  first_from q (suc n) = go (first_from (suc q) n) (found q n)
    where
      go : suc q ≤ first f (suc q) n → Found q n → q ≤ first f q (suc n)
      go r (here e s) = omega arith
      go r (later e s) = omega arith

  pub first_upto : (q n : ℕ) → first f q n ≤ q + n
  unfolding first
  first_upto q zero = omega arith
  first_upto q (suc n) = go (first_upto (suc q) n) (found q n)
    where
      go : first f (suc q) n ≤ suc q + n → Found q n → first f q (suc n) ≤ q + suc n
      go r (here e s) = omega arith
      go r (later e s) = omega arith

  pub first_holds : (q n : ℕ) → first f q n < q + n → f (first f q n) ≡ true
  unfolding first
  first_holds q zero h = absurd (omega arith)
  first_holds q (suc n) h = go (first_holds (suc q) n) (found q n)
    where
      go : (first f (suc q) n < suc q + n → f (first f (suc q) n) ≡ true) → Found q n → f (first f q (suc n)) ≡ true
      go r (here e s) = rw s e
      go r (later e s) = rw s (r (omega arith))

  pub first_least : (q n j : ℕ) → q ≤ j → j < q + n → f j ≡ true → first f q n ≤ j
  unfolding first
  first_least q zero j h k e = absurd (omega arith)
  first_least q (suc n) j h k e = go (λ m. first_least (suc q) n j m (omega arith) e) (found q n) (lt_or_eq q j h)
    where
      go : (suc q ≤ j → first f (suc q) n ≤ j) → Found q n → (q < j) ⊎ (q ≡ j) → first f q (suc n) ≤ j
      go r (here e s) m = omega arith
      go r (later g s) (inl m) = omega (arith, r m)
      go r (later g s) (inr m) = let z : ◌≡◌ {A = ℕ} 0 1 = cc in absurd (omega arith)
