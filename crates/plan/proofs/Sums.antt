-- The laws of the loop over channels that sums the last separations above each strip. Assumes nothing.
use mathlib.Core.Path.{◌≡◌, refl, ap, ◌∙◌}
use mathlib.Core.Logic.{◌⊎◌, inl, inr}
use mathlib.Core.List.{List}
use Prim.Native.Nat.{ℕ, zero, suc, ◌+◌, ◌*◌, ◌≤◌, ◌<◌}
use native.Mathlib.Numerals.{add-one}
use native.Mathlib.Omega.{arith}
use lib.ListN.{set, replicate, length-set, get_or-replicate}
use lib.Seq.{get_or-set_same, get_or-set_other}
use Rattle.numbers.proofs.Orders.{lt_or_eq}
use Rattle.stack.specs.Sizes.{strips_held, last_held}
use Rattle.arrays.specs.Arrays.{entry, sums, SumsAre}
use Rattle.plan.specs.Plan.{LastsAsk}

-- THE SUMS above each strip
pub sums_start : (lasts : List ℕ) (k : ℕ) → LastsAsk lasts k → SumsAre lasts k k (replicate strips_held 0)
unfolding sums
sums_start lasts k a =
    record {
      size = refl;
      sums_are = λ j n h e.
          let z : n ≡ 0 = omega arith in
          rw z (get_or-replicate strips_held j 0 0 (omega (arith, a.channels)));
      small = λ j h l. let z : entry (replicate strips_held 0) j ≡ 0 = get_or-replicate strips_held j 0 0 (omega (arith, a.channels)) in omega arith;
    }

module _ (lasts : List ℕ) (k i j : ℕ) (r : List ℕ) (a : LastsAsk lasts k) (s : SumsAre lasts k i r) (below : j + 1 ≡ i) (h : i ≤ k) where
  abbrev new : List ℕ
  new = set r j (entry lasts j + entry r (j + 1))

  written : entry new j ≡ entry lasts j + entry r (j + 1)
  written = get_or-set_same r j _ 0 (omega (arith, s.size, a.channels))

  pub sums_step : SumsAre lasts k j new
  unfolding sums
  sums_step =
      record {
        size = length-set r j _ ∙ s.size;
        sums_are = λ p n m e. go p n e (lt_or_eq j p m);
        small = λ p m l. bound p l (lt_or_eq j p m);
      }
    where
      here : (n : ℕ) → j + n ≡ k → entry new j ≡ sums lasts j n
      here zero e = absurd (omega arith)
      here (suc n) e = written ∙ ap (λ (m : ℕ). entry lasts j + m) (rw (add-one j) (s.sums_are (suc j) n (omega arith) (omega arith)))

      go : (p n : ℕ) → p + n ≡ k → (j < p) ⊎ (j ≡ p) → entry new p ≡ sums lasts p n
      go p n e (inl m) = get_or-set_other r j p _ 0 (omega arith) ∙ s.sums_are p n (omega arith) e
      go p n e (inr m) = rw (← m) (here n (rw (← m) at e))

      bound : (p : ℕ) → p ≤ k → (j < p) ⊎ (j ≡ p) → entry new p + last_held * p ≤ last_held * k
      bound p l (inl m) = omega (arith, get_or-set_other r j p (entry lasts j + entry r (j + 1)) 0 (omega arith), s.small p (omega arith) l)
      bound p l (inr m) =
          let above : entry r (j + 1) + last_held * (j + 1) ≤ last_held * k = rw below (s.small i (omega arith) h) in
          rw (← m) (omega (arith, written, a.listed j (omega arith)))
