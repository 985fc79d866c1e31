-- The greatest number up to m that passes a test. If a number passes wherever the next one does, it is the count of those from 1 to m that pass.
-- Assumes nothing.
use mathlib.Core.Path.{◌≡◌, refl}
use mathlib.Core.Bool.{Bool, true, false, cond}
use Prim.Native.Nat.{ℕ, zero, suc, ◌+◌, ◌≤◌, ◌<◌}
use native.Mathlib.Decide.{ℕ_discrete, dec_lt}
use native.Mathlib.Omega.{arith}
use Rattle.routing.specs.Wiring.{count}

-- n is the greatest number up to m that passes
pub record Greatest (f : ℕ → Bool) (m n : ℕ) : Type 0 where
  pub within : n ≤ m
  pub passes : f n ≡ true
  pub most : (i : ℕ) → i ≤ m → f i ≡ true → i ≤ n

-- a number passes wherever the next one, up to m, does
unfoldable pub Falls : (ℕ → Bool) → (m : ℕ) → Type 0
Falls f m = (i : ℕ) → suc i ≤ m → f (suc i) ≡ true → f i ≡ true

all_count : (f : ℕ → Bool) (m : ℕ) → Falls f m → f m ≡ true → count f m ≡ m
unfolding count Falls
all_count f zero d e = refl
all_count f (suc m) d e = rw (e, all_count f m (λ i l. d i (omega arith)) (d m (omega arith) e))

earlier : (f : ℕ → Bool) (m i : ℕ) → i ≤ suc m → f (suc m) ≡ false → f i ≡ true → i ≤ m
earlier f m i l e h = go (ℕ_discrete i (suc m))
  where
    go : Dec (i ≡ suc m) → i ≤ m
    go (yes d) = let x = rw d at h in let z : ◌≡◌ {A = ℕ} 0 1 = cc in omega arith
    go (no d) = omega arith

pub count_greatest : (f : ℕ → Bool) (m : ℕ) → Falls f m → f 0 ≡ true → Greatest f m (count f m)
unfolding count Falls
count_greatest f zero d z = record { within = omega arith; passes = z; most = λ i l h. l }
count_greatest f (suc m) d z = go (f (suc m)) refl (count_greatest f m (λ i l. d i (omega arith)) z)
  where
    go : (v : Bool) → f (suc m) ≡ v → Greatest f m (count f m) → Greatest f (suc m) (cond v (suc (count f m)) (count f m))
    go true e g =
        rw (all_count f m (λ i l. d i (omega arith)) (d m (omega arith) e)) (record { within = omega arith; passes = e; most = λ i l h. l })
    go false e g =
        record { within = omega arith; passes = g.passes; most = λ i l h. g.most i (earlier f m i l e h) h }

-- a greatest is greater than another if a number that passes the other's test passes its own d numbers later
pub greatest_beyond : (f g : ℕ → Bool) (m n d x y : ℕ) → Greatest f m x → Greatest g n y → 0 < d → m + d ≤ n
    → ((i : ℕ) → i ≤ m → f i ≡ true → g (i + d) ≡ true) → x < y
greatest_beyond f g m n d x y s t l h k = let z = t.most (x + d) (omega arith) (k x s.within s.passes) in omega arith

-- not smaller if every number that passes the other's test passes its own
pub greatest_rises : (f g : ℕ → Bool) (m x y : ℕ) → Greatest f m x → Greatest g m y → ((i : ℕ) → i ≤ m → f i ≡ true → g i ≡ true) → x ≤ y
greatest_rises f g m x y s t k = t.most x s.within (k x s.within s.passes)

-- below t if no number from t on passes
pub greatest_below : (f : ℕ → Bool) (m x t : ℕ) → Greatest f m x → ((i : ℕ) → t ≤ i → i ≤ m → f i ≡ true → ⊥) → x < t
greatest_below f m x t s k = go (dec_lt x t)
  where
    go : Dec (x < t) → x < t
    go (yes d) = d
    go (no d) = absurd (k x (omega arith) s.within s.passes)
