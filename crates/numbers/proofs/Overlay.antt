-- What a store leaves from its place on, and a list from one place before. By induction on the list. Assumes nothing.
use mathlib.Core.Path.{◌≡◌, refl}
use mathlib.Core.List.{List, [], ◌∷◌}
use Prim.Native.Nat.{ℕ, zero, suc, ◌-◌, ◌≤◌, ◌<◌}
use native.Mathlib.Omega.{arith}
use lib.ListN.{length, get_or, drop, set}
use lib.Seq.{drop-cons}

-- from a store's place on: the new element, and what stood behind it
pub drop_stored {ℓ} : {A : Type ℓ} (l : List A) (i : ℕ) (a : A) → i < length l → drop i (set l i a) ≡ a ∷ drop (suc i) l
drop_stored [] i a h = absurd (omega arith)
drop_stored (x ∷ l) zero a h = refl
drop_stored (x ∷ l) (suc i) a h = drop_stored l i a (omega arith)

-- from one place before: one element more
pub drop_before {ℓ} : {A : Type ℓ} (l : List A) (i : ℕ) (d : A) → 0 < i → i ≤ length l → drop (i - 1) l ≡ get_or l (i - 1) d ∷ drop i l
drop_before l i d h k = let e : suc (i - 1) ≡ i = omega arith in let cut = drop-cons l (i - 1) d (omega arith) in rw e at cut
