-- Laws of tabulate: its length, its elements, one element more, agreement, and one element changed; of filled: its start, a step, its elements; a map of a store; the
-- places of padded that are used; and zeros place by place.
-- Assumes nothing.
use mathlib.Core.Path.{◌≡◌, refl, ap, ◌∙◌}
use mathlib.Core.List.{List, [], ◌∷◌, ◌++◌, map, append_assoc}
use mathlib.Core.Logic.{◌≢◌}
use Prim.Native.Nat.{ℕ, zero, suc, ◌+◌, ◌-◌, ◌≤◌, ◌<◌}
use native.Mathlib.Nat.{add-zero, zero-add, add-suc, suc-add, sub-zero}
use native.Mathlib.Numerals.{add-one}
use native.Mathlib.Omega.{arith}
use lib.ListN.{length, get_or, set, take, replicate, get_or-append, get_or-replicate}
use lib.Seq.{set_at, take_at, get_or-append-add}
use Rattle.numbers.specs.Lists.{tabulate, filled, padded}

pub length_tabulate {ℓ} : {A : Type ℓ} (n i : ℕ) (f : ℕ → A) → length (tabulate n i f) ≡ n
unfolding tabulate
length_tabulate zero i f = refl
length_tabulate (suc n) i f = ap suc (length_tabulate n (suc i) f)

getD_tabulate_from {ℓ} : {A : Type ℓ} (n i j : ℕ) (f : ℕ → A) (d : A) → j < n → get_or (tabulate n i f) j d ≡ f (i + j)
unfolding tabulate
getD_tabulate_from zero i j f d h = absurd (omega arith)
getD_tabulate_from (suc n) i zero f d h = rw add-zero
getD_tabulate_from (suc n) i (suc j) f d h = rw (getD_tabulate_from n (suc i) j f d (omega arith), suc-add, add-suc)

pub get_or_tabulate {ℓ} : {A : Type ℓ} (n j : ℕ) (f : ℕ → A) (d : A) → j < n → get_or (tabulate n 0 f) j d ≡ f j
get_or_tabulate n j f d h = rw (getD_tabulate_from n 0 j f d h, zero-add)

-- lists by two rules that agree
pub tabulate_same {ℓ} : {A : Type ℓ} (n i : ℕ) (f g : ℕ → A) → ((j : ℕ) → i ≤ j → j < i + n → f j ≡ g j) → tabulate n i f ≡ tabulate n i g
unfolding tabulate
tabulate_same zero i f g h = refl
tabulate_same (suc n) i f g h =
    rw (h i (omega arith) (omega arith), tabulate_same n (suc i) f g (λ j a b. h j (omega arith) (omega arith)))

pub tabulate_snoc {ℓ} : {A : Type ℓ} (n i : ℕ) (f : ℕ → A) → tabulate (suc n) i f ≡ tabulate n i f ++ (f (i + n) ∷ [])
unfolding tabulate
tabulate_snoc zero i f = rw add-zero
tabulate_snoc (suc n) i f = let e : suc i + n ≡ i + suc n = omega arith in ap (λ r. f i ∷ r) (rw (tabulate_snoc n (suc i) f, e))

pub tabulate_constant {ℓ} : {A : Type ℓ} (n i : ℕ) (a : A) → tabulate n i (λ j. a) ≡ replicate n a
unfolding tabulate
tabulate_constant zero i a = refl
tabulate_constant (suc n) i a = ap (λ r. a ∷ r) (tabulate_constant n (suc i) a)

-- two rules that agree but at one place
tabulate_set_from {ℓ} : {A : Type ℓ} (n i k : ℕ) (f g : ℕ → A) (v : A) → g (i + k) ≡ v → ((j : ℕ) → j ≢ i + k → g j ≡ f j) →
    tabulate n i g ≡ set (tabulate n i f) k v
unfolding tabulate
tabulate_set_from zero i zero f g v e h = refl
tabulate_set_from zero i (suc k) f g v e h = refl
tabulate_set_from (suc n) i zero f g v e h =
    rw (rw add-zero at e, tabulate_same n (suc i) g f (λ j a b. h j (omega arith)))
tabulate_set_from (suc n) i (suc k) f g v e h =
    let s : i + suc k ≡ suc i + k = omega arith in
    rw (h i (omega arith), tabulate_set_from n (suc i) k f g v (rw s at e) (rw s at h))

pub tabulate_set {ℓ} : {A : Type ℓ} (n k : ℕ) (f g : ℕ → A) (v : A) → g k ≡ v → ((j : ℕ) → j ≢ k → g j ≡ f j) →
    tabulate n 0 g ≡ set (tabulate n 0 f) k v
tabulate_set n k f g v e h = tabulate_set_from n 0 k f g v (rw zero-add e) (rw zero-add h)

pub filled_starts {ℓ} : {A : Type ℓ} (n : ℕ) (f : ℕ → A) (d : A) → filled n 0 f d ≡ replicate n d
unfolding filled tabulate
filled_starts n f d = rw sub-zero

pub filled_steps {ℓ} : {A : Type ℓ} (n t : ℕ) (f : ℕ → A) (d : A) → t < n → set (filled n t f d) t (f t) ≡ filled n (t + 1) f d
unfolding filled
filled_steps n t f d h =
    let e : n - t ≡ suc (n - (t + 1)) = omega arith in
    rw (
      e,
      set_at (tabulate t 0 f) d (replicate (n - (t + 1)) d) (f t) t (length_tabulate t 0 f),
      add-one t,
      tabulate_snoc t 0 f,
      zero-add t,
      append_assoc (tabulate t 0 f) (f t ∷ []) (replicate (n - suc t) d),
    )

-- its elements: by the rule, and d
pub filled_first {ℓ} : {A : Type ℓ} (n t j : ℕ) (f : ℕ → A) (d e : A) → j < t → get_or (filled n t f d) j e ≡ f j
unfolding filled
filled_first n t j f d e h =
    get_or-append (tabulate t 0 f) (replicate (n - t) d) e j (omega (arith, length_tabulate t 0 f)) ∙ get_or_tabulate t j f e h

pub filled_rest {ℓ} : {A : Type ℓ} (n t j : ℕ) (f : ℕ → A) (d e : A) → t ≤ j → j < n → get_or (filled n t f d) j e ≡ d
unfolding filled
filled_rest n t j f d e h k =
    let at : j ≡ length (tabulate t 0 f) + (j - t) = omega (arith, length_tabulate t 0 f) in
    ap (λ i. get_or (tabulate t 0 f ++ replicate (n - t) d) i e) at
    ∙ (get_or-append-add (tabulate t 0 f) (replicate (n - t) d) (j - t) e ∙ get_or-replicate (n - t) (j - t) d e (omega arith))

-- a map of a list with one element written
pub map_set : {A B : Type 0} (f : A → B) (xs : List A) (i : ℕ) (a : A) → map f (set xs i a) ≡ set (map f xs) i (f a)
map_set f [] i a = refl
map_set f (x ∷ xs) zero a = refl
map_set {B = B} f (x ∷ xs) (suc i) a = ap {B = List B} (λ ys. f x ∷ ys) (map_set f xs i a)

-- the places that are used
pub padded_take : (n m : ℕ) (xs : List ℕ) → length xs ≡ m → take m (padded n xs) ≡ xs
unfolding padded
padded_take n m xs e = take_at xs (replicate (n - length xs) 0) m e

pub zeros_at : (n i : ℕ) → ◌≡◌ {A = ℕ} (get_or (replicate n 0) i 0) 0
zeros_at zero i = refl
zeros_at (suc n) zero = refl
zeros_at (suc n) (suc i) = zeros_at n i
