-- Paths listed by a function of the pair: they lead the pairs of a channel if each of them does, and none meet if no point is on two of them.
-- Assumes nothing.
use mathlib.Core.Path.{◌≡◌, refl}
use mathlib.Core.Bool.{Bool, true, false, not}
use mathlib.Core.List.{List, [], ◌∷◌}
use Prim.Native.Nat.{ℕ, zero, suc, ◌+◌, ◌<◌}
use lib.IntN.{pos}
use lib.ListN.{length}
use native.Mathlib.Omega.{arith}
use Rattle.numbers.proofs.Bools.{and_both, or_left, or_right}
use Rattle.stack.specs.Stack.{Pair, p_at, q_at}
use Rattle.routing.specs.Paths.{Point, point, same_point, is_path, on_path, apart, apart_from_all, none_meet, all_paths}
use Rattle.routing.specs.Wiring.{listed}
use Rattle.routing.proofs.Points.{path_at, same_point_self}

pub listed_at : (f : ℕ → List Point) (n j : ℕ) → j < n → path_at (listed f n) j ≡ f j
unfolding listed path_at
listed_at f zero j l = absurd (omega arith)
listed_at f (suc n) zero l = refl
listed_at f (suc n) (suc j) l = listed_at (λ i. f (suc i)) n j (omega arith)

pub all_paths_listed : (t a b : ℕ) (c : List Pair) (f : ℕ → List Point)
    → ((j : ℕ) → j < length c → is_path t (point (pos (a + p_at c j)) 0) (point (pos (b + q_at c j)) t) (f j) ≡ true)
    → all_paths t a b c (listed f (length c)) ≡ true
unfolding all_paths listed p_at q_at
all_paths_listed t a b [] f h = refl
all_paths_listed t a b (x ∷ c) f h =
    and_both (is_path t (point (pos (a + x.p)) 0) (point (pos (b + x.q)) t) (f 0)) (all_paths t a b c (listed (λ i. f (suc i)) (length c)))
    (h 0 (omega arith)) (all_paths_listed t a b c (λ i. f (suc i)) (λ j l. h (suc j) (omega arith)))

-- no point is on both paths
unfoldable pub Disjoint : (xs ys : List Point) → Type 0
Disjoint xs ys = (z : Point) → on_path z xs ≡ true → on_path z ys ≡ true → ⊥

apart_intro : (xs ys : List Point) → Disjoint xs ys → apart xs ys ≡ true
unfolding apart on_path Disjoint
apart_intro [] ys h = refl
apart_intro (x ∷ xs) ys h =
    and_both (not (on_path x ys)) (apart xs ys) (go (on_path x ys) refl)
    (apart_intro xs ys (λ z o. h z (or_right (same_point z x) (on_path z xs) o)))
  where
    go : (v : Bool) → on_path x ys ≡ v → not v ≡ true
    go true e = absurd (h x (or_left (same_point x x) (on_path x xs) (same_point_self x)) e)
    go false e = refl

apart_from_all_listed : (xs : List Point) (f : ℕ → List Point) (n : ℕ) → ((j : ℕ) → j < n → Disjoint xs (f j)) → apart_from_all xs (listed f n) ≡ true
unfolding apart_from_all listed
apart_from_all_listed xs f zero h = refl
apart_from_all_listed xs f (suc n) h =
    and_both (apart xs (f 0)) (apart_from_all xs (listed (λ i. f (suc i)) n)) (apart_intro xs (f 0) (h 0 (omega arith)))
    (apart_from_all_listed xs (λ i. f (suc i)) n (λ j l. h (suc j) (omega arith)))

pub none_meet_listed : (f : ℕ → List Point) (n : ℕ) → ((i j : ℕ) → i < j → j < n → Disjoint (f i) (f j)) → none_meet (listed f n) ≡ true
unfolding none_meet listed
none_meet_listed f zero h = refl
none_meet_listed f (suc n) h =
    and_both (apart_from_all (f 0) (listed (λ i. f (suc i)) n)) (none_meet (listed (λ i. f (suc i)) n))
    (apart_from_all_listed (f 0) (λ i. f (suc i)) n (λ j l. h 0 (suc j) (omega arith) (omega arith)))
    (none_meet_listed (λ i. f (suc i)) n (λ i j l m. h (suc i) (suc j) (omega arith) (omega arith)))
