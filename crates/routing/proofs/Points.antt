-- Points of the grid as equals, and lists of paths read by index: each path leads between its pair's terminals, and no point is on two of them.
-- Assumes nothing.
use mathlib.Core.Path.{◌≡◌, refl, ap}
use mathlib.Core.Bool.{true, not}
use mathlib.Core.List.{List, [], ◌∷◌}
use mathlib.Core.Logic.{◌⊎◌, inl, inr}
use Prim.Native.Nat.{ℕ, zero, suc, ◌+◌, ◌<◌}
use lib.IntN.{ℤ, pos, negsuc}
use lib.ListN.{length, get_or}
use native.Mathlib.Omega.{arith}
use borrow.Author.Tests.{eqb-true, eq-eqb}
use Rattle.numbers.proofs.Bools.{ands, or_either}
use Rattle.stack.specs.Stack.{Pair, p_at, q_at}
use Rattle.routing.specs.Paths.{Point, point, same_column, same_point, is_path, on_path, apart, apart_from_all, none_meet, all_paths}

pub same_column_equal : (x y : ℤ) → same_column x y ≡ true → x ≡ y
unfolding same_column
same_column_equal (pos a) (pos b) e = ap pos (eqb-true a b e)
same_column_equal (pos a) (negsuc b) e = cc
same_column_equal (negsuc a) (pos b) e = cc
same_column_equal (negsuc a) (negsuc b) e = ap negsuc (eqb-true a b e)

pub same_point_equal : (a b : Point) → same_point a b ≡ true → a ≡ b
unfolding same_point
same_point_equal a b e =
    let x : a.column ≡ b.column = search (ands, same_column_equal) in
    let y : a.track ≡ b.track = search (ands, eqb-true) in
    λ i. record { column = x i; track = y i }

same_column_self : (x : ℤ) → same_column x x ≡ true
unfolding same_column
same_column_self (pos a) = eq-eqb a a refl
same_column_self (negsuc a) = eq-eqb a a refl

pub same_point_self : (a : Point) → same_point a a ≡ true
unfolding same_point
same_point_self a = rw (same_column_self a.column, eq-eqb a.track a.track refl)

pub pos_injective : (x : ℤ) (m n : ℕ) → x ≡ pos m → x ≡ pos n → m ≡ n
pos_injective x m n d e = cc

unfoldable pub path_at : List (List Point) → (j : ℕ) → List Point
path_at ws j = get_or ws j []

-- the path of pair j leads from its lower to its upper terminal
pub all_paths_elim : (t a b : ℕ) (c : List Pair) (ws : List (List Point)) → all_paths t a b c ws ≡ true → (j : ℕ) → j < length c
    → is_path t (point (pos (a + p_at c j)) 0) (point (pos (b + q_at c j)) t) (path_at ws j) ≡ true
unfolding all_paths p_at q_at path_at
all_paths_elim t a b [] ws h j l = absurd (omega arith)
all_paths_elim t a b (x ∷ c) [] h j l = let z : ◌≡◌ {A = ℕ} 0 1 = cc in absurd (omega arith)
all_paths_elim t a b (x ∷ c) (w ∷ ws) h zero l = search ands
all_paths_elim t a b (x ∷ c) (w ∷ ws) h (suc j) l = all_paths_elim t a b c ws (search ands) j (omega arith)

apart_elim : (z : Point) (xs ys : List Point) → apart xs ys ≡ true → on_path z xs ≡ true → on_path z ys ≡ true → ⊥
unfolding apart on_path
apart_elim z [] ys h o k = let e : ◌≡◌ {A = ℕ} 0 1 = cc in omega arith
apart_elim z (x ∷ xs) ys h o k = go (or_either (same_point z x) (on_path z xs) o) (λ e. apart_elim z xs ys (search ands) e k)
  where
    go : (same_point z x ≡ true) ⊎ (on_path z xs ≡ true) → (on_path z xs ≡ true → ⊥) → ⊥
    go (inl e) f =
        let n : not (on_path x ys) ≡ true = search ands in
        let e : ◌≡◌ {A = ℕ} 0 1 = cc (rw (same_point_equal z x e) at k) in
        omega arith
    go (inr e) f = f e

apart_from_all_elim : (z : Point) (xs : List Point) (ws : List (List Point)) → apart_from_all xs ws ≡ true → (j : ℕ) → on_path z xs ≡ true
    → on_path z (path_at ws j) ≡ true → ⊥
unfolding apart_from_all path_at on_path
apart_from_all_elim z xs [] h j o k = let e : ◌≡◌ {A = ℕ} 0 1 = cc in omega arith
apart_from_all_elim z xs (w ∷ ws) h zero o k = apart_elim z xs w (search ands) o k
apart_from_all_elim z xs (w ∷ ws) h (suc j) o k = apart_from_all_elim z xs ws (search ands) j o k

-- no point is on the paths of two pairs
pub none_meet_elim : (z : Point) (ws : List (List Point)) → none_meet ws ≡ true → (i j : ℕ) → i < j → on_path z (path_at ws i) ≡ true
    → on_path z (path_at ws j) ≡ true → ⊥
unfolding none_meet path_at on_path
none_meet_elim z [] h i j l o k = let e : ◌≡◌ {A = ℕ} 0 1 = cc in omega arith
none_meet_elim z (w ∷ ws) h zero zero l o k = omega arith
none_meet_elim z (w ∷ ws) h zero (suc j) l o k = apart_from_all_elim z w ws (search ands) j o k
none_meet_elim z (w ∷ ws) h (suc i) zero l o k = omega arith
none_meet_elim z (w ∷ ws) h (suc i) (suc j) l o k = none_meet_elim z ws (search ands) i j (omega arith) o k
