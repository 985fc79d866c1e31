-- TRUSTED. The paths of a channel: document 02's P1 path rule, and what P4 draws by it. A path going right runs between columns x and x + 1 on the track numbered
-- by how many n ≥ 1 have (column of the terminal n pairs further on the lower edge) - n ≤ x; left is the mirror image. Upright pieces join the runs, and the last
-- reaches track t. For t ≥ 1 the paths drawn are those of separation t - 1, one track higher with an upright step below. Assumes nothing: these are definitions.
use Rattle.std.specs.Prelude.{Bool, true, false, ◌&&◌, ◌||◌, cond, List, [], ◌∷◌, ℕ, zero, suc, ◌+◌, ◌-◌, leb, length, pos}
use Rattle.stack.specs.Stack.{Pair, p_at, q_at}
use Rattle.routing.specs.Paths.{Point, point, same_point}

-- how many of the numbers from 1 to m pass a test
unfoldable pub count : (ℕ → Bool) → (m : ℕ) → ℕ
count f zero = 0
count f (suc m) = cond (f (suc m)) (suc (count f m)) (count f m)

-- (column of the terminal n pairs further on the lower edge) - n ≤ x, each side kept above zero
unfoldable pub right_test : List Pair → (lower j x n : ℕ) → Bool
right_test c a j x n = leb (a + p_at c (j + n)) (x + n)

-- (column of the terminal n pairs back on the lower edge) + n ≥ x
unfoldable pub left_test : List Pair → (lower j x n : ℕ) → Bool
left_test c a j x n = leb x (a + p_at c (j - n) + n)

-- the TRACK on which pair j's path runs between columns x and x + 1 if it goes right, and between x and x - 1 if it goes left
unfoldable pub right_track : List Pair → (lower j x : ℕ) → ℕ
right_track c a j x = count (λ n. right_test c a j x n) (length c - suc j)

unfoldable pub left_track : List Pair → (lower j x : ℕ) → ℕ
left_track c a j x = count (λ n. left_test c a j x n) j

-- n points upright above a point at column x and track y, and then the points given
unfoldable pub riser : (x y n : ℕ) → List Point → List Point
riser x y zero ws = ws
riser x y (suc n) ws = point (pos x) (suc y) ∷ riser x (suc y) n ws

-- what follows a point on track y at the k-th column of a path with n columns to go, given its columns x and the tracks h of its runs: up to the track of
-- the next run and along it; at the last column up to track t
unfoldable pub rest : (x h : ℕ → ℕ) → (t n k y : ℕ) → List Point
rest x h t zero k y = riser (x k) y (t - y) []
rest x h t (suc n) k y = riser (x k) y (h k - y) (point (pos (x (suc k))) (h k) ∷ rest x h t n (suc k) (h k))

unfoldable pub staircase : (x h : ℕ → ℕ) → (t n : ℕ) → List Point
staircase x h t n = point (pos (x 0)) 0 ∷ rest x h t n 0 0

-- pair j's path from column p to column q, right or left
unfoldable pub path_between : (right : Bool) → List Pair → (t lower j p q : ℕ) → List Point
path_between true c t a j p q = staircase (λ k. p + k) (λ k. right_track c a j (p + k)) t (q - p)
path_between false c t a j p q = staircase (λ k. p - k) (λ k. left_track c a j (p - k)) t (p - q)

-- pair j's path by P1's rule
unfoldable pub path : List Pair → (t lower upper j : ℕ) → List Point
path c t a b j =
    let p = a + p_at c j in
    let q = b + q_at c j in
    path_between (leb p q) c t a j p q

-- P4: one track higher
unfoldable pub raised : List Point → List Point
raised [] = []
raised (z ∷ zs) = point z.column (suc z.track) ∷ raised zs

-- one track higher, with an upright step below
unfoldable pub with_step_below : List Point → List Point
with_step_below [] = []
with_step_below (z ∷ zs) = z ∷ raised (z ∷ zs)

-- pair j's path as it is DRAWN: for t ≥ 1 the path of separation t - 1, so raised
unfoldable pub drawn_path : List Pair → (t lower upper j : ℕ) → List Point
drawn_path c zero a b j = path c 0 a b j
drawn_path c (suc t) a b j = with_step_below (path c t a b j)

-- the list of a function's values at 0 to n - 1
unfoldable pub listed : (ℕ → List Point) → (n : ℕ) → List (List Point)
listed f zero = []
listed f (suc n) = f 0 ∷ listed (λ i. f (suc i)) n

-- the WIRING: one path for each pair
unfoldable pub wiring : List Pair → (t lower upper : ℕ) → List (List Point)
wiring c t a b = listed (λ j. drawn_path c t a b j) (length c)

-- a path LEADS from one point directly to another
unfoldable pub begins : Point → List Point → Bool
begins v [] = false
begins v (b ∷ ws) = same_point v b

unfoldable pub leads : (from to : Point) → List Point → Bool
leads u v [] = false
leads u v (a ∷ ws) = (same_point u a && begins v ws) || leads u v ws

-- it RUNS from column u to column v on track y
abbrev pub runs : (u v y : ℕ) → List Point → Bool
runs u v y ws = leads (point (pos u) y) (point (pos v) y) ws
