-- TRUSTED. What is promised of the paths that a page shows: they are paths by the rule of routing/specs/Paths.antt, none leaves the spread, they are those that
-- document 02's P1 and P4 tell and no others, and a point on the page is a dot exactly if no path is there. Assumes nothing: these are definitions.
use Rattle.std.specs.Prelude.{◌≡◌, Bool, true, false, ◌&&◌, not, List, [], ◌∷◌, ◌⊎◌, ℕ, suc, ◌+◌, ◌*◌, ◌-◌, ◌≤◌, ◌<◌, leb, eqb, length, get_or, pos, negsuc}
use Rattle.stack.specs.Stack.{Pair, p_at, q_at, edge_clear}
use Rattle.stack.specs.Limits.{rising}
use Rattle.routing.specs.Paths.{Point, point, on_path, is_path, all_paths, none_meet}
use Rattle.routing.specs.Wiring.{leads, drawn_path, right_track, left_track}
use Rattle.page.specs.Page.{on_some}

-- INSIDE the spread: columns 0 to s
unfoldable pub inside : (s : ℕ) → Point → Bool
inside s z = elim z.column [ pos c ↦ leb c s | negsuc c ↦ false ]

unfoldable pub path_inside : (s : ℕ) → List Point → Bool
path_inside s [] = true
path_inside s (z ∷ zs) = inside s z && path_inside s zs

unfoldable pub all_inside : (s : ℕ) → List (List Point) → Bool
all_inside s [] = true
all_inside s (w ∷ ws) = path_inside s w && all_inside s ws

-- A SET OF PATHS by that rule, one for each pair, none of which leaves the spread
pub record LedInside (s : ℕ) (c : List Pair) (t lower upper : ℕ) (ws : List (List Point)) : Type 0 where
  pub led : all_paths t lower upper c ws ≡ true
  pub clear : none_meet ws ≡ true
  pub inside : all_inside s ws ≡ true

-- P1's RULE for the path of pair j, in its words: it goes right, or left, and between two columns only on the track counted there; by P4 one track higher
pub data RunsTold (c : List Pair) (lower upper j : ℕ) (u v : Point) : Type 0 where
  to_right : (x : ℕ) → lower + p_at c j ≤ x → x < upper + q_at c j → u ≡ point (pos x) (suc (right_track c lower j x))
      → v ≡ point (pos (suc x)) (suc (right_track c lower j x)) → RunsTold c lower upper j u v
  to_left : (x : ℕ) → upper + q_at c j ≤ x → x < lower + p_at c j → u ≡ point (pos (suc x)) (suc (left_track c lower j (suc x)))
      → v ≡ point (pos x) (suc (left_track c lower j (suc x))) → RunsTold c lower upper j u v

unfoldable pub Upright : (u v : Point) → Type 0
Upright u v = u.column ≡ v.column

-- no point twice
unfoldable pub once : List Point → Bool
once [] = true
once (z ∷ zs) = not (on_path z zs) && once zs

-- a path AS TOLD: one by the rule that is nowhere twice, and whose steps are upright or run as told
pub record PathTold (c : List Pair) (t lower upper j : ℕ) (w : List Point) : Type 0 where
  pub path : is_path t (point (pos (lower + p_at c j)) 0) (point (pos (upper + q_at c j)) t) w ≡ true
  pub once : once w ≡ true
  pub runs : (u v : Point) → leads u v w ≡ true → Upright u v ⊎ RunsTold c lower upper j u v

-- the paths drawn are as told where the lower edge can be clear, and no other path is
unfoldable pub Told : Type 0
Told =
    (c : List Pair) (t a b j : ℕ) → rising c ≡ true → edge_clear c t a b ≡ true → j < length c →
    PathTold c t a b j (drawn_path c t a b j) × ((w : List Point) → PathTold c t a b j w → w ≡ drawn_path c t a b j)

-- WHAT A PAGE SHOWS, a text of 69 bytes a track, of a channel's paths: they are a set of paths inside the spread, each is as told, and of the points on the page
-- those on a path show a character other than the dot, and all others the dot
pub record PathsShown (s : ℕ) (c : List Pair) (t lower upper : ℕ) (ws : List (List Point)) (page : List ℕ) : Type 0 where
  pub led : LedInside s c t lower upper ws
  pub told : (j : ℕ) → j < length c → PathTold c t lower upper j (get_or ws j [])
  pub dots : (y x : ℕ) → y ≤ t → x < 64 → eqb (get_or page (69 * (t - y) + (4 + x)) 0) 46 ≡ not (on_some (point (pos x) y) ws)
