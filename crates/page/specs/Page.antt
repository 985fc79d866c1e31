-- TRUSTED. The page that shows a channel's paths. Document 02, P1. It is a definition on any list of paths; routing/specs/Wiring.antt says which are drawn.
-- Assumes nothing: these are definitions.
use Rattle.std.specs.Prelude.{Bool, true, false, ◌&&◌, ◌||◌, not, cond, List, [], ◌∷◌, ◌++◌, ℕ, zero, suc, ◌+◌, ◌-◌, ltb, eqb, length, get_or, replicate, ℤ, pos, negsuc}
use Rattle.numbers.specs.Lists.{tabulate}
use Rattle.stack.specs.Stack.{Stack, channel_in}
use Rattle.routing.specs.Paths.{Point, point, on_path}
use Rattle.routing.specs.Wiring.{leads, wiring}
use Rattle.writing.specs.TableText.{digits}

-- a point is on one of the paths
unfoldable pub on_some : Point → List (List Point) → Bool
on_some z [] = false
on_some z (w ∷ ws) = on_path z w || on_some z ws

-- a path steps between two points, from one or from the other
unfoldable pub steps_between : (u v : Point) → List Point → Bool
steps_between u v w = leads u v w || leads v u w

unfoldable pub joined : (u v : Point) → List (List Point) → Bool
joined u v [] = false
joined u v (w ∷ ws) = steps_between u v w || joined u v ws

-- the ARMS of a point: steps of any of the paths to its four neighbours
unfoldable pub before : (column : ℕ) → ℤ
before zero = negsuc zero
before (suc c) = pos c

unfoldable pub arm_left : (column track : ℕ) → List (List Point) → Bool
arm_left c y ws = joined (point (pos c) y) (point (before c) y) ws

unfoldable pub arm_right : (column track : ℕ) → List (List Point) → Bool
arm_right c y ws = joined (point (pos c) y) (point (pos (suc c)) y) ws

unfoldable pub arm_up : (column track : ℕ) → List (List Point) → Bool
arm_up c y ws = joined (point (pos c) y) (point (pos c) (suc y)) ws

unfoldable pub arm_down : (column track : ℕ) → List (List Point) → Bool
arm_down c zero ws = false
arm_down c (suc y) ws = joined (point (pos c) (suc y)) (point (pos c) y) ws

unfoldable pub how_many : (left right up down : Bool) → ℕ
how_many l r u d = cond l 1 0 + cond r 1 0 + cond u 1 0 + cond d 1 0

-- THE RULE for a point on a path: three or four arms #, one o, and o for a path of one point; of two left and right -, up and down |, any other two +
unfoldable pub arms_character : (left right up down : Bool) → ℕ
arms_character l r u d = cond (ltb 2 (how_many l r u d)) 35 (cond (ltb (how_many l r u d) 2) 111 (cond (l && r) 45 (cond (u && d) 124 43)))

-- the CHARACTER of a point: an empty point is a dot
unfoldable pub character : (column track : ℕ) → List (List Point) → ℕ
character c y ws =
    cond (on_some (point (pos c) y) ws) (arms_character (arm_left c y ws) (arm_right c y ws) (arm_up c y ws) (arm_down c y ws)) 46

-- a number in three places, flush right with spaces
unfoldable pub in_three : ℕ → List ℕ
in_three v = replicate (3 - length (digits v)) 32 ++ digits v

-- a LINE: a track's number, a space, the characters of columns 0 to 63, a line feed
unfoldable pub line_of : (track : ℕ) → (characters : ℕ → ℕ) → List ℕ
line_of y f = in_three y ++ (32 ∷ []) ++ tabulate 64 0 f ++ (10 ∷ [])

unfoldable pub track_line : (track : ℕ) → List (List Point) → List ℕ
track_line y ws = line_of y (λ c. character c y ws)

-- THE PAGE of a channel with separation t: track t first, track 0 last
unfoldable pub page_text : (t : ℕ) → List (List Point) → List ℕ
page_text zero ws = track_line 0 ws
page_text (suc t) ws = track_line (suc t) ws ++ page_text t ws

-- the paths of channel i + 1 of a placed stack, and their page
unfoldable pub channel_paths : Stack → (separations positions : List ℕ) → (i : ℕ) → List (List Point)
channel_paths k ts xs i = wiring (channel_in k i).pairs (get_or ts i 0) (get_or xs i 0) (get_or xs (suc i) 0)

unfoldable pub channel_page : Stack → (separations positions : List ℕ) → (i : ℕ) → List ℕ
channel_page k ts xs i = page_text (get_or ts i 0) (channel_paths k ts xs i)

-- a byte does not appear
unfoldable pub lacks : (byte : ℕ) → List ℕ → Bool
lacks v [] = true
lacks v (x ∷ xs) = not (eqb x v) && lacks v xs
