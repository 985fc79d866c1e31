-- A page by the columns at which each path comes to a track: what the code computes. Assumes nothing: these are definitions; proofs/Painted.antt shows that
-- they give the page of the wiring, so nobody has to believe them.
use Rattle.std.specs.Prelude.{◌≡◌, Bool, true, ◌&&◌, cond, List, ℕ, zero, suc, ◌+◌, ◌-◌, ◌≤◌, ◌<◌, min, max, ltb, leb, eqb, length, get_or}
use Rattle.stack.specs.Stack.{Pair, p_at, q_at, edge_clear}
use Rattle.stack.specs.Limits.{rising}
use Rattle.page.specs.Page.{arms_character}

-- a channel that the page can show: its terminals rise, its pairs can be drawn, and no terminal is beyond column s
pub record ChannelPlaced (s : ℕ) (c : List Pair) (t lower upper : ℕ) : Type 0 where
  pub rises : rising c ≡ true
  pub good : edge_clear c t lower upper ≡ true
  pub few : length c ≤ 32
  pub from_within : (j : ℕ) → j < length c → lower + p_at c j ≤ s
  pub upto_within : (j : ℕ) → j < length c → upper + q_at c j ≤ s

-- the columns of m paths' ends
pub record EndsAre (c : List Pair) (lower upper m : ℕ) (from upto : List ℕ) : Type 0 where
  pub count : m ≡ length c
  pub from_are : (j : ℕ) → j < m → get_or from j 0 ≡ lower + p_at c j
  pub upto_are : (j : ℕ) → j < m → get_or upto j 0 ≡ upper + q_at c j

-- the column at which path j comes to the track counted as n, if its runs are on the tracks counted; where it never does, its last column
unfoldable pub right_arrival : (from : List ℕ) → (m q j n : ℕ) → ℕ
right_arrival from m q j n = cond (ltb (j + n) m) (min q (get_or from (j + n) 0 - n)) q

unfoldable pub left_arrival : (from : List ℕ) → (q j n : ℕ) → ℕ
left_arrival from q j n = cond (leb n j) (max q (get_or from (j - n) 0 + n)) q

-- the ARRIVAL of path j on track y: the runs drawn are one track above those counted, and an upright step is below
unfoldable pub arrival : (from upto : List ℕ) → (m j y : ℕ) → ℕ
arrival from upto m j y =
    cond (leb (get_or from j 0) (get_or upto j 0)) (right_arrival from m (get_or upto j 0) j (y - 1)) (left_arrival from (get_or upto j 0) j (y - 1))

-- what column c shows once a path is drawn that is on the track from column s to column e, comes to it from below or begins there, and leaves it upward or ends
unfoldable pub drawn : (s e : ℕ) → (up down : Bool) → (c old : ℕ) → ℕ
drawn s e u d c old =
    cond (leb (min s e) c && leb c (max s e)) (arms_character (ltb (min s e) c) (ltb c (max s e)) (eqb c e && u) (eqb c s && d)) old

-- what column c shows once the first n paths are drawn, each of which is on the track from its column in s to its column in e
unfoldable pub painted : (s e : ℕ → ℕ) → (up down : Bool) → (n : ℕ) → (c old : ℕ) → ℕ
painted s e u d zero c old = old
painted s e u d (suc n) c old = drawn (s n) (e n) u d c (painted s e u d n c old)

-- track y of a channel with separation t, all paths drawn over dots
unfoldable pub track_painted : (from upto : List ℕ) → (m t y c : ℕ) → ℕ
track_painted from upto m t y c = painted (λ j. arrival from upto m j y) (λ j. arrival from upto m j (suc y)) (ltb y t) (ltb 0 y) m c 46
