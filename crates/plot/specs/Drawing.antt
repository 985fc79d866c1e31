-- What the page's writer asks and leaves behind. Assumes nothing: these are definitions.
use Rattle.std.specs.Prelude.{◌≡◌, ◌&&◌, cond, List, [], ◌++◌, ℕ, zero, suc, ◌+◌, ◌*◌, ◌-◌, ◌/◌, ◌%◌, ◌≤◌, ◌<◌, min, max, ltb, length, get_or, take}
use Rattle.stack.specs.Stack.{Pair}
use Rattle.stack.specs.Value.{columns}
use Rattle.stack.specs.declared.Terminals.{Terminals}
use Rattle.routing.specs.Wiring.{wiring}
use Rattle.writing.specs.Output.{Written}
use Rattle.page.specs.Page.{line_of, page_text}
use Rattle.page.specs.Arrivals.{painted}
use Rattle.plot.specs.declared.Levels.{Levels}

-- a number's digit in a place of units, or a space where the number has none there
unfoldable pub place : (unit n : ℕ) → ℕ
place u n = cond (ltb n u && ltb 1 u) 32 (48 + n / u % 10)

-- the lines of the n lowest tracks, the highest first, by a rule for the character at a track and a column
unfoldable pub lines_below : (f : ℕ → ℕ → ℕ) → (n : ℕ) → List ℕ
lines_below f zero = []
lines_below f (suc y) = line_of y (f y) ++ lines_below f y

-- while the lines of tracks t to 0 are put: y are left, and the others stand before a place
pub record LinesPut (f : ℕ → ℕ → ℕ) (t at y : ℕ) (before now : List ℕ) : Type 0 where
  pub place : at + 69 * y ≡ 69 * suc t
  pub same_length : length now ≡ length before
  pub stands : take at now ++ lines_below f y ≡ lines_below f (suc t)

-- WHAT ARRIVALS ARE WORKED OUT FROM: by pair, the column of its lower terminal less its number, with 64 behind the last pair and 0 before the first, and the
-- column of its upper terminal. Where path j comes to when it has passed n terminals is its last column, or what a terminal ahead or back says
unfoldable pub passing : Levels → (n j : ℕ) → ℕ
passing v n j =
    min (get_or v.upto j 0) (get_or v.ahead (j + n) 0 + j) + max (get_or v.upto j 0) (get_or v.back (32 + j - min n 32) 0 + j) - get_or v.upto j 0

-- and what it comes to on track y
unfoldable pub reached : Levels → (y j : ℕ) → ℕ
reached v y j = passing v (y - 1) j

unfoldable pub track_drawn : Levels → (t y c : ℕ) → ℕ
track_drawn v t y c = painted (λ j. reached v y j) (λ j. reached v (suc y) j) (ltb y t) (ltb 0 y) v.count c 46

-- they fit a byte
pub record LevelsLow (v : Levels) : Type 0 where
  pub ahead_low : (i : ℕ) → get_or v.ahead i 0 ≤ 64
  pub back_low : (i : ℕ) → get_or v.back i 0 ≤ 64
  pub upto_low : (j : ℕ) → get_or v.upto j 0 < 64

-- the arrivals of the paths are on the page
unfoldable pub ArrivalsShown : Levels → Type 0
ArrivalsShown v = (j y : ℕ) → j < v.count → y ≤ 65 → reached v y j < 64

-- terminals that are on the page and rise along the lower edge
pub record EndsAsk (k : Terminals) (lower upper : ℕ) : Type 0 where
  pub few : k.count ≤ 32
  pub lower_shown : (j : ℕ) → j < k.count → lower + (get_or k.lower j (columns 0)).0 < 64
  pub upper_shown : (j : ℕ) → j < k.count → upper + (get_or k.upper j (columns 0)).0 < 64
  pub past : (j : ℕ) → j < k.count → j ≤ lower + (get_or k.lower j (columns 0)).0

-- the first n pairs are filled in
pub record LevelsFilled (k : Terminals) (lower upper n : ℕ) (v : Levels) : Type 0 where
  pub counted : v.count ≡ k.count
  pub sized_ahead : length v.ahead ≡ 96
  pub sized_back : length v.back ≡ 64
  pub sized_upto : length v.upto ≡ 32
  pub ahead_are : (j : ℕ) → j < n → get_or v.ahead j 0 ≡ lower + (get_or k.lower j (columns 0)).0 - j
  pub ahead_none : (j : ℕ) → n ≤ j → j < 96 → get_or v.ahead j 0 ≡ 64
  pub back_are : (j : ℕ) → j < n → get_or v.back (32 + j) 0 ≡ lower + (get_or k.lower j (columns 0)).0 - j
  pub back_none : (j : ℕ) → j < 32 → get_or v.back j 0 ≡ 0
  pub upto_are : (j : ℕ) → j < n → get_or v.upto j 0 ≡ upper + (get_or k.upper j (columns 0)).0
  pub low : LevelsLow v

-- the page's whole text stands if there is space for it
pub record PagePut (c : List Pair) (t lower upper : ℕ) (before after : List ℕ) (r : ℕ) : Type 0 where
  pub counted : r ≡ length (page_text t (wiring c t lower upper))
  pub written : Written (page_text t (wiring c t lower upper)) before after
