-- What is written over an output's bytes, whole or not at all. Assumes nothing: these are definitions.
use Rattle.std.specs.Prelude.{◌≡◌, Bool, true, false, List, ◌++◌, ℕ, suc, ◌+◌, ◌*◌, ◌-◌, ◌≤◌, ◌<◌, leb, length, get_or, take, drop, replicate}
use Rattle.stack.specs.Sizes.{totals_held}
use Rattle.stack.specs.Value.{tracks_of, columns_of}
use Rattle.stack.specs.Stack.{Row, row, sum, total}
use Rattle.stack.specs.declared.Tracks.{Tracks}
use Rattle.stack.specs.declared.Columns.{Columns}

-- a text over the first bytes of an output
unfoldable pub over : (text out : List ℕ) → List ℕ
over t o = t ++ drop (length t) o

-- a text over the bytes from a place on
unfoldable pub over_at : (at : ℕ) → (text out : List ℕ) → List ℕ
over_at at t o = take at o ++ over t (drop at o)

-- what is written where there is space for it, else what was there
unfoldable pub fitted : (fits : Bool) → (new old : List ℕ) → List ℕ
fitted true n o = n
fitted false n o = o

unfoldable pub written : (text out : List ℕ) → List ℕ
written t o = fitted (leb (length t) (length o)) (over t o) o

unfoldable pub written_at : (at : ℕ) → (text out : List ℕ) → List ℕ
written_at at t o = fitted (leb (at + length t) (length o)) (over_at at t o) o

-- zeros from a place on
unfoldable pub cleared : (from : ℕ) → (out : List ℕ) → List ℕ
cleared n o = take n o ++ replicate (length o - n) 0

-- after lines were written one behind the other, each if there was space for it: the whole text stands if there is space for it
pub record Written (text before after : List ℕ) : Type 0 where
  pub stands : length text ≤ length after → take (length text) after ≡ text
  pub same_length : length after ≡ length before

-- the longest line's bytes: the word ROW, a line feed, and 19 numbers of ten digits, each behind a tab
abbrev pub line_bytes : ℕ
line_bytes = 213

-- the bytes of the longest row within the limits: the word ROW, a line feed, a spread and nine positions of up to five digits, a total of up to
-- three and eight separations of up to two, each behind a tab
unfoldable pub row_bytes : ℕ
row_bytes = 92

-- the most rows of a table: a row for each total from the sum of the floors up to eight times 33 more, since past its floor and 33 tracks no channel gains
unfoldable pub rows_most : ℕ
rows_most = suc (8 * 33)

-- enough for a table within the limits: the first line's 8 bytes, and these rows
unfoldable pub table_bytes : ℕ
table_bytes = 8 + row_bytes * rows_most

-- what a line's writer leaves and answers
pub record LinePut (text before after : List ℕ) (r : ℕ) : Type 0 where
  pub stands : after ≡ written text before
  pub counted : r ≡ length text
  pub few : r ≤ line_bytes

pub record LinePutAt (at : ℕ) (text before after : List ℕ) (r : ℕ) : Type 0 where
  pub stands : after ≡ written_at at text before
  pub counted : r ≡ at + length text
  pub few : r ≤ at + line_bytes

-- the row of a stack of k channels
unfoldable pub row_of : (k spread : ℕ) → List Tracks → List Columns → Row
row_of k s ts xs = row s (take k (tracks_of ts)) (take (suc k) (columns_of xs))

-- what a row's writer asks
pub record RowAsks (k total : ℕ) (ts : List Tracks) : Type 0 where
  pub channels : k ≤ 8
  pub added : total ≡ sum (take k (tracks_of ts))

-- a row of at most eight channels within the limits
pub record RowLimited (r : Row) : Type 0 where
  pub channels : length r.separations ≤ 8
  pub strips : length r.positions ≤ 9
  pub spread_below : r.spread ≤ 99999
  pub total_below : total r < totals_held
  pub separations_below : (i : ℕ) → i < length r.separations → get_or r.separations i 0 ≤ 64
  pub positions_below : (i : ℕ) → i < length r.positions → get_or r.positions i 0 ≤ 99999
