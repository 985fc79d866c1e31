-- What the writer of a track's row asks and leaves behind. Assumes nothing: these are definitions.
use Rattle.std.specs.Prelude.{◌≡◌, ◌&&◌, cond, List, ℕ, zero, suc, ◌<◌, ltb, leb, eqb, length, get_or}

-- the columns of paths are on the page
abbrev pub ColumnsShown : List ℕ → Type 0
ColumnsShown xs = (j : ℕ) → j < length xs → get_or xs j 0 < 64

-- what a row's writer asks
pub record RowAsks (row starts ends : List ℕ) : Type 0 where
  pub columns : length row ≡ 64
  pub same_count : length ends ≡ length starts
  pub starts_shown : ColumnsShown starts
  pub ends_shown : ColumnsShown ends

-- what a run's writer asks
pub record RunAsks (row : List ℕ) (s e : ℕ) : Type 0 where
  pub columns : length row ≡ 64
  pub from : s < 64
  pub upto : e < 64
  pub runs : s ≡ e → ⊥

-- what column c shows once one character stands in the columns from one up to another
unfoldable pub filled_to : (from upto character c old : ℕ) → ℕ
filled_to from upto v c old = cond (leb from c && ltb c upto) v old

-- what column c shows once a character stands at the columns of the first n paths
unfoldable pub marked : (e : ℕ → ℕ) → (character n c old : ℕ) → ℕ
marked e v zero c old = old
marked e v (suc n) c old = cond (eqb c (e n)) v (marked e v n c old)
