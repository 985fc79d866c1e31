-- Growing ends and lacks from a table of spans: one row of growing ends, strip after strip from the top down, and the least of what the empty spans lack.
-- Assumes nothing: these are definitions.
use Rattle.std.specs.Prelude.{◌≡◌, List, ℕ, suc, ◌+◌, ◌*◌, ◌≤◌, ◌<◌, length}
use Rattle.stack.specs.Sizes.{channels_held, totals_held}
use Rattle.spans.specs.Solver.{most, cell, back}
use Rattle.spans.specs.Growth.{cell_grow, cell_lack, back_grow, lack_at}
use Rattle.arrays.specs.Arrays.{bias, entry, low_in, high_in, span_at, window_of, level_of, levels, taken, span_in, StackAsks, Filled}
use Rattle.arrays.specs.declared.ChannelLimits.{ChannelLimits}
use Rattle.arrays.specs.declared.StripSpans.{StripSpans}
use Rattle.arrays.specs.declared.Given.{Given}
use Rattle.scan.specs.Scan.{cell_at, StripAsks}
use Rattle.scan.specs.declared.Cell.{Cell}

-- the growing ends of the spans that separations from start on leave of the total v have room for the bias
pub record GrowthsFit (spans : StripSpans) (h : List ℕ) (v start : ℕ) : Type 0 where
  pub fit : (u : ℕ) → u + start ≤ v → (span_at spans u).from < (span_at spans u).upto → entry h u ≤ 2 * bias

-- what one cell asks: its span in the table, and the growing ends of the strip above
pub record CellAsks (limits : ChannelLimits) (c : Cell) (t : List StripSpans) (h : List ℕ) : Type 0 where
  pub spans : StripAsks limits c t
  pub here : span_in t c.i c.v ≡ cell bias (low_in limits) (high_in limits) c.least c.last c.above (span_in t (c.i + 1)) c.window c.v
  pub fits : (u : ℕ) → u ≤ c.v → u ≤ c.above → (span_in t (c.i + 1) u).from < (span_in t (c.i + 1) u).upto → entry h u ≤ 2 * bias

-- the growing end of the strip's cell at total v, and what that cell lacks
abbrev pub grow_in : (limits : ChannelLimits) → Cell → (own : ℕ) → List StripSpans → (h : List ℕ) → (v : ℕ) → ℕ
grow_in limits c own t h v = cell_grow bias (low_in limits) c.least c.last c.above (span_in t (c.i + 1)) (entry h) c.window own v

abbrev pub lack_in : (limits : ChannelLimits) → Cell → (own : ℕ) → List StripSpans → (h : List ℕ) → (v : ℕ) → ℕ
lack_in limits c own t h v = cell_lack bias bias (low_in limits) (high_in limits) c.least c.last c.above (span_in t (c.i + 1)) (entry h) c.window own v

-- what one strip asks for the totals from the cell's to below end
pub record GrowAsks (limits : ChannelLimits) (c : Cell) (end own : ℕ) (t : List StripSpans) (h : List ℕ) (jump : ℕ) : Type 0 where
  pub strip : c.i < channels_held
  pub held : end ≤ totals_held
  pub size : length h ≡ totals_held
  pub cells : (v : ℕ) → c.v ≤ v → v < end → CellAsks limits (cell_at c v) t h
  pub lacking : (v : ℕ) → c.v ≤ v → v < end → (span_in t c.i v).upto ≤ (span_in t c.i v).from → 0 < lack_in limits c own t h v
  pub some : 0 < jump

-- the strip's growing ends for the totals from v to below end are h', where h are those of the strip above; none of its empty spans there lacks less than the
-- jump; those below empty are empty
pub record StripGrown (limits : ChannelLimits) (c : Cell) (v end own : ℕ) (t : List StripSpans) (h h' : List ℕ) (before empty jump : ℕ) : Type 0 where
  pub size : length h' ≡ totals_held
  pub grown : (u : ℕ) → v ≤ u → u < end → (span_in t c.i u).from < (span_in t c.i u).upto → entry h' u ≡ grow_in limits c own t h u
  pub lacks : (u : ℕ) → v ≤ u → u < end → (span_in t c.i u).upto ≤ (span_in t c.i u).from → jump ≤ lack_in limits c own t h u
  pub empties : (u : ℕ) → v ≤ u → u < empty → (span_in t c.i u).upto ≤ (span_in t c.i u).from
  pub few : empty ≤ end
  pub some : 0 < jump
  pub less : jump ≤ before

-- the growing end of strip j's span at the total u, with n channels above it
abbrev pub growth_of : Given → (growths : List ℕ) → (j n u : ℕ) → ℕ
growth_of g hs j n u = back_grow bias (window_of g j) (entry hs j) (levels g j n) (taken hs (suc j) n) u

-- what strip j's span at the total u lacks, with n + 1 channels above it
abbrev pub lack_of : Given → (growths : List ℕ) → (j n u : ℕ) → ℕ
lack_of g hs j n u = lack_at bias bias (window_of g j) (entry hs j) (level_of g j) (entry hs (suc j)) (levels g (suc j) n) (taken hs (suc (suc j)) n) u

-- of the strips from i on, no empty span for a total below the stated one lacks less than the jump
abbrev pub NoneLess : Given → (growths : List ℕ) → (total i jump : ℕ) → Type 0
NoneLess g hs total i jump =
    (j n u : ℕ)
    → i ≤ j
    → j + suc n ≡ g.channels
    → u < total
    → u ≤ most (levels g j (suc n))
    → (back bias (window_of g j) (levels g j (suc n)) u).upto ≤ (back bias (window_of g j) (levels g j (suc n)) u).from
    → jump ≤ lack_of g hs j n u

-- strips from i on are done: h are the growing ends of strip i, whose spans below empty are empty
pub record Growing (g : Given) (growths : List ℕ) (total i : ℕ) (t : List StripSpans) (h : List ℕ) (empty jump : ℕ) : Type 0 where
  pub size : length h ≡ totals_held
  pub inside : i ≤ g.channels
  pub few : empty ≤ total
  pub empties : (n u : ℕ) → i + n ≡ g.channels → u < empty → u ≤ most (levels g i n) → (span_in t i u).upto ≤ (span_in t i u).from
  pub grown : (n u : ℕ) → i + n ≡ g.channels → u < total → u ≤ most (levels g i n) → (span_in t i u).from < (span_in t i u).upto → entry h u ≡ growth_of g growths i n u
  pub some : 0 < jump
  pub small : jump ≤ bias
  pub none_less : NoneLess g growths total i jump

-- what the jump asks: the table filled for the totals below the stated one, and windows' growing ends that are not beyond their ends
pub record GrowthAsks (g : Given) (growths : List ℕ) (total : ℕ) (t : List StripSpans) : Type 0 where
  pub stack : StackAsks g
  pub held : total ≤ totals_held
  pub cap : ℕ
  pub table : Filled g cap 0 t
  pub within : total ≤ suc cap
  pub below : (i : ℕ) → i ≤ g.channels → entry growths i ≤ (window_of g i).upto + bias

-- THE JUMP: no empty span for a total below the stated one lacks less
pub record GrowthIs (g : Given) (growths : List ℕ) (total jump : ℕ) : Type 0 where
  pub some : 0 < jump
  pub small : jump ≤ bias
  pub none_less : NoneLess g growths total 0 jump
