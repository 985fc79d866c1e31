-- The walk over the spreads as the code makes it: from one event to the next, with the table's text so far. Assumes nothing: these are definitions.
use Rattle.std.specs.Prelude.{◌≡◌, List, ◌++◌, ℕ, suc, ◌+◌, ◌-◌, ◌≤◌, ◌<◌, length}
use Rattle.stack.specs.Stack.{Stack, first_spread}
use Rattle.stack.specs.Value.{stack_of}
use Rattle.stack.specs.declared.Stack.{Stack as StackStruct}
use Rattle.arrays.specs.Arrays.{entry, Sized}
use Rattle.arrays.specs.declared.Given.{Given}
use Rattle.arrays.specs.declared.StripSpans.{StripSpans}
use Rattle.answer.specs.Solve.{answer_total}
use Rattle.rows.specs.Walk.{rows_walk, widest, rows_of}
use Rattle.answer.specs.Arrays.{Held}
use Rattle.writing.specs.Output.{Written, table_bytes}
use Rattle.writing.specs.TableText.{table_text, rows_text}
use Rattle.table.specs.declared.Walk.{Walk}

-- from one event to the next: the least total there is not above the one before, and the whole table is the text so far and the rows from there on
pub record Walking (k : Stack) (out : List ℕ) (w : Walk) : Type 0 where
  pub from : first_spread k.strips ≤ w.spread
  pub upto : w.spread ≤ widest k
  pub least : answer_total k (w.spread + w.jump) ≤ w.total
  pub text : List ℕ
  pub whole : table_text (length k.channels) (rows_of k) ≡ text ++ rows_text (rows_walk k (suc (widest k) - (w.spread + w.jump)) (w.spread + w.jump) w.total)
  pub at_is : w.at ≡ length text
  pub written : Written text out out

-- what is held from spread to spread
pub record Holding (k : StackStruct) (g : Given) (t : List StripSpans) : Type 0 where
  pub held : Held k g
  pub sized : Sized t

-- the walk with what is held; no total is more than all last separations, and before the first row it is one more than these
pub record Stepping (k : StackStruct) (g : Given) (t : List StripSpans) (out : List ℕ) (w : Walk) : Type 0 where
  pub holding : Holding k g t
  pub walking : Walking (stack_of k) out w
  pub capped : w.total ≤ suc (entry g.plan.above 0)

-- the next event lies within the greatest spread of use
pub record StepAsks (k : StackStruct) (w : Walk) (g : Given) (t : List StripSpans) (out : List ℕ) : Type 0 where
  pub here : Stepping k g t out w
  pub some : 0 < w.total
  pub inside : w.spread + w.jump ≤ widest (stack_of k)

-- THE TABLE: its whole length, for which a stated number of bytes is enough, and its text if there is space for it
pub record TablePut (k : Stack) (out : List ℕ) (r : ℕ) : Type 0 where
  pub counted : r ≡ length (table_text (length k.channels) (rows_of k))
  pub written : Written (table_text (length k.channels) (rows_of k)) out out
  pub few : r ≤ table_bytes
