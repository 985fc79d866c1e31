-- One spread worked out in what is held from spread to spread. Assumes nothing: these are definitions.
use Rattle.std.specs.Prelude.{List, ℕ, suc, ◌≤◌, ◌<◌}
use Rattle.stack.specs.Stack.{first_spread}
use Rattle.stack.specs.Value.{stack_of}
use Rattle.stack.specs.declared.Stack.{Stack as StackStruct}
use Rattle.arrays.specs.Arrays.{entry, Sized}
use Rattle.arrays.specs.declared.Given.{Given}
use Rattle.arrays.specs.declared.StripSpans.{StripSpans}
use Rattle.scan.specs.Scan.{ScanIs}
use Rattle.scan.specs.declared.Scan.{Scan}
use Rattle.answer.specs.Arrays.{Held, WindowsIn}
use Rattle.growth.specs.Growth.{NoneLess}
use Rattle.rows.specs.Growths.{GrowthsIn}

-- what one spread's scan asks
pub record EvaluateAsks (k : StackStruct) (s cap : ℕ) (g : Given) (t : List StripSpans) : Type 0 where
  pub held : Held k g
  pub wide : first_spread (stack_of k).strips ≤ s
  pub capped : cap ≤ entry g.plan.above 0
  pub sized : Sized t

-- what is given has the windows of the spread; what its scan found, and the growing ends of its windows: no empty span for a total below the one found lacks less than the jump
pub record Evaluated (k : StackStruct) (s cap : ℕ) (g : Given) (t : List StripSpans) (r : Scan) : Type 0 where
  pub held : Held k g
  pub spread_windows : WindowsIn (stack_of k) (suc k.count) s g.windows
  pub short : ℕ
  pub scanned : ScanIs g cap t (record { total = r.total; jump = short })
  pub growths : List ℕ
  pub spread_growths : GrowthsIn (stack_of k) (suc k.count) s growths
  pub jump_some : 0 < r.jump
  pub none_less : NoneLess g growths r.total 0 r.jump

-- what a row's placement asks: a scan that found a total up to its cap
pub record PlaceRowAsks (k : StackStruct) (s : ℕ) (g : Given) (t : List StripSpans) (r : Scan) : Type 0 where
  pub wide : first_spread (stack_of k).strips ≤ s
  pub cap : ℕ
  pub capped : cap ≤ entry g.plan.above 0
  pub found : r.total ≤ cap
  pub evaluated : Evaluated k s cap g t r
