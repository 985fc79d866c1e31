-- While lines are replayed. Assumes nothing: these are definitions.
use Rattle.std.specs.Prelude.{◌≡◌, List, ℕ, suc, ◌≤◌, length, drop}
use Rattle.lines.specs.Lines.{lines}
use Rattle.replay.specs.Replay.{replay, start}
use Rattle.replay.specs.Value.{state_of}
use Rattle.replay.specs.declared.Replay.{Replay}

-- the lines before a place are replayed, and line n begins there
pub record Replaying (bs : List ℕ) (at n : ℕ) (r : Replay) : Type 0 where
  pub short : length bs ≤ 8192
  pub few : n ≤ suc at
  pub rest : replay 1 start (lines bs) ≡ replay n (state_of r) (lines (drop at bs))
