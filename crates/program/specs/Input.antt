-- Where a line of the input is among the bytes that are there. Assumes nothing: these are definitions.
use Rattle.std.specs.Prelude.{◌≡◌, true, ℕ, ◌≤◌, ◌<◌}
use Rattle.session.specs.Session.{Made}
use Rattle.session.specs.Value.{held_of}
use Rattle.replay.specs.declared.Replay.{Replay}
use Rattle.program.specs.declared.NextLine.{NextLine}

-- the next line, among so many bytes; an ended one has a line feed behind it
pub record IsNextLine (filled : ℕ) (r : NextLine) : Type 0 where
  pub begins : r.at ≤ r.end
  pub within : r.end ≤ filled
  pub ended : r.ended ≡ true → r.end < filled

-- the line that begins at a place among so many bytes
pub record LineIn (at filled : ℕ) (r : NextLine) : Type 0 where
  pub at_is : r.at ≡ at
  pub next : IsNextLine filled r

-- while lines are run: the next one begins among the bytes that are read, and what is held steps have made
pub record Running (filled : ℕ) (replay : Replay) (at : ℕ) : Type 0 where
  pub begins : at ≤ filled
  pub made : Made (held_of replay.session)
