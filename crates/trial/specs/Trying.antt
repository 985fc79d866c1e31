-- The numbers of a placement in the places that a stack uses. Assumes nothing: these are definitions.
use Rattle.std.specs.Prelude.{List, ℕ, suc, take}
use Rattle.stack.specs.Value.{tracks_of, columns_of}
use Rattle.stack.specs.declared.Tracks.{Tracks}
use Rattle.stack.specs.declared.Columns.{Columns}
use Rattle.stack.specs.declared.Stack.{Stack as StackStruct}

-- the places that a stack uses
abbrev pub used_separations : StackStruct → List Tracks → List ℕ
used_separations k ts = take k.count (tracks_of ts)

abbrev pub used_positions : StackStruct → List Columns → List ℕ
used_positions k xs = take (suc k.count) (columns_of xs)
