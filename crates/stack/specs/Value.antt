-- TRUSTED. Which list value of Stack.antt a struct value stands for: every contract on a struct speaks of it through these. Assumes nothing: these are definitions.
use Rattle.std.specs.Prelude.{Option, None, Some, List, [], map, ℕ, suc, get_or}
use Rattle.numbers.specs.Lists.{tabulate}
use Rattle.stack.specs.Stack.{Pair, pair, Channel, channel, Window, free, held, Strip, strip, Stack, stack}
use Rattle.stack.specs.declared.Tracks.{Tracks}
use Rattle.stack.specs.declared.Columns.{Columns}
use Rattle.stack.specs.declared.Window.{Window as WindowStruct}
use Rattle.stack.specs.declared.Strip.{Strip as StripStruct}
use Rattle.stack.specs.declared.Terminals.{Terminals}
use Rattle.stack.specs.declared.Stack.{Stack as StackStruct}

abbrev pub tracks : ℕ → Tracks
tracks n = record { 0 = n }

abbrev pub columns : ℕ → Columns
columns n = record { 0 = n }

-- the numbers of separations and of positions
abbrev pub tracks_of : List Tracks → List ℕ
tracks_of ts = map (λ (t : Tracks). t.0) ts

abbrev pub columns_of : List Columns → List ℕ
columns_of xs = map (λ (x : Columns). x.0) xs

-- a strip that is free, and one that is held
abbrev pub free_strip : (length : ℕ) → StripStruct
free_strip n = record { length = columns n; window = None }

abbrev pub held_strip : (length least greatest : ℕ) → StripStruct
held_strip n a e = record { length = columns n; window = Some (record { least = columns a; greatest = columns e }) }

-- the window: free where there is none
unfoldable pub window_of : Option WindowStruct → Window
window_of None = free
window_of (Some w) = held w.least.0 w.greatest.0

abbrev pub strip_of : StripStruct → Strip
strip_of l = strip l.length.0 (window_of l.window)

abbrev pub no_terminals : Terminals
no_terminals = record { lower = []; upper = []; count = 0 }

-- pair j of a channel
abbrev pub pair_at : Terminals → (j : ℕ) → Pair
pair_at t j = pair (get_or t.lower j (columns 0)).0 (get_or t.upper j (columns 0)).0

-- the pairs of a channel: the first count places
unfoldable pub channel_of : Terminals → List Pair
channel_of t = tabulate t.count 0 (λ j. pair_at t j)

abbrev pub strip_at : StackStruct → (i : ℕ) → Strip
strip_at k i = strip_of (get_or k.strips i (free_strip 0))

abbrev pub floor_at : StackStruct → (i : ℕ) → ℕ
floor_at k i = (get_or k.floors i (tracks 0)).0

abbrev pub channel_at : StackStruct → (i : ℕ) → Channel
channel_at k i = channel (channel_of (get_or k.channels i no_terminals)) (floor_at k i)

-- the first count channels, and one strip more
unfoldable pub stack_of : StackStruct → Stack
stack_of k = stack (tabulate (suc k.count) 0 (λ i. strip_at k i)) (tabulate k.count 0 (λ i. channel_at k i))
