-- What the reader of each kind of line answers. Assumes nothing: these are definitions.
use Rattle.std.specs.Prelude.{◌≡◌, true, Result, Ok, Err, IfOk, List, [], ◌∷◌, ℕ, ◌+◌, ◌%◌, ◌<◌, length, get_or}
use Rattle.lines.specs.Lines.{Line, numbers_of}
use Rattle.stack.specs.Limits.{strip_within}
use Rattle.stack.specs.Value.{tracks, strip_of, channel_of, stack_of}
use Rattle.stack.specs.Made.{bare}
use Rattle.stack.specs.declared.Stack.{Stack}
use Rattle.stack.specs.declared.Strip.{Strip}
use Rattle.stack.specs.declared.StripFault.{StripFault}
use Rattle.stack.specs.declared.StripFault.TheVariants.{Length, Inverted}
use Rattle.stack.specs.declared.Terminals.{Terminals}
use Rattle.stack.specs.declared.TerminalsFault.{TerminalsFault}
use Rattle.stack.specs.declared.TerminalsFault.TheVariants.{Crowd, Overhang, Crossing}
use Rattle.text.specs.Text.{entry, stack_content, part_content, nets_content, part_kind, nets_kind, gap_kind, k_of, head_refusal, pairs_of, strip_in}
use Rattle.text.specs.Outcome.{refusal_of, refused}
use Rattle.text.specs.Kinds.{kind_refusal}
use Rattle.text.specs.declared.Refused.{Refused}
use Rattle.text.specs.declared.Refusal.TheVariants as why
use Rattle.kinds.specs.declared.Gap.{Gap}

-- STACK: k channels without pairs
pub record HeadContent (k : ℕ) (r : Result Stack Refused) : Type 0 where
  pub outcome : refusal_of r ≡ stack_content (entry 1 0 (k ∷ []))
  pub count : IfOk r (λ s. s.count ≡ k)
  pub bare : IfOk r (λ s. stack_of s ≡ bare k)

pub record HeadRead (l : Line) (r : Result Stack Refused) : Type 0 where
  pub outcome : refusal_of r ≡ head_refusal (l ∷ [])
  pub count : IfOk r (λ s. s.count ≡ k_of (l ∷ []))
  pub bare : IfOk r (λ s. stack_of s ≡ bare (k_of (l ∷ [])))

-- the refusal of line n for the limit that its strip does not keep
abbrev pub strip_refused : (n : ℕ) → StripFault → Refused
strip_refused n Length = refused why.Length n 2
strip_refused n Inverted = refused why.Inverted n 4

abbrev pub part_made : (n : ℕ) → Result Strip StripFault → Result Strip Refused
part_made n (Ok s) = Ok s
part_made n (Err f) = Err (strip_refused n f)

-- PART at line n: the strip of its numbers, within the limits
pub record PartContent (n : ℕ) (ns : List ℕ) (r : Result Strip Refused) : Type 0 where
  pub outcome : refusal_of r ≡ part_content (entry n 0 ns)
  pub strip : IfOk r (λ s. strip_of s ≡ strip_in ns)
  pub within : IfOk r (λ s. strip_within (strip_of s) ≡ true)

pub record IsPartRead (n : ℕ) (l : Line) (r : Result Strip Refused) : Type 0 where
  pub outcome : refusal_of r ≡ kind_refusal part_kind n l
  pub strip : IfOk r (λ s. strip_of s ≡ strip_in (numbers_of l))
  pub within : IfOk r (λ s. strip_within (strip_of s) ≡ true)

-- where a fault of terminals is, and the refusal of line n for it: place i in p(0), q(0), p(1), q(1), .. is field i + 2
abbrev pub place : TerminalsFault → ℕ
place Crowd = 0
place (Overhang i) = i
place (Crossing i) = i

abbrev pub terminals_refused : (n : ℕ) → TerminalsFault → Refused
terminals_refused n Crowd = refused why.Crowd n 66
terminals_refused n (Overhang i) = refused why.Overhang n (i + 2)
terminals_refused n (Crossing i) = refused why.Crossing n (i + 2)

-- an even count of numbers, of which the first 64 are in places
pub record Kept (ns places : List ℕ) (count : ℕ) : Type 0 where
  pub in_place : (i : ℕ) → i < 64 → i < length ns → get_or places i 0 ≡ get_or ns i 0
  pub count_is : count ≡ length ns
  pub even : length ns % 2 ≡ 0

-- NETS between strips of these lengths: the pairs of the numbers that line n supplies
pub record NetsContent (lower upper n : ℕ) (ns : List ℕ) (r : Result Terminals Refused) : Type 0 where
  pub outcome : refusal_of r ≡ nets_content lower upper (entry n 0 ns)
  pub pairs : IfOk r (λ t. channel_of t ≡ pairs_of ns)

abbrev pub NetsSupplied : (lower upper n : ℕ) → (places : List ℕ) → (count : ℕ) → Result Terminals Refused → Type 0
NetsSupplied lo hi n vs c r = (ns : List ℕ) → Kept ns vs c → NetsContent lo hi n ns r

-- NETS at line n between strips of these lengths: the channel's pairs
pub record IsNetsRead (lower upper n : ℕ) (l : Line) (r : Result Terminals Refused) : Type 0 where
  pub outcome : refusal_of r ≡ kind_refusal (nets_kind lower upper) n l
  pub pairs : IfOk r (λ t. channel_of t ≡ pairs_of (numbers_of l))

abbrev pub gap : (channel floor : ℕ) → Gap
gap c f = record { channel = c; floor = tracks f }

-- GAP at line n in a stack of k channels, behind a GAP of a channel: its channel and floor
pub record IsGapRead (k before n : ℕ) (l : Line) (r : Result Gap Refused) : Type 0 where
  pub outcome : refusal_of r ≡ kind_refusal (gap_kind k before) n l
  pub content : IfOk r (λ g. g ≡ gap (get_or (numbers_of l) 0 0) (get_or (numbers_of l) 1 0))
