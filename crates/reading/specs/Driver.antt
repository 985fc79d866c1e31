-- How far a text has been read: what holds after its first lines, and what reading the next line, or all lines of a kind, adds.
-- Assumes nothing: these are definitions.
use Rattle.std.specs.Prelude.{◌≡◌, true, Result, IfOk, OnOk, ⊤, List, ℕ, suc, ◌+◌, ◌-◌, ◌≤◌, length, drop, replicate}
use Rattle.numbers.specs.Lists.{tabulate, filled}
use Rattle.lines.specs.Lines.{Line, lines}
use Rattle.stack.specs.Stack.{Pair, channel, no_channel, free, Strip, strip, Stack, stack}
use Rattle.stack.specs.Limits.{within_limits}
use Rattle.stack.specs.Value.{stack_of}
use Rattle.stack.specs.Made.{bare}
use Rattle.stack.specs.declared.Stack.{Stack as StackStruct}
use Rattle.text.specs.Text.{Refusal, or_else, supplied, Check, k_of, head_check, part_check, nets_check, tail_at, tail_count, channel_before, tail_check, in_turn, text_refusal, pairs_of, strip_in, floor_in, stack_in}
use Rattle.text.specs.Outcome.{refusal_of}
use Rattle.text.specs.Kinds.{line_refusal}
use Rattle.text.specs.declared.Refused.{Refused}
use Rattle.reading.specs.declared.Progress.{Progress}

-- the first i lines of a text are read, nothing is refused, and this stack stands
pub record Going (bs : List ℕ) (i : ℕ) (k : Stack) (p : Progress) : Type 0 where
  pub text : p.text.now ≡ bs
  pub short : length bs ≤ 8192
  pub within : p.at ≤ length bs
  pub rest : lines (drop p.at bs) ≡ drop i (lines bs)
  pub few : k_of (lines bs) ≤ 8
  pub count : p.stack.count ≡ k_of (lines bs)
  pub stands : stack_of p.stack ≡ k

-- f is refused of the next lines; where that is nothing, the first i lines are read
pub record ReadTo {A : Type 0} (bs : List ℕ) (f : Refusal) (i : ℕ) (k : Stack) (r : Result A Refused) (p : Progress) : Type 0 where
  pub outcome : refusal_of r ≡ f
  pub going : OnOk r (Going bs i k p)

-- while n lines of a kind are read behind the first i: the first j of them are read
pub record ReadingLines (bs : List ℕ) (kind : ℕ → Check) (i n j : ℕ) (k : Stack) (p : Progress) : Type 0 where
  pub below : j ≤ n
  pub going : Going bs (i + j) k p
  pub rest : in_turn (tabulate n 0 kind) ≡ in_turn (tabulate (n - j) j kind)

-- STACK is read
abbrev pub upto_head : List ℕ → Refusal
upto_head bs = line_refusal (head_check (lines bs))

abbrev pub HeadStands : List ℕ → Progress → Type 0
HeadStands bs p = Going bs 1 (bare (k_of (lines bs))) p

pub record HeadTaken (bs : List ℕ) (r : Result Progress Refused) : Type 0 where
  pub outcome : refusal_of r ≡ upto_head bs
  pub going : IfOk r (λ p. HeadStands bs p)

-- PART lines: the first j strips stand
abbrev pub strip_read : List Line → (strip : ℕ) → Strip
strip_read ls i = strip_in (supplied ls (suc i)).numbers

abbrev pub parts_read : List Line → (j : ℕ) → Stack
parts_read ls j = stack (filled (suc (k_of ls)) j (λ i. strip_read ls i) (strip 1 free)) (replicate (k_of ls) no_channel)

abbrev pub Parting : List ℕ → (j : ℕ) → Progress → Type 0
Parting bs j p = ReadingLines bs (λ i. part_check (lines bs) i) 1 (suc (k_of (lines bs))) j (parts_read (lines bs) j) p

abbrev pub PartTaken : List ℕ → (j : ℕ) → Result ⊤ Refused → Progress → Type 0
PartTaken bs j r p = ReadTo bs (line_refusal (part_check (lines bs) j)) (suc (1 + j)) (parts_read (lines bs) (j + 1)) r p

abbrev pub parts_refusal : List ℕ → Refusal
parts_refusal bs = in_turn (tabulate (suc (k_of (lines bs))) 0 (λ i. part_check (lines bs) i))

abbrev pub upto_parts : List ℕ → Refusal
upto_parts bs = or_else (upto_head bs) (parts_refusal bs)

-- NETS lines: the pairs of the first c channels stand
abbrev pub nets_pairs : List Line → (channel : ℕ) → List Pair
nets_pairs ls c = pairs_of (supplied ls (k_of ls + 2 + c)).numbers

abbrev pub nets_read : List Line → (c : ℕ) → Stack
nets_read ls c = stack (tabulate (suc (k_of ls)) 0 (λ i. strip_read ls i)) (filled (k_of ls) c (λ j. channel (nets_pairs ls j) 0) no_channel)

abbrev pub PartsStand : List ℕ → Progress → Type 0
PartsStand bs p = Going bs (k_of (lines bs) + 2) (nets_read (lines bs) 0) p

abbrev pub PartsTaken : List ℕ → Result ⊤ Refused → Progress → Type 0
PartsTaken bs r p = ReadTo bs (parts_refusal bs) (k_of (lines bs) + 2) (nets_read (lines bs) 0) r p

abbrev pub Wiring : List ℕ → (c : ℕ) → Progress → Type 0
Wiring bs c p = ReadingLines bs (λ i. nets_check (lines bs) i) (k_of (lines bs) + 2) (k_of (lines bs)) c (nets_read (lines bs) c) p

abbrev pub NetsTaken : List ℕ → (c : ℕ) → Result ⊤ Refused → Progress → Type 0
NetsTaken bs c r p = ReadTo bs (line_refusal (nets_check (lines bs) c)) (suc (k_of (lines bs) + 2 + c)) (nets_read (lines bs) (c + 1)) r p

abbrev pub nets_refusal : List ℕ → Refusal
nets_refusal bs = in_turn (tabulate (k_of (lines bs)) 0 (λ i. nets_check (lines bs) i))

abbrev pub upto_nets : List ℕ → Refusal
upto_nets bs = or_else (upto_parts bs) (nets_refusal bs)

-- GAP lines: the floors that the first g name stand
abbrev pub gap_lines : List Line → (g : ℕ) → List (List ℕ)
gap_lines ls g = tabulate g (tail_at ls) (λ i. (supplied ls i).numbers)

abbrev pub floor_read : List Line → (g channel : ℕ) → ℕ
floor_read ls g c = floor_in (gap_lines ls g) (suc c)

abbrev pub gaps_read : List Line → (g : ℕ) → Stack
gaps_read ls g = stack (tabulate (suc (k_of ls)) 0 (λ i. strip_read ls i)) (tabulate (k_of ls) 0 (λ c. channel (nets_pairs ls c) (floor_read ls g c)))

abbrev pub NetsStand : List ℕ → Progress → Type 0
NetsStand bs p = Going bs (tail_at (lines bs)) (gaps_read (lines bs) 0) p

abbrev pub AllNetsTaken : List ℕ → Result ⊤ Refused → Progress → Type 0
AllNetsTaken bs r p = ReadTo bs (nets_refusal bs) (tail_at (lines bs)) (gaps_read (lines bs) 0) r p

-- the channels that they name rise: none is above the last, which is at least the count of the lines
pub record Gapping (bs : List ℕ) (g before : ℕ) (p : Progress) : Type 0 where
  pub read : ReadingLines bs (λ i. tail_check (lines bs) i) (tail_at (lines bs)) (tail_count (lines bs)) g (gaps_read (lines bs) g) p
  pub last : before ≡ channel_before (lines bs) g
  pub rising : (j : ℕ) → j ≤ g → channel_before (lines bs) j ≤ before
  pub many : g ≤ before
  pub within : before ≤ k_of (lines bs)

pub record IsGapTaken (bs : List ℕ) (g : ℕ) (r : Result ℕ Refused) (p : Progress) : Type 0 where
  pub read : ReadTo bs (line_refusal (tail_check (lines bs) g)) (suc (tail_at (lines bs) + g)) (gaps_read (lines bs) (g + 1)) r p
  pub channel : IfOk r (λ c. c ≡ channel_before (lines bs) (suc g))

abbrev pub tail_refusal : List ℕ → Refusal
tail_refusal bs = in_turn (tabulate (tail_count (lines bs)) 0 (λ i. tail_check (lines bs) i))

abbrev pub upto_gaps : List ℕ → Refusal
upto_gaps bs = or_else (upto_nets bs) (tail_refusal bs)

abbrev pub GapsTaken : List ℕ → Result ⊤ Refused → Progress → Type 0
GapsTaken bs r p = ReadTo bs (tail_refusal bs) (tail_at (lines bs) + tail_count (lines bs)) (stack_in bs) r p

-- THE READING of a text: the documents' refusal of it, or the stack in it, which is within the limits
pub record StackRead (bs : List ℕ) (r : Result StackStruct Refused) : Type 0 where
  pub outcome : refusal_of r ≡ text_refusal bs
  pub stack : IfOk r (λ s. stack_of s ≡ stack_in bs)
  pub within : IfOk r (λ s. within_limits (stack_of s) ≡ true)
