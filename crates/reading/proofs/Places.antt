-- What reading the first line, or one line of a kind, adds to what has been read: the refusal of that line, the strip, the channel or the floor on it, and the
-- place of the next line. Assumes nothing.
use mathlib.Core.Path.{◌≡◌, refl, ap, sym, ◌∙◌}
use mathlib.Core.Bool.{true}
use mathlib.Core.List.{List}
use Prim.Native.Nat.{ℕ, suc, ◌+◌, ◌*◌, ◌-◌, ◌≤◌, ◌<◌}
use native.Mathlib.Nat.{add-zero}
use native.Mathlib.Numerals.{add-one}
use native.Mathlib.Omega.{arith}
use denote.Ref.{Bor}
use lib.ListN.{length, get_or, set}
use lib.Seq.{get_or-drop, drop-drop}
use borrow.Author.Tests.{leb-true}
use Rattle.std.specs.Prelude.{Result, Ok, Err}
use Rattle.numbers.proofs.Bools.{ands}
use Rattle.numbers.proofs.Lists.{get_or_tabulate, tabulate_set, filled_steps, filled_rest}
use Rattle.lines.specs.Lines.{Line, line, line_of, lines, no_line, line_at}
use Rattle.lines.specs.Cut.{line_from, Next}
use Rattle.lines.specs.declared.Line.{Line as LineStruct}
use Rattle.lines.proofs.Places.{line_within, next_there}
use Rattle.stack.specs.Stack.{Channel, channel, no_channel, channel_in, free, Strip, strip, no_strip, Stack, stack}
use Rattle.stack.specs.Value.{free_strip, strip_of, channel_of, stack_of}
use Rattle.stack.specs.Made.{StripSet, ChannelSet, FloorSet}
use Rattle.stack.specs.declared.Stack.{Stack as StackStruct}
use Rattle.stack.specs.declared.Strip.{Strip as StripStruct}
use Rattle.stack.specs.declared.Terminals.{Terminals}
use Rattle.stack.proofs.Within.{stack_strip}
use Rattle.text.specs.Text.{Refusal, refusal, fine, entry, first_of, second_of, Kind, kind, layout, part_kind, nets_kind, gap_kind, check, supplied, line_check, k_of, head_refusal, head_check, part_check, length_at, nets_check, tail_at, channel_before, tail_check, strip_in}
use Rattle.text.specs.Outcome.{refusal_of}
use Rattle.text.specs.Kinds.{line_refusal, kind_refusal}
use Rattle.text.specs.declared.Refused.{Refused}
use Rattle.kinds.specs.Readers.{HeadRead, IsPartRead, IsNetsRead, IsGapRead}
use Rattle.kinds.specs.declared.Gap.{Gap}
use Rattle.reading.specs.Driver.{Going, ReadTo, HeadTaken, strip_read, Parting, PartTaken, nets_pairs, Wiring, NetsTaken, floor_read, gaps_read, Gapping, IsGapTaken}
use Rattle.reading.specs.declared.Progress.{Progress}
use Rattle.text.proofs.Refusals.{or_else_fine, or_else_none, fine_number}
use Rattle.text.proofs.Layouts.{layout_ended}
use Rattle.reading.proofs.Within.{head_says}
use Rattle.reading.proofs.Floors.{GapSays, gap_says, floor_named, floor_unnamed}

-- STACK
module _ (bs : List ℕ) (short : length bs ≤ 8192) (l : LineStruct) (m : line_of l ≡ line_from bs 0) where
  head_outcome : (r : Result StackStruct Refused) → HeadRead (line_of l) r → refusal_of r ≡ head_refusal (lines bs)
  unfolding head_refusal line_check supplied line_at line_from
  head_outcome r h = (rw m at h).outcome

  head_upto : (r : Result StackStruct Refused) → HeadRead (line_of l) r → refusal_of r ≡ line_refusal (head_check (lines bs))
  unfolding head_check check
  head_upto r h = head_outcome r h ∙ or_else_none r (head_refusal (lines bs)) (head_outcome r h)

  pub head_refused : (x : Refused) → HeadRead (line_of l) (Err x) → HeadTaken bs (Err x)
  head_refused x h = record { outcome = head_upto (Err x) h; going = tt }

  pub head_short : length l.bytes.now ≤ 8192
  unfolding line
  head_short = omega (arith, line_within bs 0 (omega arith), ap (λ (x : Line). length x.bytes) m)

  pub head_taken : (t : Bor (List ℕ)) → t.now ≡ bs → (s : StackStruct) → HeadRead (line_of l) (Ok s) → HeadTaken bs (Ok (record { text = t; at = length l.bytes.now + 1; stack = s }))
  unfolding head_refusal line_check supplied k_of line_at line_from line fine refusal
  head_taken t same s h =
      let here : HeadRead (line_from bs 0) (Ok s) = rw m at h in
      let says = head_says (lines bs) (rw (← head_outcome (Ok s) h)) in
      let next = next_there bs 0 (omega arith) (layout_ended _ 1 (line_from bs 0) says.layout) in
      let place : 0 + length (line_from bs 0).bytes + 1 ≡ length l.bytes.now + 1 = omega (arith, ap (λ (x : Line). length x.bytes) m) in
      let w = says.within in
      record {
        outcome = head_upto (Ok s) h;
        going = record {
          text = same;
          short = short;
          within = rw place at next.within;
          rest = rw place at next.rest;
          few = leb-true (k_of (lines bs)) 8 (search ands);
          count = here.count;
          stands = here.bare;
        };
      }

-- A LINE behind i lines that are read
module _ (bs : List ℕ) (i : ℕ) (k : Stack) (p : Progress) (g : Going bs i k p) (l : LineStruct) (m : line_of l ≡ line_from bs p.at) where
  due : line_of l ≡ line_at (lines bs) i
  unfolding line_at line_from
  due = m ∙ rw (g.rest, get_or-drop i (lines bs) 0 no_line, add-zero i)

  line_ends : p.at + length l.bytes.now ≤ length bs
  unfolding line
  line_ends = omega (arith, line_within bs p.at g.within, ap (λ (x : Line). length x.bytes) m)

  pub line_short : length l.bytes.now ≤ 8192
  line_short = omega (arith, line_ends, g.short)

  pub line_few : p.at + (length l.bytes.now + 1) ≤ 8193
  line_few = omega (arith, line_ends, g.short)

  next_due : (line_at (lines bs) i).ended ≡ true → Next bs p.at (p.at + (length l.bytes.now + 1))
  unfolding line
  next_due h =
      let same : p.at + length (line_from bs p.at).bytes + 1 ≡ p.at + (length l.bytes.now + 1) = omega (arith, ap (λ (x : Line). length x.bytes) m) in
      rw same at (next_there bs p.at g.within (ap (λ (x : Line). x.ended) (sym m ∙ due) ∙ h))

  -- nothing is refused of it: it is ended, and what is on it stands
  line_taken : {A : Type 0} (f : Refusal) (x : A) (s : Stack) (q : StackStruct) → fine ≡ f → (line_at (lines bs) i).ended ≡ true →
      q.count ≡ p.stack.count → stack_of q ≡ s → ReadTo bs f (suc i) s (Ok x) (record { text = p.text; at = p.at + (length l.bytes.now + 1); stack = q })
  line_taken f x s q says ended count stands =
      let next = next_due ended in
      record {
        outcome = says;
        going = record {
          text = g.text;
          short = g.short;
          within = next.within;
          rest = next.rest ∙ rw (g.rest, drop-drop 1 i (lines bs), add-one i);
          few = g.few;
          count = count ∙ g.count;
          stands = stands;
        };
      }

-- what is refused of a line of a kind; where that is nothing, it is ended
line_is : (K : Kind) (ls : List Line) (i : ℕ) → line_refusal (line_check K ls i) ≡ kind_refusal K (suc i) (line_at ls i)
unfolding line_check kind_refusal check supplied
line_is K ls i = refl

kind_ended : (K : Kind) (ls : List Line) (i : ℕ) → (line_refusal (line_check K ls i)).number ≡ 0 → (line_at ls i).ended ≡ true
unfolding line_check check
kind_ended K ls i z = layout_ended K (suc i) (line_at ls i) (or_else_fine (layout K (suc i) (line_at ls i)) (K.content (supplied ls i)) z).0

-- PART
module _ (bs : List ℕ) (p : Progress) (j : ℕ) (l : LineStruct) (m : Parting bs j p) (h : j ≤ p.stack.count) (f : line_of l ≡ line_from bs p.at) where
  part_there : (r : Result StripStruct Refused) → IsPartRead (j + 2) (line_of l) r → IsPartRead (suc (suc j)) (line_at (lines bs) (suc j)) r
  part_there r t =
      let first : 1 + j ≡ suc j = omega arith in
      let number : j + 2 ≡ suc (1 + j) = omega arith in
      rw (← first, ← due bs (1 + j) _ p m.going l f, ← number) t

  part_says : (r : Result StripStruct Refused) → IsPartRead (j + 2) (line_of l) r → refusal_of r ≡ line_refusal (part_check (lines bs) j)
  unfolding part_check
  part_says r t = (part_there r t).outcome ∙ sym (line_is part_kind (lines bs) (suc j))

  pub part_refused : (x : Refused) → IsPartRead (j + 2) (line_of l) (Err x) → PartTaken bs j (Err x) p
  part_refused x t = record { outcome = part_says (Err x) t; going = tt }

  pub part_taken : (s : StripStruct) (k : StackStruct) → IsPartRead (j + 2) (line_of l) (Ok s) → StripSet p.stack j (strip_of s) k →
      PartTaken bs j (Ok (tt {0})) (record { text = p.text; at = p.at + (length l.bytes.now + 1); stack = k })
  unfolding stack supplied entry part_check
  part_taken s k t u =
      let ls = lines bs in
      let first : 1 + j ≡ suc j = omega arith in
      let g = m.going in
      line_taken bs (1 + j) _ p g l f (line_refusal (part_check ls j)) tt _ k (part_says (Ok s) t)
      (rw first (kind_ended part_kind ls (suc j) (fine_number _ (part_says (Ok s) t))))
      u.count
      (u.value ∙ rw (g.stands, (part_there (Ok s) t).strip, ← filled_steps (suc (k_of ls)) j (λ i. strip_read ls i) (strip 1 free) (omega (arith, g.count))))

-- NETS between strips of the lengths read
strip_length : (bs : List ℕ) (p : Progress) (c i : ℕ) → Wiring bs c p → i ≤ p.stack.count → (get_or p.stack.strips i (free_strip 0)).length.0 ≡ length_at (lines bs) i
unfolding stack length_at first_of strip_in
strip_length bs p c i m h =
    let ls = lines bs in
    let read = get_or_tabulate (suc (k_of ls)) i (λ j. strip_read ls j) no_strip (omega (arith, m.going.count)) in
    let there : get_or (stack_of p.stack).strips i no_strip ≡ strip_read ls i = rw m.going.stands read in
    ap (λ (l : Strip). l.length) (sym (stack_strip p.stack i (omega arith)) ∙ there)

module _ (bs : List ℕ) (p : Progress) (c : ℕ) (l : LineStruct) (m : Wiring bs c p) (h : c < p.stack.count) (f : line_of l ≡ line_from bs p.at) where
  abbrev NetsHere : Result Terminals Refused → Type 0
  NetsHere r =
      IsNetsRead (get_or p.stack.strips c (free_strip 0)).length.0 (get_or p.stack.strips (c + 1) (free_strip 0)).length.0 (p.stack.count + c + 3) (line_of l) r

  nets_there : (r : Result Terminals Refused) → NetsHere r →
      IsNetsRead (length_at (lines bs) c) (length_at (lines bs) (suc c)) (suc (k_of (lines bs) + 2 + c)) (line_at (lines bs) (k_of (lines bs) + 2 + c)) r
  nets_there r t =
      let i = k_of (lines bs) + 2 + c in
      let number : p.stack.count + c + 3 ≡ suc i = omega (arith, m.going.count) in
      rw (← due bs i _ p m.going l f, ← number, ← strip_length bs p c c m (omega arith), ← add-one c, ← strip_length bs p c (c + 1) m (omega arith)) t

  nets_says : (r : Result Terminals Refused) → NetsHere r → refusal_of r ≡ line_refusal (nets_check (lines bs) c)
  unfolding nets_check
  nets_says r t = (nets_there r t).outcome ∙ sym (line_is (nets_kind (length_at (lines bs) c) (length_at (lines bs) (suc c))) (lines bs) (k_of (lines bs) + 2 + c))

  pub nets_refused : (x : Refused) → NetsHere (Err x) → NetsTaken bs c (Err x) p
  nets_refused x t = record { outcome = nets_says (Err x) t; going = tt }

  pub nets_taken : (s : Terminals) (k : StackStruct) → NetsHere (Ok s) → ChannelSet p.stack c (channel_of s) k →
      NetsTaken bs c (Ok (tt {0})) (record { text = p.text; at = p.at + (length l.bytes.now + 1); stack = k })
  unfolding stack supplied entry nets_check
  nets_taken s k t u =
      let ls = lines bs in
      let i = k_of ls + 2 + c in
      let g = m.going in
      let wired : ℕ → Channel = λ j. channel (nets_pairs ls j) 0 in
      let within : c < k_of ls = omega (arith, g.count) in
      let bare = filled_rest (k_of ls) c c wired no_channel no_channel (omega arith) within in
      line_taken bs i _ p g l f (line_refusal (nets_check ls c)) tt _ k (nets_says (Ok s) t)
      (kind_ended (nets_kind (length_at ls c) (length_at ls (suc c))) ls i (fine_number _ (nets_says (Ok s) t)))
      u.count
      (u.value ∙ rw (g.stands, (nets_there (Ok s) t).pairs, bare, ← filled_steps (k_of ls) c wired no_channel within))

-- GAP: one floor more, that of the line's channel
floor_more : (ls : List Line) (g c f : ℕ) → channel_before ls (suc g) ≡ suc c → second_of (supplied ls (tail_at ls + g)) ≡ f →
    ((j : ℕ) → j ≤ g → channel_before ls j ≤ c) → c < k_of ls →
    stack (gaps_read ls g).strips (set (gaps_read ls g).channels c (channel (channel_in (gaps_read ls g) c).pairs f)) ≡ gaps_read ls (g + 1)
unfolding stack channel_before first_of second_of
floor_more ls g c f named floor below within =
    let numbers : ℕ → List ℕ = λ i. (supplied ls i).numbers in
    let at : ℕ → ℕ → Channel = λ g c. channel (nets_pairs ls c) (floor_read ls g c) in
    let first : floor_read ls (suc g) c ≡ f = floor_named numbers g (tail_at ls) (suc c) named (λ j l e. omega (arith, below (suc j) (omega arith))) ∙ floor in
    rw (get_or_tabulate (k_of ls) c (at g) no_channel within, add-one g)
    (ap (λ (cs : List Channel). stack (gaps_read ls g).strips cs)
    (sym (tabulate_set (k_of ls) c (at g) (at (suc g)) (channel (nets_pairs ls c) f) (rw first)
    (λ j d. ap (λ v. channel (nets_pairs ls j) v) (floor_unnamed numbers g (tail_at ls) (suc j) (λ e. d (omega arith)))))))

-- a line that is accepted
pub gap_means : (bs : List ℕ) (g b : ℕ) (p : Progress) → Gapping bs g b p → (line_refusal (tail_check (lines bs) g)).number ≡ 0 →
    GapSays (k_of (lines bs)) b (supplied (lines bs) (tail_at (lines bs) + g))
unfolding tail_check line_check check gap_kind kind
gap_means bs g b p m z =
    let ls = lines bs in
    rw (← m.last) at (gap_says (k_of ls) (channel_before ls g) (supplied ls (tail_at ls + g)) (or_else_fine _ _ z).1)

module _ (bs : List ℕ) (p : Progress) (g b : ℕ) (l : LineStruct) (n : ℕ) (m : Gapping bs g b p) (f : line_of l ≡ line_from bs p.at)
    (s : n ≡ 2 * p.stack.count + 3) where
  going : Going bs (tail_at (lines bs) + g) (gaps_read (lines bs) g) p
  going = m.read.going

  abbrev GapHere : Result Gap Refused → Type 0
  GapHere r = IsGapRead p.stack.count b (n + g) (line_of l) r

  gap_there : (r : Result Gap Refused) → GapHere r →
      IsGapRead (k_of (lines bs)) (channel_before (lines bs) g) (suc (tail_at (lines bs) + g)) (line_at (lines bs) (tail_at (lines bs) + g)) r
  unfolding tail_at
  gap_there r t =
      let ls = lines bs in
      let number : n + g ≡ suc (tail_at ls + g) = omega (arith, s, going.count) in
      rw (going.count, number, m.last, due bs (tail_at ls + g) _ p going l f) at t

  gap_outcome : (r : Result Gap Refused) → GapHere r → refusal_of r ≡ line_refusal (tail_check (lines bs) g)
  unfolding tail_check
  gap_outcome r t = (gap_there r t).outcome ∙ sym (line_is (gap_kind (k_of (lines bs)) (channel_before (lines bs) g)) (lines bs) (tail_at (lines bs) + g))

  pub gap_refused : (x : Refused) → GapHere (Err x) → IsGapTaken bs g (Err x) p
  gap_refused x t = record { read = record { outcome = gap_outcome (Err x) t; going = tt }; channel = tt }

  module _ (q : Gap) (t : GapHere (Ok q)) where
    line_fine : (line_refusal (tail_check (lines bs) g)).number ≡ 0
    unfolding fine refusal
    line_fine = rw (← gap_outcome (Ok q) t)

    channel_read : q.channel ≡ channel_before (lines bs) (suc g)
    unfolding channel_before first_of supplied entry
    channel_read = ap (λ (x : Gap). x.channel) (gap_there (Ok q) t).content

    pub gap_channel : (1 ≤ q.channel) × (q.channel ≤ p.stack.count)
    unfolding channel_before
    gap_channel = let s = gap_means bs g b p m line_fine in omega (arith, channel_read, going.count, s.some, s.within)

    pub gap_taken : (k : StackStruct) → FloorSet p.stack (q.channel - 1) q.floor.0 k →
        IsGapTaken bs g (Ok q.channel) (record { text = p.text; at = p.at + (length l.bytes.now + 1); stack = k })
    unfolding second_of supplied entry channel_before tail_check
    gap_taken k u =
        let ls = lines bs in
        let i = tail_at ls + g in
        let c = q.channel - 1 in
        let above : b < q.channel = omega (arith, channel_read, (gap_means bs g b p m line_fine).above) in
        let named : channel_before ls (suc g) ≡ suc c = sym channel_read ∙ omega (arith, above) in
        let below : (j : ℕ) → j ≤ g → channel_before ls j ≤ c = λ j h. omega (arith, m.rising j h, above) in
        let inside : c < k_of ls = omega (arith, gap_channel.0, gap_channel.1, going.count) in
        let floor = sym (ap (λ (x : Gap). x.floor.0) (gap_there (Ok q) t).content) in
        record {
          read =
              line_taken bs i _ p going l f (line_refusal (tail_check ls g)) q.channel _ k (gap_outcome (Ok q) t)
              (kind_ended (gap_kind (k_of ls) (channel_before ls g)) ls i (fine_number _ (gap_outcome (Ok q) t)))
              u.count (u.value ∙ rw going.stands (floor_more ls g c q.floor.0 named floor below inside));
          channel = channel_read;
        }
