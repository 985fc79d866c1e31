-- What a stack within the limits keeps, channel by channel and strip by strip, as lists and as a struct; as lists a stack that keeps this is within the limits. By induction on the
-- strips. Assumes nothing.
use mathlib.Core.Path.{◌≡◌, refl, ap}
use mathlib.Core.Bool.{true}
use mathlib.Core.List.{List, [], ◌∷◌}
use Prim.Native.Nat.{ℕ, zero, suc, ◌≤◌, ◌<◌}
use native.Mathlib.Omega.{arith}
use lib.ListN.{length, get_or}
use borrow.Author.Tests.{leb-true, le-leb}
use Rattle.numbers.proofs.Bools.{ands, and_both, impossible}
use Rattle.numbers.proofs.Lists.{length_tabulate, get_or_tabulate}
use Rattle.stack.specs.Stack.{Channel, no_channel, strip_in, channel_in, Strip, no_strip, Stack, stack}
use Rattle.stack.specs.Limits.{rising, all_rising, on_strips, pairs_within, channel_within, channels_within, strip_within, strips_within, within_limits}
use Rattle.stack.specs.Value.{no_terminals, channel_of, strip_at, floor_at, channel_at, stack_of}
use Rattle.stack.specs.declared.Stack.{Stack as StackStruct}
use Rattle.stack.proofs.Values.{channel_length, stack_channel}
use Rattle.stack.proofs.OnStrips.{on_longer}

-- one strip more than channels
pub strips_length : (ls : List Strip) (cs : List Channel) → channels_within ls cs ≡ true → length ls ≡ suc (length cs)
unfolding channels_within
strips_length [] cs e = impossible e
strips_length (l ∷ []) [] e = refl
strips_length (l ∷ []) (c ∷ cs) e = impossible e
strips_length (l ∷ u ∷ ls) [] e = impossible e
strips_length (l ∷ u ∷ ls) (c ∷ cs) e = ap suc (strips_length (u ∷ ls) cs (search ands))

-- each channel is within the limits between its strips
pub channel_in_limits : (ls : List Strip) (cs : List Channel) (i : ℕ) → channels_within ls cs ≡ true → i < length cs → channel_within (get_or ls i no_strip).length (get_or ls (suc i) no_strip).length (get_or cs i no_channel) ≡ true
unfolding channels_within
channel_in_limits [] cs i e h = impossible e
channel_in_limits (l ∷ []) [] i e h = absurd (omega arith)
channel_in_limits (l ∷ []) (c ∷ cs) i e h = impossible e
channel_in_limits (l ∷ u ∷ ls) [] i e h = impossible e
channel_in_limits (l ∷ u ∷ ls) (c ∷ cs) zero e h = search ands
channel_in_limits (l ∷ u ∷ ls) (c ∷ cs) (suc i) e h = channel_in_limits (u ∷ ls) cs i (search ands) (omega arith)

-- each strip is within the limits
pub strip_in_limits : (ls : List Strip) (i : ℕ) → strips_within ls ≡ true → i < length ls → strip_within (get_or ls i no_strip) ≡ true
unfolding strips_within
strip_in_limits [] i e h = absurd (omega arith)
strip_in_limits (l ∷ ls) zero e h = search ands
strip_in_limits (l ∷ ls) (suc i) e h = strip_in_limits ls i (search ands) (omega arith)

-- so its length is at most 1,000
strip_length : (ls : List Strip) (i : ℕ) → strips_within ls ≡ true → (get_or ls i no_strip).length ≤ 1000
unfolding strips_within strip_within
strip_length [] i e = omega arith
strip_length (l ∷ ls) zero e = leb-true l.length 1000 (search ands)
strip_length (l ∷ ls) (suc i) e = strip_length ls i (search ands)

pub channels_rising : (ls : List Strip) (cs : List Channel) → channels_within ls cs ≡ true → all_rising cs ≡ true
unfolding channels_within channel_within pairs_within all_rising
channels_rising [] cs e = impossible e
channels_rising (l ∷ []) [] e = refl
channels_rising (l ∷ []) (c ∷ cs) e = impossible e
channels_rising (l ∷ u ∷ ls) [] e = refl
channels_rising (l ∷ u ∷ ls) (c ∷ cs) e =
    let here : rising c.pairs ≡ true = search ands in
    rw here (channels_rising (u ∷ ls) cs (search ands))

-- every channel of a stack within the limits rises
pub within_rising : (k : Stack) → within_limits k ≡ true → all_rising k.channels ≡ true
unfolding within_limits
within_rising k e = channels_rising k.strips k.channels (search ands)

-- a struct's list value, place by place
pub stack_channels : (k : StackStruct) → length (stack_of k).channels ≡ k.count
unfolding stack_of stack
stack_channels k = length_tabulate k.count 0 (λ i. channel_at k i)

pub stack_strips : (k : StackStruct) → length (stack_of k).strips ≡ suc k.count
unfolding stack_of stack
stack_strips k = length_tabulate (suc k.count) 0 (λ i. strip_at k i)

pub stack_strip : (k : StackStruct) (i : ℕ) → i < suc k.count → get_or (stack_of k).strips i no_strip ≡ strip_at k i
unfolding stack_of stack
stack_strip k i h = get_or_tabulate (suc k.count) i (λ i. strip_at k i) no_strip h

module _ (k : StackStruct) (good : within_limits (stack_of k) ≡ true) where
  pub few_channels : k.count ≤ 8
  unfolding within_limits
  few_channels = omega (arith, stack_channels k, leb-true (length (stack_of k).channels) 8 (search ands))

  pub few_pairs : (i : ℕ) → i < k.count → (get_or k.channels i no_terminals).count ≤ 32
  unfolding within_limits channel_within pairs_within
  few_pairs i h =
      let w = channel_in_limits (stack_of k).strips (stack_of k).channels i (search ands) (omega (arith, stack_channels k)) in
      let n = leb-true (length (channel_in (stack_of k) i).pairs) 32 (search ands) in
      omega (arith, ap (λ (c : Channel). length c.pairs) (stack_channel k i h), channel_length (get_or k.channels i no_terminals))

  pub small_floor : (i : ℕ) → i < k.count → floor_at k i ≤ 64
  unfolding within_limits channel_within
  small_floor i h =
      let w = channel_in_limits (stack_of k).strips (stack_of k).channels i (search ands) (omega (arith, stack_channels k)) in
      let n = leb-true (channel_in (stack_of k) i).floor 64 (search ands) in
      omega (arith, ap (λ (c : Channel). c.floor) (stack_channel k i h))

  -- its channels' terminals are at most the greatest length
  pub on_longest_strips : (i : ℕ) → i < k.count → on_strips 1000 1000 (channel_of (get_or k.channels i no_terminals)) ≡ true
  unfolding within_limits channel_within pairs_within
  on_longest_strips i h =
      let w = channel_in_limits (stack_of k).strips (stack_of k).channels i (search ands) (omega (arith, stack_channels k)) in
      let l = (get_or (stack_of k).strips i no_strip).length in
      let u = (get_or (stack_of k).strips (suc i) no_strip).length in
      rw (stack_channel k i h) at
      (on_longer l u 1000 1000 (channel_in (stack_of k) i).pairs (strip_length (stack_of k).strips i (search ands)) (strip_length (stack_of k).strips (suc i) (search ands))
      (search ands))

-- a stack within the limits has one strip more than channels
pub strips_count : (k : Stack) → within_limits k ≡ true → length k.strips ≡ suc (length k.channels)
unfolding within_limits
strips_count k e = strips_length k.strips k.channels (search ands)

pub channels_few : (k : Stack) → within_limits k ≡ true → length k.channels ≤ 8
unfolding within_limits
channels_few k e = leb-true (length k.channels) 8 (search ands)

-- A STACK within the limits, each strip and each channel
pub record EachWithin (k : Stack) : Type 0 where
  pub some : 1 ≤ length k.channels
  pub few : length k.channels ≤ 8
  pub count : length k.strips ≡ suc (length k.channels)
  pub strips : (i : ℕ) → i < length k.strips → strip_within (strip_in k i) ≡ true
  pub channels :
      (i : ℕ) → i < length k.channels
      → channel_within (strip_in k i).length (strip_in k (suc i)).length (channel_in k i) ≡ true

pub limits_each : (k : Stack) → within_limits k ≡ true → EachWithin k
unfolding within_limits
limits_each k e = record {
  some = leb-true 1 (length k.channels) (search ands);
  few = channels_few k e;
  count = strips_count k e;
  strips = λ i h. strip_in_limits k.strips i (search ands) h;
  channels = λ i h. channel_in_limits k.strips k.channels i (search ands) h;
}

strips_each : (ls : List Strip) → ((i : ℕ) → i < length ls → strip_within (get_or ls i no_strip) ≡ true) → strips_within ls ≡ true
unfolding strips_within
strips_each [] h = refl
strips_each (l ∷ ls) h = and_both (strip_within l) (strips_within ls) (h 0 (omega arith)) (strips_each ls (λ i m. h (suc i) (omega arith)))

channels_each : (ls : List Strip) (cs : List Channel) → length ls ≡ suc (length cs)
    → ((i : ℕ) → i < length cs → channel_within (get_or ls i no_strip).length (get_or ls (suc i) no_strip).length (get_or cs i no_channel) ≡ true)
    → channels_within ls cs ≡ true
unfolding channels_within
channels_each [] cs e h = absurd (omega arith)
channels_each (a ∷ []) [] e h = refl
channels_each (a ∷ []) (c ∷ cs) e h = absurd (omega arith)
channels_each (a ∷ b ∷ ls) [] e h = absurd (omega arith)
channels_each (a ∷ b ∷ ls) (c ∷ cs) e h =
    and_both (channel_within a.length b.length c) (channels_within (b ∷ ls) cs) (h 0 (omega arith))
    (channels_each (b ∷ ls) cs (omega arith) (λ i m. h (suc i) (omega arith)))

pub each_within : (k : Stack) → EachWithin k → within_limits k ≡ true
unfolding within_limits
each_within k w =
    let some = le-leb 1 (length k.channels) w.some in
    let few = le-leb (length k.channels) 8 w.few in
    rw (some, few, strips_each k.strips w.strips) (channels_each k.strips k.channels w.count w.channels)
