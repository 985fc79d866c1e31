-- Which list value a struct stands for: its lengths and elements, and how a store changes it. Assumes nothing.
use mathlib.Core.Path.{◌≡◌, ap, ap₂, ◌∙◌}
use mathlib.Core.List.{List, [], ◌∷◌, ◌++◌}
use Prim.Native.Nat.{ℕ, suc, ◌+◌, ◌≤◌, ◌<◌}
use native.Mathlib.Nat.{zero-add}
use native.Mathlib.Numerals.{add-one}
use native.Mathlib.Omega.{arith}
use lib.ListN.{length, get_or, set, replicate, length-map, get_or-replicate, get_or-map}
use lib.Seq.{get_or-set_same, get_or-set_other}
use Rattle.numbers.specs.Lists.{tabulate}
use Rattle.numbers.proofs.Lists.{length_tabulate, get_or_tabulate, tabulate_same, tabulate_snoc, tabulate_set, tabulate_constant}
use Rattle.stack.specs.Stack.{Pair, pair, p_at, q_at, Channel, channel, no_channel, channel_in, free, Strip, strip, stack}
use Rattle.stack.specs.Value.{tracks, columns, tracks_of, columns_of, free_strip, window_of, strip_of, no_terminals, pair_at, channel_of, strip_at, floor_at, channel_at, stack_of}
use Rattle.stack.specs.Made.{bare}
use Rattle.stack.specs.declared.Tracks.{Tracks}
use Rattle.stack.specs.declared.Columns.{Columns}
use Rattle.stack.specs.declared.Strip.{Strip as StripStruct}
use Rattle.stack.specs.declared.Terminals.{Terminals}
use Rattle.stack.specs.declared.Stack.{Stack as StackStruct}

-- the numbers of separations and of positions, place by place
pub track_at : (ts : List Tracks) (i : ℕ) → get_or (tracks_of ts) i 0 ≡ (get_or ts i (tracks 0)).0
track_at ts i = get_or-map (λ (t : Tracks). t.0) ts i (tracks 0)

pub column_at : (xs : List Columns) (i : ℕ) → get_or (columns_of xs) i 0 ≡ (get_or xs i (columns 0)).0
column_at xs i = get_or-map (λ (x : Columns). x.0) xs i (columns 0)

pub tracks_long : (ts : List Tracks) (m : ℕ) → length ts ≡ m → length (tracks_of ts) ≡ m
tracks_long ts m e = length-map ts (λ (t : Tracks). t.0) ∙ e

pub columns_long : (xs : List Columns) (m : ℕ) → length xs ≡ m → length (columns_of xs) ≡ m
columns_long xs m e = length-map xs (λ (x : Columns). x.0) ∙ e

pub channel_length : (t : Terminals) → length (channel_of t) ≡ t.count
unfolding channel_of
channel_length t = length_tabulate t.count 0 (λ j. pair_at t j)

pub channel_p_at : (t : Terminals) (j : ℕ) → j < t.count → p_at (channel_of t) j ≡ (get_or t.lower j (columns 0)).0
unfolding channel_of p_at pair
channel_p_at t j h = ap (λ (x : Pair). x.p) (get_or_tabulate t.count j (λ j. pair_at t j) (pair 0 0) h)

pub channel_q_at : (t : Terminals) (j : ℕ) → j < t.count → q_at (channel_of t) j ≡ (get_or t.upper j (columns 0)).0
unfolding channel_of q_at pair
channel_q_at t j h = ap (λ (x : Pair). x.q) (get_or_tabulate t.count j (λ j. pair_at t j) (pair 0 0) h)

-- one pair more behind the last
pub channel_longer : (t : Terminals) (p q : ℕ) → t.count < length t.lower → t.count < length t.upper →
    channel_of (record { lower = set t.lower t.count (columns p); upper = set t.upper t.count (columns q); count = t.count + 1 })
    ≡ channel_of t ++ (pair p q ∷ [])
unfolding channel_of
channel_longer t p q hl hu =
    let n = t.count in
    let l = set t.lower n (columns p) in
    let u = set t.upper n (columns q) in
    let f : ℕ → Pair = λ j. pair (get_or l j (columns 0)).0 (get_or u j (columns 0)).0 in
    let same : tabulate n 0 f ≡ tabulate n 0 (λ j. pair_at t j) = tabulate_same n 0 f (λ j. pair_at t j) (λ j a b. agrees j (omega (arith, zero-add n))) in
    let last : f n ≡ pair p q = rw (get_or-set_same t.lower n (columns p) (columns 0) hl, get_or-set_same t.upper n (columns q) (columns 0) hu) in
    rw (add-one n, tabulate_snoc n 0 f, zero-add n, same, last)
  where
    agrees : (j : ℕ) → j < t.count →
        pair (get_or (set t.lower t.count (columns p)) j (columns 0)).0 (get_or (set t.upper t.count (columns q)) j (columns 0)).0 ≡ pair_at t j
    agrees j h =
        rw (get_or-set_other t.lower t.count j (columns p) (columns 0) (omega arith), get_or-set_other t.upper t.count j (columns q) (columns 0) (omega arith))

pub stack_channel : (k : StackStruct) (i : ℕ) → i < k.count → channel_in (stack_of k) i ≡ channel_at k i
unfolding stack_of stack
stack_channel k i h = get_or_tabulate k.count i (λ i. channel_at k i) no_channel h

-- another strip at a place
pub strip_stored : (k : StackStruct) (i : ℕ) (s : StripStruct) → i < length k.strips →
    stack_of (record { count = k.count; strips = set k.strips i s; channels = k.channels; floors = k.floors })
    ≡ stack (set (stack_of k).strips i (strip_of s)) (stack_of k).channels
unfolding stack_of stack
strip_stored k i s h =
    ap (λ (ls : List Strip). stack ls (tabulate k.count 0 (λ i. channel_at k i)))
    (tabulate_set (suc k.count) i (λ j. strip_at k j) (λ j. strip_of (get_or (set k.strips i s) j (free_strip 0))) (strip_of s)
    (ap (λ (x : StripStruct). strip_of x) (get_or-set_same k.strips i s (free_strip 0) h))
    (λ j d. ap (λ (x : StripStruct). strip_of x) (get_or-set_other k.strips i j s (free_strip 0) d)))

-- other terminals in a channel, or another floor
module _ (k : StackStruct) (i : ℕ) (within : i < k.count) where
  restored : (f : ℕ → Channel) (c : Channel) → f i ≡ c → ((j : ℕ) → (j ≡ i → ⊥) → f j ≡ channel_at k j) →
      stack (stack_of k).strips (tabulate k.count 0 f) ≡ stack (stack_of k).strips (set (stack_of k).channels i c)
  unfolding stack_of stack
  restored f c here other = ap (λ (cs : List Channel). stack (stack_of k).strips cs) (tabulate_set k.count i (λ j. channel_at k j) f c here other)

  pub channel_stored : (t : Terminals) → i < length k.channels →
      stack_of (record { count = k.count; strips = k.strips; channels = set k.channels i t; floors = k.floors })
      ≡ stack (stack_of k).strips (set (stack_of k).channels i (channel (channel_of t) (channel_in (stack_of k) i).floor))
  unfolding stack_of stack
  channel_stored t h =
      rw (stack_channel k i within)
      (restored (λ j. channel (channel_of (get_or (set k.channels i t) j no_terminals)) (floor_at k j)) (channel (channel_of t) (floor_at k i))
      (ap (λ (x : Terminals). channel (channel_of x) (floor_at k i)) (get_or-set_same k.channels i t no_terminals h))
      (λ j d. ap (λ (x : Terminals). channel (channel_of x) (floor_at k j)) (get_or-set_other k.channels i j t no_terminals d)))

  pub floor_stored : (t : Tracks) → i < length k.floors →
      stack_of (record { count = k.count; strips = k.strips; channels = k.channels; floors = set k.floors i t })
      ≡ stack (stack_of k).strips (set (stack_of k).channels i (channel (channel_in (stack_of k) i).pairs t.0))
  unfolding stack_of stack
  floor_stored t h =
      rw (stack_channel k i within)
      (restored (λ j. channel (channel_of (get_or k.channels j no_terminals)) (get_or (set k.floors i t) j (tracks 0)).0) (channel (channel_of (get_or k.channels i no_terminals)) t.0)
      (ap (λ (x : Tracks). channel (channel_of (get_or k.channels i no_terminals)) x.0) (get_or-set_same k.floors i t (tracks 0) h))
      (λ j d. ap (λ (x : Tracks). channel (channel_of (get_or k.channels j no_terminals)) x.0) (get_or-set_other k.floors i j t (tracks 0) d)))

-- the shortest strips and channels without pairs
pub bare_stack : (k : ℕ) (t : Terminals) → k ≤ 8 → channel_of t ≡ [] →
    stack_of (record { count = k; strips = replicate 9 (free_strip 1); channels = replicate 8 t; floors = replicate 8 (tracks 0) }) ≡ bare k
unfolding stack_of bare window_of
bare_stack k t h e =
    ap₂ stack
    (tabulate_same (suc k) 0 (λ i. strip_of (get_or (replicate 9 (free_strip 1)) i (free_strip 0))) (λ i. strip 1 free)
    (λ j a b. ap (λ (x : StripStruct). strip_of x) (get_or-replicate 9 j (free_strip 1) (free_strip 0) (omega (arith, zero-add (suc k)))))
    ∙ tabulate_constant (suc k) 0 (strip 1 free))
    (tabulate_same k 0 (λ i. channel (channel_of (get_or (replicate 8 t) i no_terminals)) (get_or (replicate 8 (tracks 0)) i (tracks 0)).0) (λ i. no_channel)
    (λ j a b. ap₂ channel
    (ap (λ (x : Terminals). channel_of x) (get_or-replicate 8 j t no_terminals (omega (arith, zero-add k))) ∙ e)
    (ap (λ (x : Tracks). x.0) (get_or-replicate 8 j (tracks 0) (tracks 0) (omega (arith, zero-add k)))))
    ∙ tabulate_constant k 0 no_channel)
