-- What the constructors of strips, terminals and stacks answer: the value, or the limit of document 01 that the numbers do not keep.
-- Assumes nothing: these are definitions.
use Rattle.std.specs.Prelude.{◌≡◌, Bool, ◌&&◌, cond, Option, None, Some, is_some, IfSome, Result, Ok, Err, IfOk, List, [], ◌∷◌, ◌++◌, ℕ, suc, ◌+◌, ◌*◌, ◌-◌, ◌≤◌, ◌<◌, ltb, leb, length, get_or, set, drop, replicate}
use Rattle.std.specs.Option.{option_or}
use Rattle.std.specs.Result.{result_err}
use Rattle.numbers.specs.Lists.{tabulate}
use Rattle.stack.specs.Stack.{Pair, pair, p_at, q_at, channel, no_channel, channel_in, Window, free, held, Strip, strip, Stack, stack}
use Rattle.stack.specs.Limits.{window_within}
use Rattle.stack.specs.Value.{free_strip, held_strip, channel_of, stack_of}
use Rattle.stack.specs.declared.Strip.{Strip as StripStruct}
use Rattle.stack.specs.declared.StripFault.{StripFault}
use Rattle.stack.specs.declared.StripFault.TheVariants.{Length, Inverted}
use Rattle.stack.specs.declared.TerminalsFault.{TerminalsFault}
use Rattle.stack.specs.declared.TerminalsFault.TheVariants.{Crowd, Overhang, Crossing}
use Rattle.stack.specs.declared.Terminals.{Terminals}
use Rattle.stack.specs.declared.Stack.{Stack as StackStruct}

-- a strip of a length from 1 to 1,000, free or held in a window within the limits; length is tested before the window
unfoldable pub strip_with : (length : ℕ) → Window → StripStruct
strip_with l free = free_strip l
strip_with l (held a e) = held_strip l a e

unfoldable pub strip_made : (length : ℕ) → Window → Result StripStruct StripFault
strip_made l w = cond (leb 1 l && leb l 1000) (cond (window_within w) (Ok (strip_with l w)) (Err Inverted)) (Err Length)

-- a terminal is not above the one before it, where there is one
unfoldable pub not_above : (pairs before x : ℕ) → Bool
not_above n b x = leb 1 n && leb x b

-- the limit that one pair more does not keep, overhang before crossing, p before q, with the terminal's place in p(0), q(0), p(1), q(1), ..
unfoldable pub pair_fault : List Pair → (lower upper p q : ℕ) → Option TerminalsFault
pair_fault c lo hi p q =
    let n = length c in
    cond (leb 32 n) (Some Crowd)
    (cond (ltb lo p) (Some (Overhang (2 * n)))
    (cond (not_above n (p_at c (n - 1)) p) (Some (Crossing (2 * n)))
    (cond (ltb hi q) (Some (Overhang (2 * n + 1)))
    (cond (not_above n (q_at c (n - 1)) q) (Some (Crossing (2 * n + 1))) None))))

-- the first fault of further pairs
unfoldable pub pairs_fault : (before : List Pair) → (lower upper : ℕ) → List Pair → Option TerminalsFault
pairs_fault c lo hi [] = None
pairs_fault c lo hi (x ∷ xs) = option_or (pair_fault c lo hi x.p x.q) (pairs_fault (c ++ (x ∷ [])) lo hi xs)

-- crowd first, then the terminals from left to right
unfoldable pub terminals_fault : (lower upper : ℕ) → List Pair → Option TerminalsFault
terminals_fault lo hi xs = cond (ltb 32 (length xs)) (Some Crowd) (pairs_fault [] lo hi xs)

-- the pairs whose terminals stand in the order p(0), q(0), p(1), q(1), ..
unfoldable pub pairs_in : List ℕ → (pairs : ℕ) → List Pair
pairs_in xs n = tabulate n 0 (λ j. pair (get_or xs (2 * j) 0) (get_or xs (2 * j + 1) 0))

-- while terminals are made: the first j pairs stand, and the first fault, if there is one, is among the pairs behind them
pub record Making (xs : List ℕ) (n lower upper : ℕ) (t : Terminals) (j : ℕ) : Type 0 where
  pub below : j ≤ n
  pub stand : channel_of t ≡ pairs_in xs j
  pub rest : pairs_fault [] lower upper (pairs_in xs n) ≡ pairs_fault (channel_of t) lower upper (drop j (pairs_in xs n))

-- the first fault, or where there is none these pairs
pub record IsTerminalsMade (xs : List ℕ) (n lower upper : ℕ) (r : Result Terminals TerminalsFault) : Type 0 where
  pub fault : result_err r ≡ terminals_fault lower upper (pairs_in xs n)
  pub pairs : IfOk r (λ t. channel_of t ≡ pairs_in xs n)

-- the shortest strips, and channels without pairs
unfoldable pub bare : (k : ℕ) → Stack
bare k = stack (replicate (suc k) (strip 1 free)) (replicate k no_channel)

-- k channels from 1 to 8
pub record IsStackMade (k : ℕ) (r : Option StackStruct) : Type 0 where
  pub found : is_some r ≡ (leb 1 k && leb k 8)
  pub count : IfSome r (λ s. s.count ≡ k)
  pub bare : IfSome r (λ s. stack_of s ≡ bare k)

pub record StripSet (k : StackStruct) (i : ℕ) (l : Strip) (r : StackStruct) : Type 0 where
  pub count : r.count ≡ k.count
  pub value : stack_of r ≡ stack (set (stack_of k).strips i l) (stack_of k).channels

-- other pairs, or another floor, in a channel
pub record ChannelSet (k : StackStruct) (i : ℕ) (ps : List Pair) (r : StackStruct) : Type 0 where
  pub count : r.count ≡ k.count
  pub value : stack_of r ≡ stack (stack_of k).strips (set (stack_of k).channels i (channel ps (channel_in (stack_of k) i).floor))

pub record FloorSet (k : StackStruct) (i f : ℕ) (r : StackStruct) : Type 0 where
  pub count : r.count ≡ k.count
  pub value : stack_of r ≡ stack (stack_of k).strips (set (stack_of k).channels i (channel (channel_in (stack_of k) i).pairs f))

-- a strip's number below 2^33
pub record NumberOf (x r : ℕ) : Type 0 where
  pub is : r ≡ x
  pub small : r < 8589934592
