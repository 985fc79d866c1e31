-- What the constructors find: the tests that the code makes are those of pair_fault, and pairs in which no fault is found keep document 01's limits.
-- Assumes nothing.
use mathlib.Core.Path.{◌≡◌, refl, ap, sym, ◌∙◌}
use mathlib.Core.Bool.{Bool, true, false, cond}
use mathlib.Core.List.{List, [], ◌∷◌, ◌++◌}
use Prim.Native.Nat.{ℕ, zero, suc, ◌+◌, ◌*◌, ◌-◌, ◌/◌, ◌≤◌, ◌<◌}
use native.Mathlib.Nat.{zero-add, zero-mul, suc-mul}
use native.Mathlib.Numerals.{add-one}
use native.Mathlib.Omega.{arith}
use lib.Dec.{ltb, leb}
use lib.ListN.{length, get_or, take, drop, drop_of_length-le}
use lib.Seq.{drop-cons}
use Rattle.std.proofs.lemmas.List.{drop-drop, length-take, get_or-take, get_or-drop}
use borrow.Author.Tests.{ltb-false, lt-ltb, le-ltb, le-leb}
use Rattle.std.specs.Prelude.{Option, None, Some, Ok, Err}
use Rattle.std.specs.Option.{option_or}
use Rattle.std.specs.Simd.{first_chunks}
use Rattle.numbers.specs.Lists.{tabulate}
use Rattle.numbers.proofs.Lists.{length_tabulate, get_or_tabulate, tabulate_snoc}
use Rattle.stack.specs.Stack.{Pair, pair, p_at, q_at}
use Rattle.stack.specs.Limits.{on_strips}
use Rattle.stack.specs.Value.{columns, channel_of}
use Rattle.stack.specs.Made.{not_above, pair_fault, pairs_fault, terminals_fault, pairs_in, Making, IsTerminalsMade}
use Rattle.stack.specs.declared.Terminals.{Terminals}
use Rattle.stack.specs.declared.TerminalsFault.{TerminalsFault}
use Rattle.stack.specs.declared.TerminalsFault.TheVariants.{Crowd, Overhang, Crossing}
use Rattle.stack.proofs.Values.{channel_length, channel_p_at, channel_q_at}

-- the terminal before is read only where there is one
not_above_by : (n a b x : ℕ) → (0 < n → a ≡ b) → not_above n a x ≡ not_above n b x
unfolding not_above
not_above_by zero a b x h = refl
not_above_by (suc n) a b x h = rw (h (omega arith))

-- the tests of pair_fault on a channel's places
pub fault_in_places : (t : Terminals) (lo hi p q : ℕ) →
    let n = t.count in
    pair_fault (channel_of t) lo hi p q
    ≡ cond (leb 32 n) (Some Crowd)
    (cond (ltb lo p) (Some (Overhang (2 * n)))
    (cond (not_above n (get_or t.lower (n - 1) (columns 0)).0 p) (Some (Crossing (2 * n)))
    (cond (ltb hi q) (Some (Overhang (2 * n + 1)))
    (cond (not_above n (get_or t.upper (n - 1) (columns 0)).0 q) (Some (Crossing (2 * n + 1))) None))))
unfolding pair_fault
fault_in_places t lo hi p q =
    let n = t.count in
    rw (
      channel_length t,
      not_above_by n (p_at (channel_of t) (n - 1)) (get_or t.lower (n - 1) (columns 0)).0 p (λ h. channel_p_at t (n - 1) (omega arith)),
      not_above_by n (q_at (channel_of t) (n - 1)) (get_or t.upper (n - 1) (columns 0)).0 q (λ h. channel_q_at t (n - 1) (omega arith)),
    )

pairs_in_more : (xs : List ℕ) (j : ℕ) → pairs_in xs (j + 1) ≡ pairs_in xs j ++ (pair (get_or xs (2 * j) 0) (get_or xs (2 * j + 1) 0) ∷ [])
unfolding pairs_in
pairs_in_more xs j =
    let f : ℕ → Pair = λ j. pair (get_or xs (2 * j) 0) (get_or xs (2 * j + 1) 0) in rw (add-one j, tabulate_snoc j 0 f, zero-add j)

pub pairs_in_length : (xs : List ℕ) (n : ℕ) → length (pairs_in xs n) ≡ n
unfolding pairs_in
pairs_in_length xs n = length_tabulate n 0 (λ j. pair (get_or xs (2 * j) 0) (get_or xs (2 * j + 1) 0))

-- std's chunks of two are the pairs
chunk_at : (n k i : ℕ) (xs : List ℕ) (d : List ℕ) → i < k → get_or (first_chunks n k xs) i d ≡ take n (drop (i * n) xs)
chunk_at n zero i xs d h = absurd (omega arith)
chunk_at n (suc k) zero xs d h = rw zero-mul
chunk_at n (suc k) (suc i) xs d h =
    let e : n + i * n ≡ suc i * n = rw suc-mul (omega arith) in
    chunk_at n k i (drop n xs) d (omega arith) ∙ ap (take n) (drop-drop (i * n) n xs ∙ rw e)

module _ (xs : List ℕ) (n j : ℕ) (cs : List (List ℕ)) (long : length xs ≡ 64) (is : cs ≡ first_chunks 2 (length xs / 2) xs) (few : n ≤ 32) (more : j < length (take n cs)) where
  pub chunk_less : j < n
  chunk_less = omega (arith, more, length-take n cs)

  chunk_places : (i : ℕ) → i < 2 → get_or (get_or (take n cs) j []) i 0 ≡ get_or xs (j * 2 + i) 0
  chunk_places i h =
      rw (get_or-take n cs j [] chunk_less, is, long, chunk_at 2 32 j xs [] (omega (arith, chunk_less)), get_or-take 2 (drop (j * 2) xs) i 0 h, get_or-drop (j * 2) xs i 0)

  pub chunk_p : get_or (get_or (take n cs) j []) 0 0 ≡ get_or xs (2 * j) 0
  chunk_p = let place : j * 2 + 0 ≡ 2 * j = omega arith in rw (← place) (chunk_places 0 (omega arith))

  pub chunk_q : get_or (get_or (take n cs) j []) 1 0 ≡ get_or xs (2 * j + 1) 0
  chunk_q = let place : j * 2 + 1 ≡ 2 * j + 1 = omega arith in rw (← place) (chunk_places 1 (omega arith))

pairs_in_rest : (xs : List ℕ) (n j : ℕ) → j < n →
    drop j (pairs_in xs n) ≡ pair (get_or xs (2 * j) 0) (get_or xs (2 * j + 1) 0) ∷ drop (j + 1) (pairs_in xs n)
unfolding pairs_in
pairs_in_rest xs n j h =
    let f : ℕ → Pair = λ j. pair (get_or xs (2 * j) 0) (get_or xs (2 * j + 1) 0) in
    rw (drop-cons (tabulate n 0 f) j (pair 0 0) (omega (arith, length_tabulate n 0 f)), get_or_tabulate n j f (pair 0 0) h, add-one j)

pub making_starts : (xs : List ℕ) (n lo hi : ℕ) (t : Terminals) → channel_of t ≡ [] → Making xs n lo hi t 0
unfolding pairs_in tabulate
making_starts xs n lo hi t e = record { below = omega arith; stand = e; rest = rw e }

-- the pair at j, and what is found of the pairs from it on
module _ (xs : List ℕ) (n lo hi : ℕ) (t : Terminals) (j : ℕ) (less : j < n) (m : Making xs n lo hi t j) where
  here : Pair
  here = pair (get_or xs (2 * j) 0) (get_or xs (2 * j + 1) 0)

  from_here : pairs_fault [] lo hi (pairs_in xs n) ≡ option_or (pair_fault (channel_of t) lo hi (get_or xs (2 * j) 0) (get_or xs (2 * j + 1) 0)) (pairs_fault (channel_of t ++ (here ∷ [])) lo hi (drop (j + 1) (pairs_in xs n)))
  unfolding pairs_fault pair here
  from_here = rw (m.rest, pairs_in_rest xs n j less)

  pub making_steps : (t' : Terminals) → pair_fault (channel_of t) lo hi (get_or xs (2 * j) 0) (get_or xs (2 * j + 1) 0) ≡ None →
      channel_of t' ≡ channel_of t ++ (pair (get_or xs (2 * j) 0) (get_or xs (2 * j + 1) 0) ∷ []) → Making xs n lo hi t' (j + 1)
  unfolding here
  making_steps t' good longer =
      record {
        below = omega arith;
        stand = longer ∙ rw (m.stand, pairs_in_more xs j);
        rest = from_here ∙ rw (good, longer);
      }

  pub making_refuses : (f : TerminalsFault) → n ≤ 32 → pair_fault (channel_of t) lo hi (get_or xs (2 * j) 0) (get_or xs (2 * j + 1) 0) ≡ Some f → IsTerminalsMade xs n lo hi (Err f)
  unfolding terminals_fault
  making_refuses f few bad = record {
    fault = sym (rw (pairs_in_length xs n, le-ltb 32 n few, from_here, bad));
    pairs = tt;
  }

pub making_ends : (xs : List ℕ) (n lo hi : ℕ) (t : Terminals) (j : ℕ) → n ≤ 32 → n ≤ j → Making xs n lo hi t j → IsTerminalsMade xs n lo hi (Ok t)
unfolding terminals_fault pairs_fault
making_ends xs n lo hi t j few past m =
    let e : j ≡ n = omega (arith, m.below) in
    let gone : drop j (pairs_in xs n) ≡ [] = drop_of_length-le (pairs_in xs n) {i = j} (omega (arith, pairs_in_length xs n)) in
    record {
      fault = sym (rw (pairs_in_length xs n, le-ltb 32 n few, m.rest, gone));
      pairs = m.stand ∙ rw e;
    }

pub making_crowded : (xs : List ℕ) (n lo hi : ℕ) → 32 < n → IsTerminalsMade xs n lo hi (Err Crowd)
unfolding terminals_fault
making_crowded xs n lo hi h = record { fault = rw (pairs_in_length xs n, lt-ltb 32 n h); pairs = tt }

pub ruleset making = (making_crowded, making_steps, making_refuses, making_ends)

-- where no fault is found, none is found by a test or behind it
test_passed : (b : Bool) (f : TerminalsFault) (r : Option TerminalsFault) → cond b (Some f) r ≡ None → (b ≡ false) × (r ≡ None)
test_passed true f r e = cc
test_passed false f r e = (refl, e)

both_good : (f r : Option TerminalsFault) → option_or f r ≡ None → (f ≡ None) × (r ≡ None)
both_good None r e = (refl, e)
both_good (Some f) r e = cc

-- terminals that are made are no more than 32 pairs
pub made_few : (xs : List ℕ) (n lo hi : ℕ) (t : Terminals) → IsTerminalsMade xs n lo hi (Ok t) → t.count ≤ 32
unfolding terminals_fault
made_few xs n lo hi t m =
    let few = (test_passed (ltb 32 (length (pairs_in xs n))) Crowd _ (sym m.fault)).0 in
    omega (arith, channel_length t, ap length m.pairs, ltb-false 32 (length (pairs_in xs n)) few)

pair_on_strips : (c : List Pair) (lo hi p q : ℕ) → pair_fault c lo hi p q ≡ None → (p ≤ lo) × (q ≤ hi)
unfolding pair_fault
pair_on_strips c lo hi p q e =
    let n = length c in
    let room = test_passed (leb 32 n) Crowd _ e in
    let p_on = test_passed (ltb lo p) (Overhang (2 * n)) _ room.1 in
    let p_above = test_passed (not_above n (p_at c (n - 1)) p) (Crossing (2 * n)) _ p_on.1 in
    let q_on = test_passed (ltb hi q) (Overhang (2 * n + 1)) _ p_above.1 in
    (ltb-false lo p p_on.0, ltb-false hi q q_on.0)

pairs_on_strips : (c : List Pair) (lo hi : ℕ) (xs : List Pair) → pairs_fault c lo hi xs ≡ None → on_strips lo hi xs ≡ true
unfolding pairs_fault on_strips
pairs_on_strips c lo hi [] e = refl
pairs_on_strips c lo hi (x ∷ xs) e =
    let good = both_good (pair_fault c lo hi x.p x.q) (pairs_fault (c ++ (x ∷ [])) lo hi xs) e in
    let on = pair_on_strips c lo hi x.p x.q good.0 in
    rw (le-leb x.p lo on.0, le-leb x.q hi on.1) (pairs_on_strips (c ++ (x ∷ [])) lo hi xs good.1)

-- terminals that are made lie on their strips
pub made_on_strips : (xs : List ℕ) (n lo hi : ℕ) (t : Terminals) → IsTerminalsMade xs n lo hi (Ok t) → on_strips lo hi (channel_of t) ≡ true
unfolding terminals_fault
made_on_strips xs n lo hi t m =
    rw (m.pairs) (pairs_on_strips [] lo hi (pairs_in xs n) (test_passed (ltb 32 (length (pairs_in xs n))) Crowd _ (sym m.fault)).1)
