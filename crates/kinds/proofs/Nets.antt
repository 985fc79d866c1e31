-- NETS: the first fault that the constructor of terminals finds is document 01's refusal of the line, place n in p(0), q(0), p(1), q(1), .. being field n + 2.
-- By induction on the pairs, with the pairs before them as the constructor keeps them. Assumes nothing.
use mathlib.Core.Path.{◌≡◌, refl, ap, sym, ◌∙◌}
use mathlib.Core.Bool.{Bool, true, false, ◌&&◌, not, cond}
use mathlib.Core.List.{List, [], ◌∷◌, ◌++◌}
use Prim.Native.Nat.{ℕ, zero, suc, ◌+◌, ◌*◌, ◌-◌, ◌/◌, ◌%◌, ◌≤◌, ◌<◌}
use native.Mathlib.Numerals.{add-one}
use native.Mathlib.Omega.{arith}
use lib.Dec.{ltb, leb, eqb}
use lib.ListN.{length, get_or, length-append}
use lib.Seq.{ext_get_or, get_or-append_seam}
use borrow.Author.Tests.{leb-false, lt-ltb, le-ltb, ltb-true, ltb-false, eqb-true, le-leb, lt-leb, ne_eqb}
use Rattle.std.specs.Prelude.{Option, None, Some, IfSome, Result, Ok, Err}
use Rattle.std.specs.Option.{option_or}
use Rattle.numbers.proofs.Lists.{get_or_tabulate}
use Rattle.lines.specs.Lines.{Line, numbers_of}
use Rattle.lines.proofs.Fields.{getD_in_places}
use Rattle.stack.specs.Stack.{Pair, pair, p_at, q_at}
use Rattle.stack.specs.Made.{not_above, pair_fault, pairs_fault, terminals_fault, pairs_in, IsTerminalsMade}
use Rattle.stack.proofs.Values.{channel_length}
use Rattle.stack.proofs.Found.{pairs_in_length, made_few}
use Rattle.stack.specs.declared.Terminals.{Terminals}
use Rattle.stack.specs.declared.TerminalsFault.{TerminalsFault}
use Rattle.stack.specs.declared.TerminalsFault.TheVariants.{Crowd, Overhang, Crossing}
use Rattle.text.specs.Text.{Refusal, refusal, fine, nets_word, entry, fault_at, kind, in_pairs, terminals_refusal, nets_content, nets_kind, pairs_of}
use Rattle.text.specs.Outcome.{number_of}
use Rattle.text.specs.Kinds.{IsKindRead}
use Rattle.text.specs.declared.Refused.{Refused}
use Rattle.kinds.specs.Readers.{place, terminals_refused, Kept, NetsContent, IsNetsRead}
use Rattle.text.proofs.Layouts.{layout_refused, layout_then}

-- THE PLACE of a fault is below 64
abbrev Small : Option TerminalsFault → Type 0
Small o = IfSome o (λ f. place f < 64)

module _ (c : List Pair) (lo hi p q : ℕ) where
  place_cases : (a b d e f : Bool) → leb 32 (length c) ≡ a →
      let n = length c in
      Small (cond a (Some Crowd) (cond b (Some (Overhang (2 * n))) (cond d (Some (Crossing (2 * n))) (cond e (Some (Overhang (2 * n + 1))) (cond f (Some (Crossing (2 * n + 1))) None)))))
  place_cases true b d e f h = omega arith
  place_cases false true d e f h = omega (arith, leb-false)
  place_cases false false true e f h = omega (arith, leb-false)
  place_cases false false false true f h = omega (arith, leb-false)
  place_cases false false false false true h = omega (arith, leb-false)
  place_cases false false false false false h = tt

  place_pair : Small (pair_fault c lo hi p q)
  unfolding pair_fault
  place_pair =
      let n = length c in
      place_cases (leb 32 n) (ltb lo p) (not_above n (p_at c (n - 1)) p) (ltb hi q) (not_above n (q_at c (n - 1)) q) refl

place_or : (f g : Option TerminalsFault) → Small f → Small g → Small (option_or f g)
place_or None g a b = b
place_or (Some f) g a b = a

place_pairs : (c : List Pair) (lo hi : ℕ) (xs : List Pair) → Small (pairs_fault c lo hi xs)
unfolding pairs_fault
place_pairs c lo hi [] = tt
place_pairs c lo hi (x ∷ xs) = place_or (pair_fault c lo hi x.p x.q) _ (place_pair c lo hi x.p x.q) (place_pairs (c ++ (x ∷ [])) lo hi xs)

place_found : (lo hi : ℕ) (xs : List Pair) → Small (terminals_fault lo hi xs)
unfolding terminals_fault
place_found lo hi xs = go (ltb 32 (length xs))
  where
    go : (v : Bool) → Small (cond v (Some Crowd) (pairs_fault [] lo hi xs))
    go true = omega arith
    go false = place_pairs [] lo hi xs

pub fault_small : (xs : List ℕ) (n lo hi : ℕ) (f : TerminalsFault) → IsTerminalsMade xs n lo hi (Err f) → place f < 64
fault_small xs n lo hi f m = rw (← m.fault) at (place_found lo hi (pairs_in xs n))

-- THE REFUSAL of line n for the first fault, if there is one
abbrev fault_refusal : (n : ℕ) → Option TerminalsFault → Refusal
fault_refusal n None = fine
fault_refusal n (Some f) = refusal (number_of (terminals_refused n f).why) n (terminals_refused n f).field

same_refusal : (n : ℕ) (f : TerminalsFault) → refusal (number_of (terminals_refused n f).why) (terminals_refused n f).line (terminals_refused n f).field ≡ fault_refusal n (Some f)
same_refusal n Crowd = refl
same_refusal n (Overhang i) = refl
same_refusal n (Crossing i) = refl

-- THE FIRST FAULT
some_before : (n : ℕ) → leb 1 n ≡ not (eqb n 0)
some_before zero = refl
some_before (suc n) = rw (le-leb 1 (suc n) (omega arith), ne_eqb (suc n) 0 (omega arith))

step_cases : (i n : ℕ) (a b c d : Bool) (f : Option TerminalsFault) (r : Refusal) → fault_refusal i f ≡ r →
    fault_refusal i (option_or (cond a (Some (Overhang (2 * n))) (cond b (Some (Crossing (2 * n))) (cond c (Some (Overhang (2 * n + 1))) (cond d (Some (Crossing (2 * n + 1))) None)))) f)
    ≡ cond a (refusal 5 i (2 * n + 2)) (cond b (refusal 6 i (2 * n + 2))
    (cond c (refusal 5 i (suc (2 * n + 2))) (cond d (refusal 6 i (suc (2 * n + 2))) r)))
step_cases i n true b c d f r e = refl
step_cases i n false true c d f r e = refl
step_cases i n false false true d f r e = ap (λ k. refusal 5 i k) (omega arith)
step_cases i n false false false true f r e = ap (λ k. refusal 6 i k) (omega arith)
step_cases i n false false false false f r e = e

pair_tests : (c : List Pair) (lo hi p q : ℕ) → length c < 32 →
    let n = length c in
    pair_fault c lo hi p q
    ≡ cond (ltb lo p) (Some (Overhang (2 * n))) (cond (not (eqb n 0) && leb p (p_at c (n - 1))) (Some (Crossing (2 * n)))
    (cond (ltb hi q) (Some (Overhang (2 * n + 1))) (cond (not (eqb n 0) && leb q (q_at c (n - 1))) (Some (Crossing (2 * n + 1))) None)))
unfolding pair_fault not_above
pair_tests c lo hi p q h = rw (lt-leb 32 (length c) h, some_before (length c))

last_p : (c : List Pair) (x y : ℕ) → p_at (c ++ (pair x y ∷ [])) (length c) ≡ x
unfolding p_at pair
last_p c x y = ap (λ (z : Pair). z.p) (get_or-append_seam c (pair x y) [] (pair 0 0))

last_q : (c : List Pair) (x y : ℕ) → q_at (c ++ (pair x y ∷ [])) (length c) ≡ y
unfolding q_at pair
last_q c x y = ap (λ (z : Pair). z.q) (get_or-append_seam c (pair x y) [] (pair 0 0))

-- what is before the pairs that follow
behind : (c : List Pair) (x y lo hi n : ℕ) (vs : List ℕ) →
    let d = c ++ (pair x y ∷ []) in
    terminals_refusal (2 * length d + 2) (eqb (length d) 0) (p_at d (length d - 1)) (q_at d (length d - 1)) lo hi n vs
    ≡ terminals_refusal (2 * length c + 2 + 2) false x y lo hi n vs
behind c x y lo hi n vs =
    let long : length (c ++ (pair x y ∷ [])) ≡ suc (length c) = length-append c (pair x y ∷ []) ∙ add-one (length c) in
    let field : 2 * suc (length c) + 2 ≡ 2 * length c + 2 + 2 = omega arith in
    let last : suc (length c) - 1 ≡ length c = omega arith in
    rw (long, field, ne_eqb (suc (length c)) 0 (omega arith), last, last_p c x y, last_q c x y)

faults_refused : (i : ℕ) (c : List Pair) (lo hi : ℕ) (vs : List ℕ) → length c + length (pairs_of vs) ≤ 32 →
    fault_refusal i (pairs_fault c lo hi (pairs_of vs))
    ≡ terminals_refusal (2 * length c + 2) (eqb (length c) 0) (p_at c (length c - 1)) (q_at c (length c - 1)) lo hi i vs
unfolding pairs_fault pairs_of terminals_refusal pair
faults_refused i c lo hi [] h = refl
faults_refused i c lo hi (x ∷ []) h = refl
faults_refused i c lo hi (x ∷ y ∷ vs) h =
    let d = c ++ (pair x y ∷ []) in
    let rest = faults_refused i d lo hi vs (omega (arith, length-append c (pair x y ∷ []))) ∙ behind c x y lo hi i vs in
    let n = length c in
    let left = not (eqb n 0) && leb x (p_at c (n - 1)) in
    let right = not (eqb n 0) && leb y (q_at c (n - 1)) in
    rw (pair_tests c lo hi x y (omega arith)) (step_cases i n (ltb lo x) left (ltb hi y) right (pairs_fault d lo hi (pairs_of vs)) _ rest)

-- THE PAIRS of a line's numbers
pub pairs_length : (vs : List ℕ) → length (pairs_of vs) ≡ length vs / 2
unfolding pairs_of
pairs_length [] = refl
pairs_length (x ∷ []) = refl
pairs_length (x ∷ y ∷ vs) = omega (arith, pairs_length vs)

pairs_at : (vs : List ℕ) (j : ℕ) → j < length vs / 2 → get_or (pairs_of vs) j (pair 0 0) ≡ pair (get_or vs (2 * j) 0) (get_or vs (2 * j + 1) 0)
unfolding pairs_of
pairs_at [] j h = absurd (omega arith)
pairs_at (x ∷ []) j h = absurd (omega arith)
pairs_at (x ∷ y ∷ vs) zero h = refl
pairs_at (x ∷ y ∷ vs) (suc j) h =
    let even : 2 * suc j ≡ suc (suc (2 * j)) = omega arith in
    let odd : 2 * suc j + 1 ≡ suc (suc (2 * j + 1)) = omega arith in
    rw (odd, even) (pairs_at vs j (omega arith))

-- the first 64 numbers hold 32 pairs
module _ (vs places : List ℕ) (same : (i : ℕ) → i < 64 → i < length vs → get_or places i 0 ≡ get_or vs i 0) (few : length vs / 2 ≤ 32) where
  pair_in_places : (j : ℕ) → j < length vs / 2 → get_or (pairs_in places (length vs / 2)) j (pair 0 0) ≡ get_or (pairs_of vs) j (pair 0 0)
  unfolding pairs_in
  pair_in_places j h =
      let f : ℕ → Pair = λ j. pair (get_or places (2 * j) 0) (get_or places (2 * j + 1) 0) in
      get_or_tabulate (length vs / 2) j f (pair 0 0) h
      ∙ rw (same (2 * j) (omega arith) (omega arith), same (2 * j + 1) (omega arith) (omega arith)) (sym (pairs_at vs j h))

  pairs_in_places : pairs_in places (length vs / 2) ≡ pairs_of vs
  pairs_in_places =
      let n = length vs / 2 in
      let long = pairs_in_length places n in
      ext_get_or (pair 0 0) (pairs_in places n) (pairs_of vs) (long ∙ sym (pairs_length vs)) (λ j h. pair_in_places j (omega arith))

-- crowd, then the terminals
terminals_refused_as : (n lo hi : ℕ) (vs places : List ℕ) → ((i : ℕ) → i < 64 → i < length vs → get_or places i 0 ≡ get_or vs i 0) → length vs % 2 ≡ 0 →
    fault_refusal n (terminals_fault lo hi (pairs_in places (length vs / 2))) ≡ nets_content lo hi (entry n 0 vs)
unfolding terminals_fault nets_content entry fault_at p_at q_at pair
terminals_refused_as n lo hi vs places same even = go (ltb 64 (length vs)) refl
  where
    long : length (pairs_in places (length vs / 2)) ≡ length vs / 2
    long = pairs_in_length places (length vs / 2)

    go : (v : Bool) → ltb 64 (length vs) ≡ v →
        fault_refusal n (cond (ltb 32 (length (pairs_in places (length vs / 2)))) (Some Crowd) (pairs_fault [] lo hi (pairs_in places (length vs / 2))))
        ≡ cond v (refusal 3 n 66) (terminals_refusal 2 true 0 0 lo hi n vs)
    go true h = rw (long, lt-ltb 32 (length vs / 2) (omega (arith, ltb-true)))
    go false h =
        let few : length vs / 2 ≤ 32 = omega (arith, ltb-false) in
        rw (long, le-ltb 32 (length vs / 2) few, pairs_in_places vs places same few) (faults_refused n [] lo hi vs (omega (arith, pairs_length vs)))

pub pairs_even : (n : ℕ) → in_pairs n ≡ 0 → n % 2 ≡ 0
unfolding in_pairs
pairs_even n h = go (eqb (n % 2) 0) refl h
  where
    go : (v : Bool) → eqb (n % 2) 0 ≡ v → cond v 0 (n + 2) ≡ 0 → n % 2 ≡ 0
    go true e h = eqb-true (n % 2) 0 e
    go false e h = absurd (omega arith)

-- THE NUMBERS that a line supplies
module _ (lo hi n : ℕ) (vs places : List ℕ) (count : ℕ) (m : Kept vs places count) where
  told : (o : Option TerminalsFault) → o ≡ terminals_fault lo hi (pairs_in places (count / 2)) → fault_refusal n o ≡ nets_content lo hi (entry n 0 vs)
  told o e = rw (e, m.count_is) (terminals_refused_as n lo hi vs places m.in_place m.even)

  pub numbers_made : (t : Terminals) → IsTerminalsMade places (count / 2) lo hi (Ok t) → NetsContent lo hi n vs (Ok t)
  numbers_made t s =
      let few : length vs / 2 ≤ 32 = omega (arith, made_few places (count / 2) lo hi t s, channel_length t, ap length s.pairs, pairs_in_length places (count / 2), m.count_is) in
      record {
        outcome = told None s.fault;
        pairs = s.pairs ∙ rw (m.count_is) (pairs_in_places vs places m.in_place few);
      }

  pub numbers_refused : (f : TerminalsFault) → IsTerminalsMade places (count / 2) lo hi (Err f) → NetsContent lo hi n vs (Err (terminals_refused n f))
  numbers_refused f s = record { outcome = same_refusal n f ∙ told (Some f) s.fault; pairs = tt }

-- THE LINE
module _ (lo hi n : ℕ) (l : Line) (vs : List ℕ) where
  pub nets_ill : (x : Refused) → IsKindRead nets_word (λ n. in_pairs n) n l (Err x) vs → IsNetsRead lo hi n l (Err x)
  unfolding nets_kind kind
  nets_ill x m = record { outcome = layout_refused (nets_kind lo hi) n l vs x m; pairs = tt }

  module _ (count : ℕ) (m : IsKindRead nets_word (λ n. in_pairs n) n l (Ok count) vs) where
    pub line_kept : Kept (numbers_of l) vs count
    line_kept = record { in_place = λ i h k. rw m.kept (getD_in_places 64 i (numbers_of l) h); count_is = m.count; even = rw m.count at (pairs_even count m.fault) }

    pub nets_found : (q : Result Terminals Refused) → NetsContent lo hi n (numbers_of l) q → IsNetsRead lo hi n l q
    unfolding nets_kind kind
    nets_found q s = record { outcome = s.outcome ∙ sym (layout_then (nets_kind lo hi) n l vs count m); pairs = s.pairs }
