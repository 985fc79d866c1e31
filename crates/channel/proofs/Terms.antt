-- The greatest and the least of 32 terms on 16 bits are a channel's limits: behind the last pair the terminals are such that a term past the last is never the
-- greatest or the least, and from the first term on the bias can be exchanged. By induction on the terms. Assumes nothing.
use mathlib.Core.Path.{◌≡◌, refl, ap, ◌∙◌}
use mathlib.Core.Bool.{true}
use mathlib.Core.List.{List}
use Prim.Native.Nat.{ℕ, zero, suc, ◌+◌, ◌*◌, ◌-◌, ◌≤◌, ◌<◌, min, max}
use native.Mathlib.Decide.{dec_lt}
use native.Mathlib.Numerals.{add-one}
use native.Mathlib.Omega.{arith}
use lib.ListN.{length, get_or}
use Rattle.numbers.proofs.Lists.{get_or_tabulate, filled_first, filled_rest}
use Rattle.stack.specs.Stack.{Pair, pair, p_at, q_at}
use Rattle.stack.specs.Limits.{on_strips}
use Rattle.stack.specs.Value.{columns, channel_of}
use Rattle.stack.specs.declared.Terminals.{Terminals}
use Rattle.stack.specs.declared.Columns.{Columns}
use Rattle.stack.proofs.OnStrips.{terminals_on}
use Rattle.stack.proofs.Values.{channel_length, channel_p_at, channel_q_at}
use Rattle.limits.specs.Limits.{low_term, high_term, greatest, least, low_limit, high_limit}
use Rattle.channel.specs.Seeking.{bias, term_bias, raised, places_held, AtMost, narrowed, paired, Padded}

pub paired_p : (ps qs : List ℕ) (j : ℕ) → j < places_held → p_at (paired ps qs) j ≡ get_or ps j 0
unfolding paired p_at pair
paired_p ps qs j h = ap (λ (x : Pair). x.p) (get_or_tabulate places_held j (λ j. pair (get_or ps j 0) (get_or qs j 0)) (pair 0 0) h)

pub paired_q : (ps qs : List ℕ) (j : ℕ) → j < places_held → q_at (paired ps qs) j ≡ get_or qs j 0
unfolding paired q_at pair
paired_q ps qs j h = ap (λ (x : Pair). x.q) (get_or_tabulate places_held j (λ j. pair (get_or ps j 0) (get_or qs j 0)) (pair 0 0) h)

-- one term more
pub greatest_steps : (ps qs : List ℕ) (t i most most' : ℕ) → i < 32 → t ≤ 32 → most ≡ greatest term_bias (paired ps qs) t i →
    most' ≡ max most (term_bias + get_or ps i 0 + t - get_or qs (i + t) 0) → most' ≡ greatest term_bias (paired ps qs) t (i + 1)
unfolding greatest low_term
greatest_steps ps qs t i most most' h k e f = f ∙ rw (e, add-one i, paired_p ps qs i (omega arith), paired_q ps qs (i + t) (omega arith))

-- with the edges exchanged each greatest term is what the least leaves of twice the bias, and the greatest of them too
module _ (ps qs : List ℕ) (t : ℕ) (k : t ≤ 32) (p : AtMost term_bias places_held (λ j. get_or ps j 0)) (q : AtMost 1000 places_held (λ j. get_or qs j 0)) where
  term_left : (i : ℕ) → i < 32 →
      (2 * term_bias - low_term term_bias (paired qs ps) t i ≡ high_term term_bias (paired ps qs) t i)
      × (low_term term_bias (paired qs ps) t i ≤ 2 * term_bias)
  unfolding low_term high_term
  term_left i h =
      rw (paired_p qs ps i (omega arith), paired_q qs ps (i + t) (omega arith), paired_p ps qs (i + t) (omega arith), paired_q ps qs i (omega arith))
      (omega (arith, p.each (i + t) (omega arith), q.each i (omega arith)), omega (arith, q.each i (omega arith)))

  terms_left : (n : ℕ) → n ≤ 32 →
      (2 * term_bias - greatest term_bias (paired qs ps) t n ≡ least term_bias (paired ps qs) t n)
      × (greatest term_bias (paired qs ps) t n ≤ 2 * term_bias)
  unfolding greatest least
  terms_left zero h = (refl, omega arith)
  terms_left (suc n) h = (omega (arith, term_left n h, terms_left n (omega arith)), omega (arith, term_left n h, terms_left n (omega arith)))

  module _ (most : ℕ) (e : most ≡ greatest term_bias (paired qs ps) t 32) where
    pub least_left : 2 * term_bias - most ≡ least term_bias (paired ps qs) t 32
    least_left = rw e (terms_left 32 (omega arith)).0

    pub most_small : most ≤ 2 * term_bias
    most_small = rw e (terms_left 32 (omega arith)).1

-- a channel's terminals in two lists
narrowed_held : (e : List Columns) (n r m : ℕ) (xs : List ℕ) → r ≤ m → AtMost 1000 n (λ j. (get_or e j (columns 0)).0) → 1000 ≤ m → xs ≡ narrowed e n r →
    AtMost m places_held (λ j. get_or xs j 0)
unfolding narrowed
narrowed_held e n r m xs h a l same = record { each = λ j k. rw same (go j k (dec_lt j n)) }
  where
    go : (j : ℕ) → j < places_held → Dec (j < n) → get_or (narrowed e n r) j 0 ≤ m
    go j k (no past) = rw (filled_rest places_held n j (λ j. (get_or e j (columns 0)).0) r 0 (omega arith) k) h
    go j k (yes first) = rw (filled_first places_held n j (λ j. (get_or e j (columns 0)).0) r 0 first) (omega (arith, a.each j first))

pub narrowed_padded : (k : Terminals) (p q : ℕ) → k.count ≤ 32 →
    Padded (channel_of k) p q (paired (narrowed k.lower k.count p) (narrowed k.upper k.count q))
unfolding narrowed
narrowed_padded k p q few =
    let n = k.count in
    let f : ℕ → ℕ = λ j. (get_or k.lower j (columns 0)).0 in
    let g : ℕ → ℕ = λ j. (get_or k.upper j (columns 0)).0 in
    let ps = narrowed k.lower n p in
    let qs = narrowed k.upper n q in
    let long = channel_length k in
    record {
      p_same = λ j h. rw (paired_p ps qs j (omega arith), filled_first places_held n j f p 0 (omega arith), channel_p_at k j (omega arith));
      q_same = λ j h. rw (paired_q ps qs j (omega arith), filled_first places_held n j g q 0 (omega arith), channel_q_at k j (omega arith));
      p_rest = λ j h l. rw (paired_p ps qs j l, filled_rest places_held n j f p 0 (omega arith) l);
      q_rest = λ j h l. rw (paired_q ps qs j l, filled_rest places_held n j g q 0 (omega arith) l);
    }

-- terminals are at most 1,000, in the places behind the last too where what stands there is no more than m
module _ (k : Terminals) (on : on_strips 1000 1000 (channel_of k) ≡ true) where
  pub lower_at_most : AtMost 1000 k.count (λ j. (get_or k.lower j (columns 0)).0)
  lower_at_most = record { each = λ j h. omega (arith, channel_p_at k j h, channel_length k, (terminals_on 1000 1000 (channel_of k) on j (omega (arith, channel_length k))).0) }

  pub upper_at_most : AtMost 1000 k.count (λ j. (get_or k.upper j (columns 0)).0)
  upper_at_most = record { each = λ j h. omega (arith, channel_q_at k j h, channel_length k, (terminals_on 1000 1000 (channel_of k) on j (omega (arith, channel_length k))).1) }

  pub lower_held : (r m : ℕ) (xs : List ℕ) → xs ≡ narrowed k.lower k.count r → r ≤ m → 1000 ≤ m → AtMost m places_held (λ j. get_or xs j 0)
  lower_held r m xs e h l = narrowed_held k.lower k.count r m xs h lower_at_most l e

  pub upper_held : (r m : ℕ) (xs : List ℕ) → xs ≡ narrowed k.upper k.count r → r ≤ m → 1000 ≤ m → AtMost m places_held (λ j. get_or xs j 0)
  upper_held r m xs e h l = narrowed_held k.upper k.count r m xs h upper_at_most l e

max_raised : (x y a b : ℕ) → raised x ≡ a → raised y ≡ b → raised (max x y) ≡ max a b
max_raised x y a b h k = omega arith

min_raised : (x y a b : ℕ) → raised x ≡ a → raised y ≡ b → raised (min x y) ≡ min a b
min_raised x y a b h k = omega arith

-- a channel with more than t pairs, padded: both biases give the same terms, and a term past the last is below every term of L(t), above every one of R(t)
module _ (c d : List Pair) (t : ℕ) (few : length c ≤ 32) (some : t < length c) (on : on_strips 1000 1000 c ≡ true) where
  module _ (pad : Padded c 0 term_bias d) where
    low_same : (i : ℕ) → i < length c - t → (raised (low_term term_bias d t i) ≡ low_term bias c t i) × (1048 + t ≤ low_term term_bias d t i)
    unfolding low_term
    low_same i h = rw (pad.p_same i (omega arith), pad.q_same (i + t) (omega arith)) (omega (arith, (terminals_on 1000 1000 c on (i + t) (omega arith)).1))

    low_past : (i : ℕ) → length c - t ≤ i → i < 32 → low_term term_bias d t i ≤ 1000 + t
    unfolding low_term
    low_past i h k = rw (pad.q_rest (i + t) (omega arith) (omega arith)) (go (dec_lt i (length c)))
      where
        go : Dec (i < length c) → term_bias + p_at d i + t - term_bias ≤ 1000 + t
        go (yes l) = omega (arith, pad.p_same i l, (terminals_on 1000 1000 c on i l).0)
        go (no l) = omega (arith, pad.p_rest i (omega arith) (omega arith))

    greatest_found : (n : ℕ) → n < 32 →
        (raised (greatest term_bias d t (suc n)) ≡ greatest bias c t (min (suc n) (length c - t))) × (1048 + t ≤ greatest term_bias d t (suc n))
    unfolding greatest
    greatest_found zero h =
        let one : min 1 (length c - t) ≡ 1 = omega arith in
        rw one (omega (arith, (low_same 0 (omega arith)).0, (low_same 0 (omega arith)).1))
    greatest_found (suc n) h = go (dec_lt (suc n) (length c - t)) (greatest_found n (omega arith))
      where
        go : Dec (suc n < length c - t) →
            (raised (greatest term_bias d t (suc n)) ≡ greatest bias c t (min (suc n) (length c - t))) × (1048 + t ≤ greatest term_bias d t (suc n)) →
            (raised (greatest term_bias d t (suc (suc n))) ≡ greatest bias c t (min (suc (suc n)) (length c - t))) × (1048 + t ≤ greatest term_bias d t (suc (suc n)))
        go (yes l) g =
            let before : min (suc n) (length c - t) ≡ suc n = omega arith in
            let all : min (suc (suc n)) (length c - t) ≡ suc (suc n) = omega arith in
            let k = rw before at g.0 in
            rw all (max_raised (greatest term_bias d t (suc n)) (low_term term_bias d t (suc n)) _ _ k (low_same (suc n) l).0, omega (arith, g.1))
        go (no l) g =
            let all : min (suc (suc n)) (length c - t) ≡ min (suc n) (length c - t) = omega arith in
            rw all (omega (arith, g.0, g.1, low_past (suc n) (omega arith) h))

    pub low_limit_found : raised (greatest term_bias d t 32) ≡ low_limit bias c t
    unfolding low_limit
    low_limit_found = let all : min 32 (length c - t) ≡ length c - t = omega arith in rw all at (greatest_found 31 (omega arith)).0

  module _ (pad : Padded c term_bias 0 d) where
    high_same : (i : ℕ) → i < length c - t → (raised (high_term term_bias d t i) ≡ high_term bias c t i) × (high_term term_bias d t i + t ≤ 3048)
    unfolding high_term
    high_same i h =
        rw (pad.p_same (i + t) (omega arith), pad.q_same i (omega arith))
        (omega (arith, (terminals_on 1000 1000 c on (i + t) (omega arith)).0, (terminals_on 1000 1000 c on i (omega arith)).1))

    high_past : (i : ℕ) → length c - t ≤ i → i < 32 → 3048 ≤ high_term term_bias d t i + t
    unfolding high_term
    high_past i h k = rw (pad.p_rest (i + t) (omega arith) (omega arith)) (go (dec_lt i (length c)))
      where
        go : Dec (i < length c) → 3048 ≤ term_bias + term_bias - (t + q_at d i) + t
        go (yes l) = omega (arith, pad.q_same i l, (terminals_on 1000 1000 c on i l).1)
        go (no l) = omega (arith, pad.q_rest i (omega arith) (omega arith))

    least_found : (n : ℕ) → n < 32 →
        (raised (least term_bias d t (suc n)) ≡ least bias c t (min (suc n) (length c - t))) × (least term_bias d t (suc n) + t ≤ 3048)
    unfolding least
    least_found zero h =
        let one : min 1 (length c - t) ≡ 1 = omega arith in
        rw one (omega (arith, (high_same 0 (omega arith)).0, (high_same 0 (omega arith)).1))
    least_found (suc n) h = go (dec_lt (suc n) (length c - t)) (least_found n (omega arith))
      where
        go : Dec (suc n < length c - t) →
            (raised (least term_bias d t (suc n)) ≡ least bias c t (min (suc n) (length c - t))) × (least term_bias d t (suc n) + t ≤ 3048) →
            (raised (least term_bias d t (suc (suc n))) ≡ least bias c t (min (suc (suc n)) (length c - t))) × (least term_bias d t (suc (suc n)) + t ≤ 3048)
        go (yes l) g =
            let before : min (suc n) (length c - t) ≡ suc n = omega arith in
            let all : min (suc (suc n)) (length c - t) ≡ suc (suc n) = omega arith in
            let k = rw before at g.0 in
            rw all (min_raised (least term_bias d t (suc n)) (high_term term_bias d t (suc n)) _ _ k (high_same (suc n) l).0, omega (arith, g.1))
        go (no l) g =
            let all : min (suc (suc n)) (length c - t) ≡ min (suc n) (length c - t) = omega arith in
            rw all (omega (arith, g.0, g.1, high_past (suc n) (omega arith) h))

    pub high_limit_found : raised (least term_bias d t 32) ≡ high_limit bias c t
    unfolding high_limit
    high_limit_found = let all : min 32 (length c - t) ≡ length c - t = omega arith in rw all at (least_found 31 (omega arith)).0
