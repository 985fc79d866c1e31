-- The text of a stack within the limits is accepted, and the stack in it is that stack: what the limits ask of a strip or a channel is what is not refused of its
-- line. Assumes nothing.
use mathlib.Core.Path.{◌≡◌, refl, ap, sym, ◌∙◌}
use mathlib.Core.Bool.{Bool, true, false, ◌&&◌, cond}
use mathlib.Core.List.{List, [], ◌∷◌, ◌++◌, map}
use Prim.Native.Nat.{ℕ, zero, suc, ◌+◌, ◌*◌, ◌%◌, ◌≤◌, ◌<◌}
use native.Mathlib.Omega.{arith}
use lib.Dec.{leb, eqb}
use lib.ListN.{length, get_or, length-map, length-append}
use borrow.Author.Tests.{leb-true, ltb-true, eqb-true, le-leb, le-ltb, lt-leb, lt-ltb, eq-eqb, ne_eqb}
use Rattle.numbers.specs.Lists.{tabulate}
use Rattle.numbers.proofs.Bools.{ands}
use Rattle.stack.specs.Stack.{Pair, pair, Channel, channel, no_channel, channel_in, Window, free, held, Strip, strip, no_strip, Stack, stack}
use Rattle.stack.specs.Limits.{rises_above, rising, on_strips, pairs_within, channel_within, channels_within, window_within, strip_within, strips_within, within_limits}
use Rattle.stack.proofs.Within.{channel_in_limits, strip_in_limits, strips_count, channels_few}
use Rattle.text.specs.Text.{fine, stack_word, part_word, nets_word, gap_word, exactly, one_or_three, in_pairs, entry, first_of, second_of, third_of, part_content, terminals_refusal, nets_content, gap_content, text_refusal, file, pairs_of, window_in, strip_in, floor_in, stack_in_file, stack_in}
use Rattle.stack_text.specs.StackText.{line_text, lines_text, file_text, part_numbers, parts_of, terminals_of, gaps_of, file_of, stack_text, StackTextRead}
use Rattle.stack_text.proofs.LineBack.{small, line_short, lines_short}
use Rattle.stack_text.proofs.FileBack.{get_or_map, tabulate_back, Shaped, file_back, gap_before, Contents, file_accepted}

-- STRIPS
pub record PartGood (l : ℕ) (ns : List ℕ) : Type 0 where
  pub few : small ns ≡ true
  pub short : length ns ≤ 3
  pub first : get_or ns 0 0 ≡ l
  pub most : l ≤ 1000
  pub count : one_or_three (length ns) ≡ 0
  pub good : (n : ℕ) → part_content (entry n 0 ns) ≡ fine

strip_good : (l : ℕ) (w : Window) → strip_within (strip l w) ≡ true → PartGood l (part_numbers l w)
unfolding strip_within window_within part_numbers small one_or_three exactly part_content entry first_of second_of third_of
strip_good l free h =
    let most : l ≤ 1000 = leb-true l 1000 (search ands) in
    let long : (leb 1 l && leb l 1000) ≡ true = search ands in
    record { few = rw (lt-ltb l 10000 (omega arith)); short = omega arith; first = refl; most = most; count = refl; good = λ n. rw long }
strip_good l (held a e) h =
    let most : l ≤ 1000 = leb-true l 1000 (search ands) in
    let long : (leb 1 l && leb l 1000) ≡ true = search ands in
    let rising : a ≤ e = leb-true a e (search ands) in
    let last : e ≤ 9999 = leb-true e 9999 (search ands) in
    record {
      few = rw (lt-ltb l 10000 (omega arith), lt-ltb a 10000 (omega arith), lt-ltb e 10000 (omega arith));
      short = omega arith;
      first = refl;
      most = most;
      count = refl;
      good = λ n. rw (long, le-ltb e a rising);
    }

part_back : (l : ℕ) (w : Window) → strip_in (part_numbers l w) ≡ strip l w
unfolding part_numbers strip_in window_in
part_back l free = refl
part_back l (held a e) = refl

strips_back : (ls : List Strip) → map strip_in (parts_of ls) ≡ ls
strips_back [] = refl
strips_back (l ∷ ls) = rw (part_back l.length l.window, strips_back ls)

-- CHANNELS
terminals_length : (c : List Pair) → length (terminals_of c) ≡ 2 * length c
unfolding terminals_of
terminals_length [] = refl
terminals_length (x ∷ xs) = omega (arith, terminals_length xs)

pairs_back : (c : List Pair) → pairs_of (terminals_of c) ≡ c
unfolding terminals_of pairs_of pair
pairs_back [] = refl
pairs_back (x ∷ xs) = rw (pairs_back xs)

module _ (lo hi : ℕ) where
  terminals_small : (c : List Pair) → lo ≤ 1000 → hi ≤ 1000 → on_strips lo hi c ≡ true → small (terminals_of c) ≡ true
  unfolding terminals_of small on_strips
  terminals_small [] h k l = refl
  terminals_small (x ∷ xs) h k l =
      let p = leb-true x.p lo (search ands) in
      let q = leb-true x.q hi (search ands) in
      rw (lt-ltb x.p 10000 (omega arith), lt-ltb x.q 10000 (omega arith), terminals_small xs h k (search ands))

  terminals_behind : (f u v n : ℕ) (c : List Pair) → rises_above u v c ≡ true → on_strips lo hi c ≡ true → terminals_refusal f false u v lo hi n (terminals_of c) ≡ fine
  unfolding terminals_refusal terminals_of rises_above on_strips
  terminals_behind f u v n [] h k = refl
  terminals_behind f u v n (x ∷ xs) h k =
      let p = le-ltb lo x.p (leb-true x.p lo (search ands)) in
      let q = le-ltb hi x.q (leb-true x.q hi (search ands)) in
      let above_p = lt-leb x.p u (ltb-true u x.p (search ands)) in
      let above_q = lt-leb x.q v (ltb-true v x.q (search ands)) in
      rw (p, above_p, q, above_q) (terminals_behind (f + 2) x.p x.q n xs (search ands) (search ands))

  terminals_fine : (f n : ℕ) (c : List Pair) → rising c ≡ true → on_strips lo hi c ≡ true → terminals_refusal f true 0 0 lo hi n (terminals_of c) ≡ fine
  unfolding terminals_refusal terminals_of rising on_strips
  terminals_fine f n [] h k = refl
  terminals_fine f n (x ∷ xs) h k =
      let p = le-ltb lo x.p (leb-true x.p lo (search ands)) in
      let q = le-ltb hi x.q (leb-true x.q hi (search ands)) in
      rw (p, q) (terminals_behind (f + 2) x.p x.q n xs h (search ands))

pub record NetsGood (lo hi : ℕ) (ns : List ℕ) : Type 0 where
  pub few : small ns ≡ true
  pub short : length ns ≤ 64
  pub count : in_pairs (length ns) ≡ 0
  pub good : (n : ℕ) → nets_content lo hi (entry n 0 ns) ≡ fine

pairs_good : (lo hi : ℕ) (c : List Pair) → lo ≤ 1000 → hi ≤ 1000 → pairs_within lo hi c ≡ true → NetsGood lo hi (terminals_of c)
unfolding pairs_within nets_content entry in_pairs
pairs_good lo hi c h k l =
    let most = leb-true (length c) 32 (search ands) in
    let short : length (terminals_of c) ≤ 64 = omega (arith, terminals_length c) in
    let even : length (terminals_of c) % 2 ≡ 0 = omega (arith, terminals_length c) in
    record {
      few = terminals_small lo hi c h k (search ands);
      short = short;
      count = rw (eq-eqb (length (terminals_of c) % 2) 0 even);
      good = λ n. rw (le-ltb 64 (length (terminals_of c)) short) (terminals_fine lo hi 2 n c (search ands) (search ands));
    }

-- FLOORS: GAP lines of rising channels
abbrev Low : List Channel → Type 0
Low cs = (j : ℕ) → j < length cs → (get_or cs j no_channel).floor ≤ 64

pub record GapGood (k b : ℕ) (ns : List ℕ) : Type 0 where
  pub few : small ns ≡ true
  pub short : length ns ≤ 2
  pub count : exactly 2 (length ns) ≡ 0
  pub good : (n : ℕ) → gap_content k b (entry n 0 ns) ≡ fine

floor_good : (k b c f : ℕ) → b < c → c ≤ k → k ≤ 8 → f ≤ 64 → GapGood k b (c ∷ f ∷ [])
unfolding small exactly gap_content entry first_of second_of
floor_good k b c f above within most low = record {
  few = rw (lt-ltb c 10000 (omega arith), lt-ltb f 10000 (omega arith));
  short = omega arith;
  count = refl;
  good = λ n. rw (le-leb 1 c (omega arith), le-leb c k within, le-ltb 64 f low, lt-leb c b above);
}

-- line after line, the first behind a line of channel b
unfoldable GapsGood : (k b : ℕ) → List (List ℕ) → Type 0
GapsGood k b [] = Unit
GapsGood k b (ns ∷ gs) = GapGood k b ns × GapsGood k (get_or ns 0 0) gs

gap_at : (k b : ℕ) (gs : List (List ℕ)) (g : ℕ) → GapsGood k b gs → g < length gs → GapGood k (gap_before b gs g) (get_or gs g [])
unfolding GapsGood gap_before
gap_at k b [] g h l = absurd (omega arith)
gap_at k b (ns ∷ gs) zero h l = h.0
gap_at k b (ns ∷ gs) (suc zero) h l = gap_at k (get_or ns 0 0) gs zero h.1 (omega arith)
gap_at k b (ns ∷ gs) (suc (suc g)) h l = gap_at k (get_or ns 0 0) gs (suc g) h.1 (omega arith)

-- one channel more: no line where its floor is 0, else its line
one_more : (n : ℕ) (c : Channel) (cs : List Channel) (P : List (List ℕ) → Type 0) → (c.floor ≡ 0 → P (gaps_of (suc n) cs)) →
    P ((n ∷ c.floor ∷ []) ∷ gaps_of (suc n) cs) → P (gaps_of n (c ∷ cs))
unfolding gaps_of
one_more n c cs P none line = go (eqb c.floor 0) refl
  where
    go : (v : Bool) → eqb c.floor 0 ≡ v → P (cond v (gaps_of (suc n) cs) ((n ∷ c.floor ∷ []) ∷ gaps_of (suc n) cs))
    go true e = none (eqb-true c.floor 0 e)
    go false e = line

floors_good : (k b n : ℕ) (cs : List Channel) → Low cs → b < n → n + length cs ≤ suc k → k ≤ 8 → GapsGood k b (gaps_of n cs)
unfolding GapsGood gaps_of
floors_good k b n [] low above within most = tt
floors_good k b n (c ∷ cs) low above within most =
    let lower : Low cs = λ j l. low (suc j) (omega arith) in
    let rest : (a : ℕ) → a < suc n → GapsGood k a (gaps_of (suc n) cs) = λ a h. floors_good k a (suc n) cs lower h (omega arith) most in
    let first = floor_good k b n c.floor above (omega arith) most (low 0 (omega arith)) in
    one_more n c cs (λ gs. GapsGood k b gs) (λ z. rest b (omega arith)) (first, rest n (omega arith))

gaps_few : (n : ℕ) (cs : List Channel) → length (gaps_of n cs) ≤ length cs
unfolding gaps_of
gaps_few n [] = omega arith
gaps_few n (c ∷ cs) =
    let rest = gaps_few (suc n) cs in
    one_more n c cs (λ gs. length gs ≤ suc (length cs)) (λ z. omega arith) (omega arith)

-- the floors that the lines name
floor_none : (n i : ℕ) (cs : List Channel) → i < n → floor_in (gaps_of n cs) i ≡ 0
unfolding gaps_of floor_in
floor_none n i [] h = refl
floor_none n i (c ∷ cs) h =
    let rest = floor_none (suc n) i cs (omega arith) in
    one_more n c cs (λ gs. floor_in gs i ≡ 0) (λ z. rest) (rw (ne_eqb n i (omega arith)) rest)

floor_back : (n j : ℕ) (cs : List Channel) → j < length cs → floor_in (gaps_of n cs) (n + j) ≡ (get_or cs j no_channel).floor
unfolding gaps_of floor_in
floor_back n j [] h = absurd (omega arith)
floor_back n zero (c ∷ cs) h =
    let here : n + 0 ≡ n = omega arith in
    rw here
    (one_more n c cs (λ gs. floor_in gs n ≡ c.floor) (λ z. floor_none (suc n) n cs (omega arith) ∙ sym z) (rw (eq-eqb n n refl)))
floor_back n (suc j) (c ∷ cs) h =
    let next : n + suc j ≡ suc n + j = omega arith in
    let rest = floor_back (suc n) j cs (omega arith) in
    rw next
    (one_more n c cs (λ gs. floor_in gs (suc n + j) ≡ (get_or cs j no_channel).floor) (λ z. rest) (rw (ne_eqb n (suc n + j) (omega arith)) rest))

-- THE STACK
abbrev parts_in : Stack → List (List ℕ)
parts_in k = parts_of k.strips

abbrev nets_in : Stack → List (List ℕ)
nets_in k = map (λ c. terminals_of c.pairs) k.channels

abbrev gaps_in : Stack → List (List ℕ)
gaps_in k = gaps_of 1 k.channels

channels_back : (cs : List Channel) →
    let nets = map (λ c. terminals_of c.pairs) cs in
    tabulate (length nets) 0 (λ c. channel (pairs_of (get_or nets c [])) (floor_in (gaps_of 1 cs) (suc c))) ≡ cs
channels_back cs =
    let nets = map (λ c. terminals_of c.pairs) cs in
    rw (length-map cs (λ c. terminals_of c.pairs))
    (tabulate_back no_channel (λ c. channel (pairs_of (get_or nets c [])) (floor_in (gaps_of 1 cs) (suc c))) cs 0
    (λ j h.
    let here : 0 + j ≡ j = omega arith in
    let next : suc j ≡ 1 + j = omega arith in
    rw (here, get_or_map (λ c. terminals_of c.pairs) cs j [] no_channel h, pairs_back (get_or cs j no_channel).pairs, next, floor_back 1 j cs h)))

stack_back : (k : Stack) → stack_in_file (file_of k) ≡ k
unfolding stack_in_file file_of file stack
stack_back k = rw (strips_back k.strips, channels_back k.channels)

module _ (k : Stack) (h : within_limits k ≡ true) where
  strips_good : strips_within k.strips ≡ true
  unfolding within_limits
  strips_good = search ands

  channels_good : channels_within k.strips k.channels ≡ true
  unfolding within_limits
  channels_good = search ands

  some : 1 ≤ length k.channels
  unfolding within_limits
  some = leb-true 1 (length k.channels) (search ands)

  most : length k.channels ≤ 8
  most = channels_few k h

  strips_long : length k.strips ≡ suc (length k.channels)
  strips_long = strips_count k h

  parts_long : length (parts_in k) ≡ suc (length k.channels)
  parts_long = length-map k.strips (λ (l : Strip). part_numbers l.length l.window) ∙ strips_long

  nets_long : length (nets_in k) ≡ length k.channels
  nets_long = length-map k.channels (λ c. terminals_of c.pairs)

  part_good : (j : ℕ) → j ≤ length k.channels → PartGood (get_or k.strips j no_strip).length (get_or (parts_in k) j [])
  part_good j l =
      let within : j < length k.strips = omega (arith, strips_long) in
      let s = get_or k.strips j no_strip in
      rw (get_or_map (λ (l : Strip). part_numbers l.length l.window) k.strips j [] no_strip within)
      (strip_good s.length s.window (strip_in_limits k.strips j strips_good within))

  part : (j : ℕ) → j < length (parts_in k) → PartGood (get_or k.strips j no_strip).length (get_or (parts_in k) j [])
  part j l = part_good j (omega (arith, parts_long))

  net : (c : ℕ) → c < length (nets_in k) → NetsGood (get_or k.strips c no_strip).length (get_or k.strips (suc c) no_strip).length (get_or (nets_in k) c [])
  unfolding channel_within
  net c l =
      let m : c < length k.channels = rw nets_long at l in
      let lower = (part_good c (omega arith)).most in
      let upper = (part_good (suc c) (omega arith)).most in
      let within = channel_in_limits k.strips k.channels c channels_good m in
      rw (get_or_map (λ c. terminals_of c.pairs) k.channels c [] no_channel m) (pairs_good _ _ (channel_in k c).pairs lower upper (search ands))

  low : Low k.channels
  unfolding channel_within
  low c l =
      let within = channel_in_limits k.strips k.channels c channels_good l in
      leb-true (channel_in k c).floor 64 (search ands)

  gap : (g : ℕ) → g < length (gaps_in k) → GapGood (length (nets_in k)) (gap_before 0 (gaps_in k) g) (get_or (gaps_in k) g [])
  gap g l = rw nets_long (gap_at _ 0 (gaps_in k) g (floors_good (length k.channels) 0 1 k.channels low (omega arith) (omega arith) most) l)

  shaped : Shaped (file_of k)
  unfolding file_of file
  shaped = record {
    strips = parts_long ∙ ap suc (sym nets_long);
    few = omega (arith, nets_long, most);
    parts = λ j l. (part j l).few;
    nets = λ c l. (net c l).few;
    gaps = λ g l. (gap g l).few;
  }

  text_short : length (file_text (file_of k)) ≤ 8192
  unfolding file_text file_of file stack_word part_word nets_word gap_word small
  text_short =
      let ps = parts_in k in
      let ns = nets_in k in
      let gs = gaps_in k in
      let head : length (line_text stack_word (length ns ∷ [])) ≤ 11 = line_short stack_word (length ns ∷ []) (rw (lt-ltb (length ns) 10000 (omega (arith, nets_long, most)))) in
      let parts : length (lines_text part_word ps) ≤ 20 * length ps = lines_short part_word 3 ps shaped.parts (λ j l. (part j l).short) in
      let nets : length (lines_text nets_word ns) ≤ 325 * length ns = lines_short nets_word 64 ns shaped.nets (λ c l. (net c l).short) in
      let gaps : length (lines_text gap_word gs) ≤ 14 * length gs = lines_short gap_word 2 gs shaped.gaps (λ g l. (gap g l).short) in
      let tail = lines_text nets_word ns ++ lines_text gap_word gs in
      let all = length-append (line_text stack_word (length ns ∷ [])) (lines_text part_word ps ++ tail) in
      let few = gaps_few 1 k.channels in
      omega (arith, length-append (lines_text part_word ps) tail, length-append (lines_text nets_word ns) (lines_text gap_word gs), parts_long, nets_long, most)

  contents : Contents (file_of k)
  unfolding file_of file
  contents = record {
    some = omega (arith, nets_long, some);
    most = omega (arith, nets_long, most);
    part_count = λ j l. (part j l).count;
    part_good = λ j n l. (part j l).good n;
    nets_count = λ c l. (net c l).count;
    nets_good = λ c n l. rw ((part_good c (omega (arith, nets_long))).first, (part_good (suc c) (omega (arith, nets_long))).first) ((net c l).good n);
    gap_count = λ g l. (gap g l).count;
    gap_good = λ g n l. (gap g l).good n;
    short = text_short;
  }

  accepted : text_refusal (stack_text k) ≡ fine
  unfolding stack_text
  accepted = file_accepted (file_of k) shaped contents

  read_back : stack_in (stack_text k) ≡ k
  unfolding stack_text stack_in
  read_back = rw (file_back (file_of k) shaped) (stack_back k)

-- EVERY STACK within the limits is read back
pub stack_text_read : StackTextRead
unfolding StackTextRead
stack_text_read k h = (accepted k h, read_back k h)
