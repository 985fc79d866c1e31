-- The statements of specs/Turned.antt, proved: what is proved of stacks turned over holds of their texts, since the text of a stack within the limits is accepted and
-- read back as that stack. Assumes nothing.
use mathlib.Core.Path.{◌≡◌, refl, sym, ap, ◌∙◌}
use mathlib.Core.Bool.{Bool, true, false, cond}
use mathlib.Core.List.{List, [], ◌∷◌, ◌++◌}
use Prim.Native.Nat.{ℕ, zero, suc, ◌+◌, ◌-◌, ◌/◌, ◌%◌, ◌≤◌, ◌<◌}
use native.Mathlib.Omega.{arith}
use lib.Dec.{ltb, eqb}
use lib.ListN.{length, get_or, take, drop, replicate, length-append, drop_of_length-le}
use borrow.Author.Tests.{ltb-true, lt-ltb, eqb-true}
use Rattle.std.proofs.lemmas.List.{length-replicate, get_or-take, drop-append-le}
use Rattle.numbers.specs.Lists.{padded}
use Rattle.numbers.proofs.Bools.{ands, and_both, and_right}
use Rattle.numbers.proofs.Lists.{padded_take, zeros_at}
use Rattle.stack.specs.Stack.{Stack, stack, sum, LeastTotal, first_spread}
use Rattle.stack.specs.Limits.{within_limits}
use Rattle.stack.proofs.Placements.{legal_each, position_most}
use Rattle.stack.proofs.Within.{strips_count, channels_few}
use Rattle.turned.specs.Turned.{SameTotals, Agrees, upside_down, UpsideDownSame, left_to_right, LeftToRightSame}
use Rattle.turned.specs.Inside.{InsideSame, InsideSameTotal}
use Rattle.turned.specs.TopStrip.{TopAt, TopNoGap}
use Rattle.turned.proofs.UpsideDown.{first_spread_same, upside_down_same}
use Rattle.turned.proofs.LeftToRight.{left_to_right_same}
use Rattle.turned.proofs.Inside.{inside_same, inside_same_total}
use Rattle.turned.proofs.TopStrip.{top_no_gap}
use Rattle.turned.proofs.Searches.{part_below}
use Rattle.text.specs.Text.{Refusal, refusal, fine, or_else, stack_word, part_word, nets_word, gap_word, text_refusal, File, stack_in}
use Rattle.text.specs.Outcome.{refusal_of}
use Rattle.writing.specs.TableText.{digits_from, digits, tabbed}
use Rattle.trial.specs.Legal.{all_zero, is_legal}
use Rattle.reply.specs.Refusals.{narrow_refusal}
use Rattle.stack_text.specs.StackText.{line_text, lines_text, file_text, file_of, stack_text, StackTextRead}
use Rattle.stack_text.proofs.StackBack.{stack_text_read}
use Rattle.spread.specs.Answers.{TotalResult, total_in, total_told, Totalled, spread_refusal, TotalSays}
use Rattle.nabetsu.specs.Promise.{all_bytes, accepted}
use Rattle.nabetsu.specs.Entry.{TrialResult, legal_in, TrialSays}
use Rattle.nabetsu.proofs.Promises.{none_refused, stack_within}
use Rattle.evidence.specs.Alone.{SameTotal}
use Rattle.evidence.specs.Turned.{AnsweredAs, UpsideDownText, LeftToRightText, InsideText, TopTried, TopText}
use Rattle.evidence.proofs.Alone.{totalled_alone, code_alone}

-- THE TEXT OF A STACK is one of bytes
bytes_append : (xs ys : List ℕ) → all_bytes xs ≡ true → all_bytes ys ≡ true → all_bytes (xs ++ ys) ≡ true
unfolding all_bytes
bytes_append [] ys h k = k
bytes_append (x ∷ xs) ys h k = and_both (ltb x 256) (all_bytes (xs ++ ys)) (search ands) (bytes_append xs ys (search ands) k)

digit_byte : (d : ℕ) (got : List ℕ) → d < 10 → all_bytes got ≡ true → all_bytes ((48 + d) ∷ got) ≡ true
unfolding all_bytes
digit_byte d got l h = rw (lt-ltb (48 + d) 256 (omega arith)) h

digits_bytes : (fuel v : ℕ) (got : List ℕ) → all_bytes got ≡ true → all_bytes (digits_from fuel v got) ≡ true
unfolding digits_from
digits_bytes zero v got h = h
digits_bytes (suc n) v got h =
    go (ltb v 10) refl (digits_bytes n (v / 10) ((48 + v % 10) ∷ got) (digit_byte (v % 10) got (omega arith) h))
  where
    rest : List ℕ
    rest = digits_from n (v / 10) ((48 + v % 10) ∷ got)

    go : (t : Bool) → ltb v 10 ≡ t → all_bytes rest ≡ true → all_bytes (cond t ((48 + v) ∷ got) rest) ≡ true
    go true e k = digit_byte v got (ltb-true v 10 e) h
    go false e k = k

tabbed_bytes : (vs : List ℕ) → all_bytes (tabbed vs) ≡ true
unfolding tabbed digits all_bytes
tabbed_bytes [] = refl
tabbed_bytes (v ∷ vs) = bytes_append (9 ∷ digits v) (tabbed vs) (digits_bytes 20 v [] refl) (tabbed_bytes vs)

module _ (w : List ℕ) (h : all_bytes w ≡ true) where
  line_bytes : (ns : List ℕ) → all_bytes (line_text w ns) ≡ true
  unfolding line_text all_bytes
  line_bytes ns = bytes_append w _ h (bytes_append (tabbed ns) (10 ∷ []) (tabbed_bytes ns) refl)

  lines_bytes : (nss : List (List ℕ)) → all_bytes (lines_text w nss) ≡ true
  unfolding lines_text all_bytes
  lines_bytes [] = refl
  lines_bytes (ns ∷ nss) = bytes_append (line_text w ns) (lines_text w nss) (line_bytes ns) (lines_bytes nss)

file_bytes : (f : File) → all_bytes (file_text f) ≡ true
unfolding file_text stack_word part_word nets_word gap_word all_bytes
file_bytes f =
    bytes_append (line_text stack_word _) _ (line_bytes stack_word refl _)
    (bytes_append (lines_text part_word f.parts) _ (lines_bytes part_word refl f.parts)
    (bytes_append (lines_text nets_word f.nets) (lines_text gap_word f.gaps) (lines_bytes nets_word refl f.nets) (lines_bytes gap_word refl f.gaps)))

stack_accepted : (k : Stack) → within_limits k ≡ true → accepted (stack_text k) ≡ true
unfolding accepted StackTextRead stack_text fine refusal
stack_accepted k e = rw (file_bytes (file_of k), (stack_text_read k e).0) refl

-- AN ACCEPTED TEXT is refused at a spread only below the first one
narrow_only : (bs : List ℕ) (s : ℕ) → accepted bs ≡ true → spread_refusal bs s ≡ narrow_refusal (stack_in bs) s
unfolding spread_refusal or_else
narrow_only bs s e = rw (none_refused bs e)

same_totalled : (n : ℕ) (f : Refusal) (k h : Stack) (s : ℕ) (r : TotalResult) → SameTotals k h → Totalled n f k s r → Totalled n f h s r
unfolding Totalled SameTotals
same_totalled zero f k h s r e a = (a.0, (e s a.0).0 a.1, a.2)
same_totalled (suc n) f k h s r e a = a

module _ (bs : List ℕ) (h : Stack) (e : accepted bs ≡ true) (over : Agrees (stack_in bs) h) (first : first_spread h.strips ≡ first_spread (stack_in bs).strips) where
  text_totals : (cs : List ℕ) → accepted cs ≡ true → stack_in cs ≡ h → (s : ℕ) (r q : TotalResult) → TotalSays bs s r → TotalSays cs s q → SameTotal r q
  unfolding TotalSays narrow_refusal
  text_totals cs d read s r q a b =
      let f = narrow_only bs s e in
      let g = narrow_only cs s d in
      totalled_alone _ (narrow_refusal h s) h s r q (same_totalled _ _ (stack_in bs) h s r over.totals (rw (f, ← first) at a)) (rw (g, read) at b)

  answered_as : AnsweredAs bs h
  unfolding StackTextRead
  answered_as = record {
    is_accepted = stack_accepted h over.within;
    read = (stack_text_read h over.within).1;
    totals = text_totals;
    codes = λ cs d read s r q a b. code_alone a.answer b.answer r q (text_totals cs d read s a.answer b.answer a.says b.says) a.coded b.coded;
    rows = over.rows;
  }

-- UPSIDE DOWN AND LEFT TO RIGHT
pub upside_down_text : UpsideDownText
unfolding UpsideDownText UpsideDownSame
upside_down_text bs e =
    answered_as bs (upside_down (stack_in bs)) e (upside_down_same (stack_in bs) (stack_within bs e)) (first_spread_same (stack_in bs))

pub left_to_right_text : LeftToRightText
unfolding LeftToRightText LeftToRightSame left_to_right stack
left_to_right_text bs e f =
    answered_as bs (left_to_right (stack_in bs)) e (left_to_right_same (stack_in bs) (stack_within bs e) f) refl

-- INSIDE THE SPREAD
returned_least : (n : ℕ) (f : Refusal) (k : Stack) (s : ℕ) (r : TotalResult) → f.number ≡ n → Totalled n f k s r → (refusal_of r).number ≡ 0 → LeastTotal k s (total_in r)
unfolding Totalled total_told
returned_least zero f k s r e a z = rw a.2.1 a.1
returned_least (suc n) f k s r e a z = absurd (omega (arith, ap (λ (w : Refusal). w.number) a.0))

pub inside_text : InsideText
unfolding InsideText InsideSame InsideSameTotal TotalSays
inside_text bs s e =
    let k = stack_in bs in
    let within = stack_within bs e in (
      (λ ts xs. inside_same k s ts xs within),
      (λ r a z. (inside_same_total k s (total_in r) within).1.0 (returned_least _ (spread_refusal bs s) k s r refl a z)),
    )

-- THE TOP STRIP, of placements with zeros in the unused places
used_sum : (n : ℕ) (ts : List ℕ) → all_zero (drop n ts) ≡ true → sum (take n ts) ≡ sum ts
unfolding all_zero sum
used_sum zero [] e = refl
used_sum zero (t ∷ ts) e = let z = eqb-true t 0 (search ands) in omega (arith, used_sum zero ts (search ands))
used_sum (suc n) [] e = refl
used_sum (suc n) (t ∷ ts) e = omega (arith, used_sum n ts e)

zeros_zero : (n : ℕ) → all_zero (replicate n 0) ≡ true
unfolding all_zero
zeros_zero zero = refl
zeros_zero (suc n) = zeros_zero n

unused_zero : (n m : ℕ) (xs : List ℕ) → length xs ≡ m → all_zero (drop m (padded n xs)) ≡ true
unfolding padded
unused_zero n m xs e =
    rw (drop-append-le m xs (replicate (n - length xs) 0) (omega arith), drop_of_length-le xs {i = m} (omega arith)) (zeros_zero (n - length xs))

padded_long : (n : ℕ) (xs : List ℕ) → length xs ≤ n → length (padded n xs) ≡ n
unfolding padded
padded_long n xs h = omega (arith, length-append xs (replicate (n - length xs) 0), length-replicate {A = ℕ} (n - length xs) 0)

-- zeros behind numbers below a bound
padded_below : (b n : ℕ) (xs : List ℕ) → 0 < b → ((i : ℕ) → i < length xs → get_or xs i 0 < b) → (i : ℕ) → get_or (padded n xs) i 0 < b
unfolding padded
padded_below b n xs some h i = go xs i h
  where
    go : (ys : List ℕ) (i : ℕ) → ((i : ℕ) → i < length ys → get_or ys i 0 < b) → get_or (ys ++ replicate (n - length xs) 0) i 0 < b
    go [] i h = omega (arith, zeros_at (n - length xs) i)
    go (y ∷ ys) zero h = h 0 (omega arith)
    go (y ∷ ys) (suc i) h = go ys i (λ j l. h (suc j) (omega arith))

tried_top : (bs : List ℕ) (s v x : ℕ) → TopTried bs s v x → TopAt (stack_in bs) s v x
unfolding TrialSays is_legal
tried_top bs s v x t =
    let k = stack_in bs in
    let n = length k.channels in
    let good : is_legal k s t.separations t.positions ≡ true =
    and_right (eqb (text_refusal bs).number 0) (is_legal k s t.separations t.positions) (sym t.says.1 ∙ t.is_legal) in
    record {
      separations = take n t.separations;
      positions = take (suc n) t.positions;
      is_legal = search ands;
      exact = used_sum n t.separations (search ands) ∙ t.exact;
      top = get_or-take (suc n) t.positions n 0 (omega arith) ∙ t.top;
    }

module _ (bs : List ℕ) (e : accepted bs ≡ true) (s v : ℕ) (spread_fits : s < 4294967296) (total_fits : v < 4294967296) where
  abbrev k : Stack
  k = stack_in bs

  -- by the result r of any trial that says legal
  top_tried : (r : TrialResult) → refusal_of r ≡ text_refusal bs → legal_in r ≡ true → (x : ℕ) → TopAt k s v x → TopTried bs s v x
  unfolding TrialSays is_legal
  top_tried r f g x t =
      let n = length k.channels in
      let p = legal_each k s t.separations t.positions t.is_legal in
      let w = stack_within bs e in
      let strips : length t.positions ≡ suc n = p.positions ∙ strips_count k w in
      let ts = padded 8 t.separations in
      let xs = padded 9 t.positions in
      let used = padded_take 8 n t.separations p.separations in
      let stand = padded_take 9 (suc n) t.positions strips in
      let zeros = unused_zero 8 n t.separations p.separations in
      let good : is_legal k s ts xs ≡ true = rw (zeros, unused_zero 9 (suc n) t.positions strips, used, stand) t.is_legal in
      record {
        separations = ts;
        positions = xs;
        eight = padded_long 8 t.separations (omega (arith, p.separations, channels_few k w));
        nine = padded_long 9 t.positions (omega (arith, strips, channels_few k w));
        tracks = padded_below 4294967296 8 t.separations (omega arith) (λ i l. omega (arith, part_below t.separations i, t.exact));
        columns = padded_below 4294967296 9 t.positions (omega arith) (λ i l. omega (arith, position_most s k.strips k.channels t.separations t.positions p i l));
        verdict = r;
        says = (f, g ∙ sym (rw (none_refused bs e, good) refl));
        is_legal = g;
        exact = sym (used_sum n ts zeros) ∙ ap sum used ∙ t.exact;
        top = sym (get_or-take (suc n) xs n 0 (omega arith)) ∙ ap (λ (ys : List ℕ). get_or ys n 0) stand ∙ t.top;
      }

pub top_text : TopText
unfolding TopText TopNoGap TrialSays
top_text bs s v x y z e spread_fits total_fits a b h i =
    top_tried bs e s v spread_fits total_fits a.verdict a.says.0 a.is_legal y
    (top_no_gap (stack_in bs) s v x y z (stack_within bs e) (tried_top bs s v x a) (tried_top bs s v z b) h i)
