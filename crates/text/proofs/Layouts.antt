-- The layout of a line in document 02's words; that its numbers have at most four digits; then the layout as the reader of lines tells it: refused as the documents
-- refuse it, and else the numbers are kept. Assumes nothing.
use mathlib.Core.Path.{◌≡◌, refl, ap, sym, ◌∙◌}
use mathlib.Core.Bool.{Bool, true, false, cond, not}
use mathlib.Core.List.{List, [], ◌∷◌}
use mathlib.Core.Logic.{◌⊎◌, inl, inr}
use Prim.Native.Nat.{ℕ, zero, suc, ◌+◌, ◌≤◌, ◌<◌, ◌%◌}
use native.Mathlib.Nat.{zero-add}
use native.Mathlib.Omega.{arith}
use lib.Dec.{ltb, leb, eqb}
use lib.ListN.{length, get_or}
use borrow.Author.Rules.{rules}
use borrow.Author.Tests.{leb-true, ltb-true, eqb-true, ne_eqb}
use Rattle.lines.specs.Lines.{Line, number_fields, has_word, all_digits, is_number, ill_formed, value_of, value, values, numbers_of}
use Rattle.std.specs.Prelude.{Option, None, Some, IfSome, Result, Ok, Err, ⊤}
use Rattle.lines.specs.Numbers.{field_if_any, IsLineRead}
use Rattle.lines.specs.declared.LineRead.{LineRead}
use Rattle.lines.proofs.Digits.{digit_says}
use Rattle.lines.proofs.Fields.{getD_in_places, numbers_count}
use Rattle.numbers.proofs.Bools.{ands}
use Rattle.text.specs.Text.{Refusal, refusal, fine, or_else, Entry, entry, Kind, kind, exactly, one_or_three, in_pairs, misplaced, count_refusal, number_refusal, layout}
use Rattle.text.specs.Layout.{FirstIll, LayoutIs, line_fault, count_fault, number_fault, good, LayoutTold}
use Rattle.text.specs.Outcome.{refusal_of, refused}
use Rattle.text.specs.declared.Refusal.TheVariants.{Layout}
use Rattle.text.specs.Kinds.{fault_of, refused_at, layout_found, accepted, IsKindRead, kind_refusal}
use Rattle.text.specs.declared.Refused.{Refused}
use Rattle.text.specs.declared.Counts.{Counts}
use Rattle.text.specs.declared.Counts.TheVariants.{Exactly, OneOrThree, InPairs, Any}
use Rattle.text.proofs.Refusals.{or_else_fine, unless_fine, only_fine, or_else_refused, or_else_next, word_not_fine}

-- THE FIELD of a fault of the count is at most the one behind the numbers
exactly_few : (m n : ℕ) → exactly m n ≤ n + 2
unfolding exactly
exactly_few m n = go (ltb n m) (ltb m n) refl
  where
    go : (v w : Bool) → ltb m n ≡ w → cond v (n + 2) (cond w (m + 2) 0) ≤ n + 2
    go true w e = omega arith
    go false true e = omega (arith, ltb-true m n e)
    go false false e = omega arith

pub fault_few : (d : Counts) (n : ℕ) → fault_of d n ≤ n + 2
unfolding one_or_three in_pairs
fault_few (Exactly m) n = exactly_few m n
fault_few OneOrThree n = go (leb n 1)
  where
    go : (v : Bool) → cond v (exactly 1 n) (exactly 3 n) ≤ n + 2
    go true = exactly_few 1 n
    go false = exactly_few 3 n
fault_few InPairs n = go (eqb (n % 2) 0)
  where
    go : (v : Bool) → cond v 0 (n + 2) ≤ n + 2
    go true = omega arith
    go false = omega arith
fault_few Any n = omega arith

-- a field that may be none
pub at_field : (m n f : ℕ) → refused_at m n (field_if_any f) ≡ misplaced m n 0 f
unfolding misplaced
at_field m n f = go (eqb f 0)
  where
    go : (v : Bool) → refused_at m n (cond v None (Some f)) ≡ cond v fine (refusal m n (0 + f))
    go true = refl
    go false = rw (zero-add f)

pub field_small : (f b : ℕ) → f < b → IfSome (field_if_any f) (λ x. x < b)
field_small f b h = go (eqb f 0)
  where
    go : (v : Bool) → IfSome (cond v None (Some f)) (λ x. x < b)
    go true = tt
    go false = h

some_field : (f : ℕ) → field_if_any (suc f) ≡ Some (suc f)
some_field f = rw (ne_eqb (suc f) 0 (omega arith))

-- THE FIRST FAULT of a layout: of the count alone
pub count_alone : (o : Option ℕ) (n : ℕ) → layout_found true o None n ≡ refused_at 11 n o
unfolding layout_found or_else fine refusal
count_alone None n = refl
count_alone (Some f) n = refl

pub layout_is_found : (K : Kind) (n : ℕ) (l : Line) →
    layout K n l ≡ layout_found (has_word l K.word) (field_if_any (K.fault (length (number_fields l)))) (field_if_any (ill_formed 2 (number_fields l))) n
unfolding layout layout_found count_refusal number_refusal
layout_is_found K n l = rw (at_field 11 n (K.fault (length (number_fields l))), at_field 12 n (ill_formed 2 (number_fields l)))

-- IN DOCUMENT 02'S WORDS
ill_above : (f : ℕ) (fs : List (List ℕ)) → (ill_formed f fs ≡ 0) ⊎ (f ≤ ill_formed f fs)
unfolding ill_formed
ill_above f [] = inl refl
ill_above f (x ∷ xs) = go (is_number x) (ill_above (suc f) xs)
  where
    go : (v : Bool) → (ill_formed (suc f) xs ≡ 0) ⊎ (suc f ≤ ill_formed (suc f) xs) → (cond v (ill_formed (suc f) xs) f ≡ 0) ⊎ (f ≤ cond v (ill_formed (suc f) xs) f)
    go true (inl e) = inl e
    go true (inr h) = inr (omega arith)
    go false h = inr (omega arith)

none_ill : (f : ℕ) (fs : List (List ℕ)) → ill_formed (suc f) fs ≡ 0 → (j : ℕ) → j < length fs → is_number (get_or fs j []) ≡ true
unfolding ill_formed
none_ill f [] h j k = absurd (omega arith)
none_ill f (x ∷ xs) h j k = go (is_number x) refl (λ e. none_ill (suc f) xs e) h j k
  where
    go : (v : Bool) → is_number x ≡ v → (ill_formed (suc (suc f)) xs ≡ 0 → (j : ℕ) → j < length xs → is_number (get_or xs j []) ≡ true) →
        cond v (ill_formed (suc (suc f)) xs) (suc f) ≡ 0 → (j : ℕ) → j < suc (length xs) → is_number (get_or (x ∷ xs) j []) ≡ true
    go true e rest h zero k = e
    go true e rest h (suc j) k = rest h j (omega arith)
    go false e rest h j k = absurd (omega arith)

-- a field more in front of them, which is a number
first_behind : (x : List ℕ) (xs : List (List ℕ)) (j : ℕ) → is_number x ≡ true → FirstIll xs j → FirstIll (x ∷ xs) (suc j)
first_behind x xs j e t = record { within = omega (arith, t.within); ill = t.ill; before = λ i k. below i k }
  where
    below : (i : ℕ) → i < suc j → is_number (get_or (x ∷ xs) i []) ≡ true
    below zero k = e
    below (suc i) k = t.before i (omega arith)

-- no field before the first of them is found ill-formed
not_before : (f i : ℕ) (fs : List (List ℕ)) → ill_formed (suc f) fs ≡ i → 1 ≤ i → i ≤ f → ⊥
not_before f i fs e some few = go (ill_above (suc f) fs)
  where
    go : (ill_formed (suc f) fs ≡ 0) ⊎ (suc f ≤ ill_formed (suc f) fs) → ⊥
    go (inl z) = omega arith
    go (inr z) = omega arith

first_found : (f j : ℕ) (fs : List (List ℕ)) → ill_formed (suc f) fs ≡ suc f + j → FirstIll fs j
unfolding ill_formed
first_found f j [] h = absurd (omega arith)
first_found f j (x ∷ xs) h = go (is_number x) refl (λ i e. first_found (suc f) i xs e) j h
  where
    go : (v : Bool) → is_number x ≡ v → ((i : ℕ) → ill_formed (suc (suc f)) xs ≡ suc (suc f) + i → FirstIll xs i) → (j : ℕ) →
        cond v (ill_formed (suc (suc f)) xs) (suc f) ≡ suc f + j → FirstIll (x ∷ xs) j
    go true e rest zero h = absurd (not_before (suc f) (suc f + 0) xs h (omega arith) (omega arith))
    go true e rest (suc j) h = first_behind x xs j e (rest j (h ∙ omega arith))
    go false e rest zero h = record { within = omega arith; ill = e; before = λ i k. absurd (omega arith) }
    go false e rest (suc j) h = absurd (omega arith)

pub layout_told : LayoutTold
unfolding LayoutTold layout_found or_else fine refusal
layout_told K n l = rw (layout_is_found K n l) (go (has_word l K.word) (K.fault (length fs)) (ill_formed 2 fs) refl refl refl)
  where
    fs : List (List ℕ)
    fs = number_fields l

    go : (v : Bool) (f i : ℕ) → has_word l K.word ≡ v → K.fault (length fs) ≡ f → ill_formed 2 fs ≡ i → LayoutIs K n l (layout_found v (field_if_any f) (field_if_any i) n)
    go false f i a b c = line_fault a
    go true (suc f) i a b c = rw (some_field f, ← b) (count_fault a (λ z. omega arith))
    go true zero zero a b c = good a b (none_ill 1 fs c)
    go true zero (suc zero) a b c = absurd (not_before 1 1 fs c (omega arith) (omega arith))
    go true zero (suc (suc j)) a b c =
        let place : j + 2 ≡ suc (suc j) = omega arith in
        rw (some_field (suc j), ← place) (number_fault a b j (first_found 1 j fs (c ∙ omega arith)))

-- A LINE whose layout is right has its word, its count and its numbers
record LayoutSays (K : Kind) (l : Line) : Type 0 where
  pub worded : has_word l K.word ≡ true
  pub count : K.fault (length (number_fields l)) ≡ 0
  pub numbers : ill_formed 2 (number_fields l) ≡ 0

not_misplaced : (m n s f : ℕ) → (misplaced (suc m) n s f).number ≡ 0 → f ≡ 0
unfolding misplaced
not_misplaced m n s f h = eqb-true f 0 (only_fine (eqb f 0) m n (s + f) h)

layout_says : (K : Kind) (n : ℕ) (l : Line) → (layout K n l).number ≡ 0 → LayoutSays K l
unfolding layout count_refusal number_refusal
layout_says K n l h =
    let fs = number_fields l in
    let u = unless_fine (has_word l K.word) 1 n 0 _ h in
    let v = or_else_fine (misplaced 11 n 0 (K.fault (length fs))) (misplaced 12 n 0 (ill_formed 2 fs)) u.1 in
    record {
      worded = u.0;
      count = not_misplaced 10 n 0 (K.fault (length fs)) v.0;
      numbers = not_misplaced 11 n 0 (ill_formed 2 fs) v.1;
    }

pub layout_ended : (K : Kind) (n : ℕ) (l : Line) → (layout K n l).number ≡ 0 → l.ended ≡ true
unfolding has_word
layout_ended K n l h = let u : has_word l K.word ≡ true = (layout_says K n l h).worded in search ands

-- A NUMBER has at most four digits
value_below : (xs : List ℕ) → is_number xs ≡ true → value xs < 10000
unfolding is_number all_digits value value_of
value_below [] h = omega arith
value_below (a ∷ []) h = omega (arith, digit_says a (search ands))
value_below (a ∷ b ∷ []) h = omega (arith, digit_says a (search ands), digit_says b (search ands))
value_below (a ∷ b ∷ c ∷ []) h = omega (arith, digit_says a (search ands), digit_says b (search ands), digit_says c (search ands))
value_below (a ∷ b ∷ c ∷ d ∷ []) h =
    omega (arith, digit_says a (search ands), digit_says b (search ands), digit_says c (search ands), digit_says d (search ands))
value_below (a ∷ b ∷ c ∷ d ∷ e ∷ xs) h = absurd (omega (arith, leb-true (length (a ∷ b ∷ c ∷ d ∷ e ∷ xs)) 4 (search ands)))

values_below : (f : ℕ) (fs : List (List ℕ)) → ill_formed (suc f) fs ≡ 0 → (i : ℕ) → get_or (values fs) i 0 < 10000
unfolding ill_formed values
values_below f [] h i = omega arith
values_below f (x ∷ xs) h i = go (is_number x) refl (λ e j. values_below (suc f) xs e j) h i
  where
    go : (v : Bool) → is_number x ≡ v → (ill_formed (suc (suc f)) xs ≡ 0 → (j : ℕ) → get_or (values xs) j 0 < 10000) →
        cond v (ill_formed (suc (suc f)) xs) (suc f) ≡ 0 → (i : ℕ) → get_or (value x ∷ values xs) i 0 < 10000
    go true e rest h zero = value_below x e
    go true e rest h (suc i) = rest h i
    go false e rest h i = absurd (omega arith)

pub numbers_below : (K : Kind) (n : ℕ) (l : Line) → (layout K n l).number ≡ 0 → (i : ℕ) → get_or (numbers_of l) i 0 < 10000
unfolding numbers_of
numbers_below K n l h i = values_below 1 (number_fields l) (layout_says K n l h).numbers i

-- THE READER of a word and counts
module _ (w : List ℕ) (d : Counts) (n : ℕ) (l : Line) (r : LineRead) (vs : List ℕ) (m : IsLineRead l w r vs) where
  pub reader_told : (c : Entry → Refusal) → layout_found r.worded (field_if_any (fault_of d r.count)) r.ill n ≡ layout (kind w (λ i. fault_of d i) c) n l
  unfolding kind
  reader_told c = sym (layout_is_found (kind w (λ i. fault_of d i) c) n l ∙ rw (m.worded, m.count, m.ill))

  layout_good : fine ≡ layout_found r.worded (field_if_any (fault_of d r.count)) r.ill n → LayoutSays (kind w (λ i. fault_of d i) (λ c. fine)) l
  unfolding fine refusal
  layout_good a = layout_says (kind w (λ i. fault_of d i) (λ c. fine)) n l (ap (λ (x : Refusal). x.number) (sym (a ∙ reader_told (λ c. fine))))

  pub kind_refused : (x : Refused) → refusal_of {A = ⊤} (Err x) ≡ layout_found r.worded (field_if_any (fault_of d r.count)) r.ill n → IsKindRead w (λ i. fault_of d i) n l (Err x) vs
  kind_refused x e = record { layout = λ c. e ∙ reader_told c; fault = tt; count = tt; kept = tt }

  -- a line without its word, and one with it, of which the count and the numbers are then tested
  pub kind_unworded : not r.worded ≡ true → IsKindRead w (λ i. fault_of d i) n l (Err (refused Layout n 0)) vs
  unfolding layout_found
  kind_unworded e = let unworded : r.worded ≡ false = search rules in kind_refused (refused Layout n 0) (rw unworded)

  pub kind_worded : not r.worded ≡ false → layout_found true (field_if_any (fault_of d r.count)) r.ill n ≡ layout_found r.worded (field_if_any (fault_of d r.count)) r.ill n
  kind_worded e = let worded : r.worded ≡ true = search rules in rw worded

  pub kind_read : fine ≡ layout_found r.worded (field_if_any (fault_of d r.count)) r.ill n → IsKindRead w (λ i. fault_of d i) n l (Ok r.count) vs
  unfolding kind
  kind_read e = record {
    layout = λ c. e ∙ reader_told c;
    fault = rw m.count (layout_good e).count;
    count = m.count ∙ sym (numbers_count l);
    kept = m.kept (m.ill ∙ rw (layout_good e).numbers);
  }

  pub kind_found : (o : Result ⊤ Refused) → refusal_of o ≡ layout_found r.worded (field_if_any (fault_of d r.count)) r.ill n → IsKindRead w (λ i. fault_of d i) n l (accepted o r.count) vs
  kind_found (Ok t) e = kind_read e
  kind_found (Err x) e = kind_refused x e

  -- the numbers are counted in any case
  pub kind_counted : r.count ≡ length (numbers_of l)
  kind_counted = m.count ∙ sym (numbers_count l)

-- A LINE OF A KIND: refused as its layout is, and else for its numbers, which are kept
module _ (K : Kind) (n : ℕ) (l : Line) (vs : List ℕ) where
  told : (o : Result ℕ Refused) → IsKindRead K.word K.fault n l o vs → refusal_of o ≡ layout K n l
  unfolding layout count_refusal kind
  told o m = m.layout K.content

  pub layout_refused : (x : Refused) → IsKindRead K.word K.fault n l (Err x) vs → refusal_of {A = ⊤} (Err x) ≡ kind_refusal K n l
  unfolding kind_refusal
  layout_refused x m = let e = told (Err x) m in e ∙ sym (or_else_refused (layout K n l) _ (rw e at (word_not_fine x)))

  module _ (count : ℕ) (m : IsKindRead K.word K.fault n l (Ok count) vs) where
    pub layout_fine : layout K n l ≡ fine
    layout_fine = sym (told (Ok count) m)

    pub layout_then : kind_refusal K n l ≡ K.content (entry n 0 (numbers_of l))
    unfolding kind_refusal
    layout_then = or_else_next (layout K n l) _ layout_fine

    pub number_kept : (i : ℕ) → i < 64 → get_or vs i 0 ≡ get_or (numbers_of l) i 0
    number_kept i h = rw m.kept (getD_in_places 64 i (numbers_of l) h)
