-- A line of numbers of up to four digits is read back: its word, its numbers, and its layout as a line of its kind; and all lines of a word. Then how long they
-- are. Assumes nothing.
use mathlib.Core.Path.{◌≡◌, refl}
use mathlib.Core.Bool.{Bool, true, ◌&&◌}
use mathlib.Core.List.{List, [], ◌∷◌, ◌++◌, append_assoc, append-nil, map}
use Prim.Native.Nat.{ℕ, suc, ◌+◌, ◌*◌, ◌≤◌, ◌<◌}
use native.Mathlib.Nat.{mul-suc}
use native.Mathlib.Omega.{arith}
use lib.Dec.{ltb}
use lib.ListN.{length, get_or, length-map, length-append}
use borrow.Author.Tests.{ltb-true, eq-eqb}
use Rattle.numbers.proofs.Bools.{ands}
use Rattle.lines.specs.Lines.{Line, line, lines, fields, word_of, number_fields, same_bytes, has_word, ill_formed, values, numbers_of}
use Rattle.text.specs.Text.{refusal, fine, or_else, Kind, misplaced, count_refusal, number_refusal, layout}
use Rattle.writing.specs.TableText.{digits, tabbed}
use Rattle.stack_text.specs.StackText.{line_text, lines_text}
use Rattle.stack_text.proofs.Cuts.{NumberMade, number_made, number_few, without, without_append, number_without, field_last, field_first, line_first}

-- numbers of up to four digits
unfoldable pub small : List ℕ → Bool
small [] = true
small (v ∷ vs) = ltb v 10000 && small vs

abbrev pub Small : List (List ℕ) → Type 0
Small nss = (j : ℕ) → j < length nss → small (get_or nss j []) ≡ true

made : (v : ℕ) → ltb v 10000 ≡ true → NumberMade v (digits v)
made v h = number_made v (ltb-true v 10000 h)

-- FIELDS
fields_back : (w ns : List ℕ) → without 9 w ≡ true → small ns ≡ true → fields (w ++ tabbed ns) ≡ w ∷ map digits ns
unfolding tabbed small
fields_back w [] h k = rw append-nil (field_last w h)
fields_back w (v ∷ vs) h k =
    let plain = number_without 9 (omega arith) (digits v) (made v (search ands)).good in
    rw (field_first w (digits v ++ tabbed vs) h, fields_back (digits v) vs plain (search ands))

tabbed_without : (ns : List ℕ) → small ns ≡ true → without 10 (tabbed ns) ≡ true
unfolding tabbed small without
tabbed_without [] h = refl
tabbed_without (v ∷ vs) h =
    without_append 10 (digits v) (tabbed vs) (number_without 10 (omega arith) (digits v) (made v (search ands)).good) (tabbed_without vs (search ands))

values_back : (ns : List ℕ) → small ns ≡ true → values (map digits ns) ≡ ns
unfolding values small
values_back [] h = refl
values_back (v ∷ vs) h = rw ((made v (search ands)).value_is, values_back vs (search ands))

well_formed : (f : ℕ) (ns : List ℕ) → small ns ≡ true → ill_formed f (map digits ns) ≡ 0
unfolding ill_formed small
well_formed f [] h = refl
well_formed f (v ∷ vs) h = rw ((made v (search ands)).good, well_formed (suc f) vs (search ands))

-- A LINE as it is written
unfoldable pub line_made : (word numbers : List ℕ) → Line
line_made w ns = line (w ++ tabbed ns) true

pub numbers_back : (w ns : List ℕ) → without 9 w ≡ true → small ns ≡ true → numbers_of (line_made w ns) ≡ ns
unfolding numbers_of number_fields line_made line
numbers_back w ns h k = rw (fields_back w ns h k, values_back ns k)

same_self : (xs : List ℕ) → same_bytes xs xs ≡ true
unfolding same_bytes
same_self [] = refl
same_self (x ∷ xs) = rw (eq-eqb x x refl, same_self xs)

pub layout_back : (K : Kind) (n : ℕ) (ns : List ℕ) → without 9 K.word ≡ true → small ns ≡ true → K.fault (length ns) ≡ 0 → layout K n (line_made K.word ns) ≡ fine
unfolding layout count_refusal number_refusal misplaced or_else fine refusal has_word word_of number_fields line_made line
layout_back K n ns h k e = rw (fields_back K.word ns h k, same_self K.word, length-map ns digits, e, well_formed 2 ns k)

-- LINES of a word
module _ (w : List ℕ) (tabless : without 9 w ≡ true) (endless : without 10 w ≡ true) where
  pub line_back : (ns rest : List ℕ) → small ns ≡ true → lines (line_text w ns ++ rest) ≡ line_made w ns ∷ lines rest
  unfolding line_text line_made
  line_back ns rest h =
      let e : (w ++ (tabbed ns ++ (10 ∷ []))) ++ rest ≡ (w ++ tabbed ns) ++ (10 ∷ rest) = simp append_assoc in
      rw (e, line_first (w ++ tabbed ns) rest (without_append 10 w (tabbed ns) endless (tabbed_without ns h)))

  pub lines_back : (nss : List (List ℕ)) (rest : List ℕ) → Small nss → lines (lines_text w nss ++ rest) ≡ map (λ ns. line_made w ns) nss ++ lines rest
  unfolding lines_text
  lines_back [] rest h = refl
  lines_back (ns ∷ nss) rest h =
      let more = lines_back nss rest (λ j k. h (suc j) (omega arith)) in
      rw (append_assoc (line_text w ns) (lines_text w nss) rest, line_back ns (lines_text w nss ++ rest) (h 0 (omega arith)), more)

-- LENGTHS: a number takes a tab and at most four digits
tabbed_short : (ns : List ℕ) → small ns ≡ true → length (tabbed ns) ≤ 5 * length ns
unfolding tabbed small
tabbed_short [] h = omega arith
tabbed_short (v ∷ vs) h =
    omega (arith, number_few (digits v) (made v (search ands)).good, tabbed_short vs (search ands), length-append (digits v) (tabbed vs))

pub line_short : (w ns : List ℕ) → small ns ≡ true → length (line_text w ns) ≤ length w + 5 * length ns + 1
unfolding line_text
line_short w ns h = omega (arith, length-append w (tabbed ns ++ (10 ∷ [])), length-append (tabbed ns) (10 ∷ []), tabbed_short ns h)

pub lines_short : (w : List ℕ) (m : ℕ) (nss : List (List ℕ)) → Small nss → ((j : ℕ) → j < length nss → length (get_or nss j []) ≤ m) →
    length (lines_text w nss) ≤ (length w + 5 * m + 1) * length nss
unfolding lines_text
lines_short w m [] h k = omega arith
lines_short w m (ns ∷ nss) h k =
    let first = line_short w ns (h 0 (omega arith)) in
    let few = k 0 (omega arith) in
    let rest = lines_short w m nss (λ j l. h (suc j) (omega arith)) (λ j l. k (suc j) (omega arith)) in
    omega (arith, length-append (line_text w ns) (lines_text w nss), mul-suc (length w + 5 * m + 1) (length nss))
