-- Numbers, fields and lines that are written are read back: a number of up to four digits by its digits, fields and lines by induction on the bytes before the
-- tab or the line feed. Assumes nothing.
use mathlib.Core.Path.{◌≡◌, refl}
use mathlib.Core.Bool.{Bool, true, false, ◌&&◌, not, cond}
use mathlib.Core.List.{List, [], ◌∷◌, ◌++◌}
use Prim.Native.Nat.{ℕ, ◌+◌, ◌/◌, ◌%◌, ◌≤◌, ◌<◌}
use native.Mathlib.Omega.{arith}
use lib.Dec.{ltb, eqb}
use lib.ListN.{length}
use borrow.Author.Tests.{leb-true, ltb-true, ltb-false, le-leb, lt-ltb, le-ltb, ne_eqb}
use Rattle.numbers.proofs.Bools.{ands}
use Rattle.lines.specs.Lines.{line, to_front, lines, into_field, fields, is_digit, all_digits, is_number, value_of, value}
use Rattle.writing.specs.TableText.{digits_from, digits}

-- NUMBERS of up to four digits
pub record NumberMade (v : ℕ) (ds : List ℕ) : Type 0 where
  pub good : is_number ds ≡ true
  pub value_is : value ds ≡ v

digit : (d : ℕ) → d < 10 → is_digit (48 + d) ≡ true
unfolding is_digit
digit d h = rw (le-leb 48 (48 + d) (omega arith), le-leb (48 + d) 57 (omega arith))

first_digit : (d : ℕ) → 1 ≤ d → eqb (48 + d) 48 ≡ false
first_digit d h = ne_eqb (48 + d) 48 (λ e. omega arith)

one_digit : (v : ℕ) → v < 10 → NumberMade v (digits v)
unfolding digits digits_from is_number all_digits value value_of
one_digit v h = rw (lt-ltb v 10 h) (record { good = rw (digit v h); value_is = omega arith })

two_digits : (v : ℕ) → 10 ≤ v → v / 10 < 10 → NumberMade v (digits v)
unfolding digits digits_from is_number all_digits value value_of
two_digits v h k =
    rw (le-ltb v 10 h, lt-ltb (v / 10) 10 k)
    (record { good = rw (digit (v / 10) k, digit (v % 10) (omega arith), first_digit (v / 10) (omega arith)); value_is = omega arith })

three_digits : (v : ℕ) → 10 ≤ v → 10 ≤ v / 10 → v / 10 / 10 < 10 → NumberMade v (digits v)
unfolding digits digits_from is_number all_digits value value_of
three_digits v h k l =
    let w = v / 10 in
    rw (le-ltb v 10 h, le-ltb w 10 k, lt-ltb (w / 10) 10 l)
    (record { good = rw (digit (w / 10) l, digit (w % 10) (omega arith), digit (v % 10) (omega arith), first_digit (w / 10) (omega arith)); value_is = omega arith })

four_digits : (v : ℕ) → 10 ≤ v → 10 ≤ v / 10 → 10 ≤ v / 10 / 10 → v / 10 / 10 / 10 < 10 → NumberMade v (digits v)
unfolding digits digits_from is_number all_digits value value_of
four_digits v h k l m =
    let w = v / 10 in
    let u = w / 10 in
    rw (le-ltb v 10 h, le-ltb w 10 k, le-ltb u 10 l, lt-ltb (u / 10) 10 m)
    (record {
      good = rw (digit (u / 10) m, digit (u % 10) (omega arith), digit (w % 10) (omega arith), digit (v % 10) (omega arith), first_digit (u / 10) (omega arith));
      value_is = omega arith;
    })

pub number_made : (v : ℕ) → v < 10000 → NumberMade v (digits v)
number_made v h = go (ltb v 10) (ltb (v / 10) 10) (ltb (v / 10 / 10) 10) refl refl refl
  where
    go : (a b c : Bool) → ltb v 10 ≡ a → ltb (v / 10) 10 ≡ b → ltb (v / 10 / 10) 10 ≡ c → NumberMade v (digits v)
    go true b c e f g = one_digit v (ltb-true v 10 e)
    go false true c e f g = two_digits v (ltb-false v 10 e) (ltb-true (v / 10) 10 f)
    go false false true e f g = three_digits v (ltb-false v 10 e) (ltb-false (v / 10) 10 f) (ltb-true (v / 10 / 10) 10 g)
    go false false false e f g = four_digits v (ltb-false v 10 e) (ltb-false (v / 10) 10 f) (ltb-false (v / 10 / 10) 10 g) (omega arith)

pub number_few : (xs : List ℕ) → is_number xs ≡ true → length xs ≤ 4
unfolding is_number
number_few xs h = leb-true (length xs) 4 (search ands)

-- BYTES none of which is b
unfoldable pub without : (b : ℕ) → List ℕ → Bool
without b [] = true
without b (x ∷ xs) = not (eqb x b) && without b xs

pub without_append : (b : ℕ) (xs ys : List ℕ) → without b xs ≡ true → without b ys ≡ true → without b (xs ++ ys) ≡ true
unfolding without
without_append b [] ys h k = k
without_append b (x ∷ xs) ys h k = let e = without_append b xs ys (search ands) k in search ands

-- digits are neither tabs nor line feeds
digit_not : (x b : ℕ) → is_digit x ≡ true → b < 48 → not (eqb x b) ≡ true
unfolding is_digit
digit_not x b h k =
    let m = leb-true 48 x (search ands) in
    rw (ne_eqb x b (λ e. omega arith))

digits_without : (b : ℕ) → b < 48 → (xs : List ℕ) → all_digits xs ≡ true → without b xs ≡ true
unfolding without all_digits
digits_without b h [] k = refl
digits_without b h (x ∷ xs) k =
    let rest = digits_without b h xs (search ands) in
    let first = digit_not x b (search ands) h in
    search ands

pub number_without : (b : ℕ) → b < 48 → (xs : List ℕ) → is_number xs ≡ true → without b xs ≡ true
unfolding is_number
number_without b h xs k = digits_without b h xs (search ands)

-- FIELDS end at the first tab, LINES at the first line feed
pub field_last : (w : List ℕ) → without 9 w ≡ true → fields w ≡ w ∷ []
unfolding fields without into_field
field_last [] h = refl
field_last (x ∷ xs) h = go (eqb x 9) h (field_last xs (search ands))
  where
    go : (v : Bool) → (not v && without 9 xs) ≡ true → fields xs ≡ xs ∷ [] → cond v ([] ∷ fields xs) (into_field x (fields xs)) ≡ (x ∷ xs) ∷ []
    go true k e = let z : ◌≡◌ {A = ℕ} 0 1 = cc in absurd (omega arith)
    go false k e = rw e

pub field_first : (w rest : List ℕ) → without 9 w ≡ true → fields (w ++ (9 ∷ rest)) ≡ w ∷ fields rest
unfolding fields without into_field
field_first [] rest h = refl
field_first (x ∷ xs) rest h = go (eqb x 9) h (field_first xs rest (search ands))
  where
    go : (v : Bool) → (not v && without 9 xs) ≡ true → fields (xs ++ (9 ∷ rest)) ≡ xs ∷ fields rest →
        cond v ([] ∷ fields (xs ++ (9 ∷ rest))) (into_field x (fields (xs ++ (9 ∷ rest)))) ≡ (x ∷ xs) ∷ fields rest
    go true k e = let z : ◌≡◌ {A = ℕ} 0 1 = cc in absurd (omega arith)
    go false k e = rw e

pub line_first : (l rest : List ℕ) → without 10 l ≡ true → lines (l ++ (10 ∷ rest)) ≡ line l true ∷ lines rest
unfolding lines without to_front line
line_first [] rest h = refl
line_first (x ∷ xs) rest h = go (eqb x 10) h (line_first xs rest (search ands))
  where
    go : (v : Bool) → (not v && without 10 xs) ≡ true → lines (xs ++ (10 ∷ rest)) ≡ line xs true ∷ lines rest →
        cond v (line [] true ∷ lines (xs ++ (10 ∷ rest))) (to_front x (lines (xs ++ (10 ∷ rest)))) ≡ line (x ∷ xs) true ∷ lines rest
    go true k e = let z : ◌≡◌ {A = ℕ} 0 1 = cc in absurd (omega arith)
    go false k e = rw e
