-- Words, and numbers in a field: the laws of the loop that reads digits (start, step, refusal, end), and of the tests that the code makes.
-- Assumes nothing.
use mathlib.Core.Path.{◌≡◌, refl, ap, ◌∙◌}
use mathlib.Core.Bool.{Bool, true, false, ◌&&◌}
use mathlib.Core.List.{List, [], ◌∷◌}
use Prim.Native.Nat.{ℕ, ◌+◌, ◌*◌, ◌-◌, ◌^◌, ◌≤◌, ◌<◌}
use native.Mathlib.Nat.{pow-succ', pow-le-pow_right}
use native.Mathlib.Numerals.{add-one}
use native.Mathlib.Omega.{arith}
use lib.ListN.{length, get_or, drop, drop_of_length-le}
use lib.Seq.{drop-cons}
use borrow.Author.Tests.{leb-true}
use Rattle.numbers.proofs.Bools.{ands}
use lib.Dec.{eqb}
use Rattle.std.specs.Prelude.{Option, None, Some}
use Rattle.std.specs.Cmp.Lexicographic.{pointwise}
use Rattle.lines.specs.Lines.{is_digit, all_digits, is_number, value_of, value, same_bytes}
use Rattle.lines.specs.Numbers.{sized, digits_read, Counting, field_read}

-- BYTE STRINGS
pub same_pointwise : (xs ys : List ℕ) → pointwise eqb xs ys ≡ same_bytes xs ys
unfolding same_bytes
same_pointwise [] [] = refl
same_pointwise [] (y ∷ ys) = refl
same_pointwise (x ∷ xs) [] = refl
same_pointwise (x ∷ xs) (y ∷ ys) = ap (λ b. eqb x y && b) (same_pointwise xs ys)

-- DIGITS
pub first_digit : (xs : List ℕ) → 0 < length xs → get_or xs 0 48 ≡ get_or xs 0 0
first_digit [] h = absurd (omega arith)
first_digit (x ∷ xs) h = refl

pub digit_says : (x : ℕ) → is_digit x ≡ true → (48 ≤ x) × (x ≤ 57)
unfolding is_digit
digit_says x h = (leb-true 48 x (search ands), leb-true x 57 (search ands))

sized_few : (xs : List ℕ) → sized xs ≡ true → length xs ≤ 4
unfolding sized
sized_few xs h = leb-true (length xs) 4 (search ands)

pub counting_starts : (xs : List ℕ) → Counting xs 0 0
unfolding value
counting_starts xs = record { below = omega arith; small = omega arith; digits = refl; value = refl }

-- fewer digits make a smaller power
power : (i n : ℕ) → i ≤ n → 10 ^ i ≤ 10 ^ n
power i n h = pow-le-pow_right {n = 10} (omega arith) {i = i} {j = n} h

module _ (xs : List ℕ) (i v : ℕ) (m : Counting xs i v) where
  pub counted_small : i < 10 → v < 1000000000
  counted_small h = let p : 10 ^ 9 ≡ 1000000000 = refl in omega (arith, m.small, power i 9 (omega arith))

  pub counting_steps : i < length xs → is_digit (get_or xs i 0) ≡ true → Counting xs (i + 1) (10 * v + (get_or xs i 0 - 48))
  unfolding all_digits value_of
  counting_steps h d =
      let s = digit_says (get_or xs i 0) d in
      record {
        below = omega arith;
        small = omega (arith, m.small, pow-succ' 10 i, ap (λ n. 10 ^ n) (add-one i));
        digits = m.digits ∙ rw (drop-cons xs i 0 h, d, add-one i);
        value = m.value ∙ rw (drop-cons xs i 0 h, add-one i);
      }

  pub counting_refuses : i < length xs → is_digit (get_or xs i 0) ≡ false → None ≡ digits_read xs
  unfolding digits_read all_digits
  counting_refuses h d =
      let bad : all_digits xs ≡ false = m.digits ∙ rw (drop-cons xs i 0 h, d) in
      rw bad

  pub counting_ends : length xs ≤ i → Some v ≡ digits_read xs
  unfolding digits_read all_digits value_of
  counting_ends h =
      let none : drop i xs ≡ [] = drop_of_length-le xs {i = i} h in
      let all : all_digits xs ≡ true = m.digits ∙ rw none in
      let whole : value xs ≡ v = m.value ∙ rw none in
      rw (all, whole)

  pub counting_small : v < 10 ^ length xs
  counting_small = omega (arith, m.small, power i (length xs) m.below)

pub ruleset counting = (counting_starts, counting_steps, counting_refuses, counting_ends, counting_small, counted_small, digit_says)

-- A FIELD
pub digits_few : (xs : List ℕ) → sized xs ≡ true → length xs ≤ 10
digits_few xs h = omega (arith, sized_few xs h)

pub value_small : (xs : List ℕ) (v : ℕ) → sized xs ≡ true → v < 10 ^ length xs → v < 10000
value_small xs v h d = let p : 10 ^ 4 ≡ 10000 = refl in omega (arith, d, power (length xs) 4 (sized_few xs h))

and_no : (a : Bool) → (a && false) ≡ false
and_no true = refl
and_no false = refl

pub not_sized : (xs : List ℕ) → sized xs ≡ false → None ≡ field_read xs
unfolding field_read is_number sized
not_sized xs h = rw (h, and_no (all_digits xs))

pub sized_read : (xs : List ℕ) (r : Option ℕ) → sized xs ≡ true → r ≡ digits_read xs → r ≡ field_read xs
unfolding field_read digits_read is_number sized
sized_read xs r h e = e ∙ rw (h, and_yes (all_digits xs))
  where
    and_yes : (a : Bool) → (a && true) ≡ a
    and_yes true = refl
    and_yes false = refl

pub ruleset sizes = (digits_few, value_small, not_sized, sized_read)
