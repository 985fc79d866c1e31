-- A number's digits are std's decimal text, so a number below 10 ^ n and 2 ^ 64 has at most n; and numbers behind tabs, one list behind another. Assumes nothing.
use mathlib.Core.Path.{◌≡◌, refl, ap, sym, ◌∙◌}
use mathlib.Core.List.{List, [], ◌∷◌, ◌++◌, append_assoc, append-nil}
use Prim.Native.Nat.{ℕ, ◌^◌, ◌≤◌, ◌<◌}
use native.Mathlib.Omega.{arith}
use lib.ListN.{length}
use borrow.Author.Tests.{lt-ltb, le-ltb}
use Rattle.std.specs.Fmt.{decimal}
use Rattle.std.proofs.lemmas.Fmt.{PrependsLastDigit, decimal_from_prepends, length-decimal-le}
use Rattle.writing.specs.TableText.{digits_from, digits, tabbed}

last_digit_first : PrependsLastDigit digits_from
unfolding digits_from
last_digit_first =
    record {
      one = λ k n acc h. rw (lt-ltb n 10 h);
      more = λ k n acc h. rw (le-ltb n 10 h);
    }

pub digits_decimal : (v : ℕ) → v < 2 ^ 64 → digits v ≡ decimal v
unfolding digits
digits_decimal v h = decimal_from_prepends digits_from last_digit_first 20 v [] h (length-decimal-le 20 v (omega arith) (omega arith) h) ∙ append-nil (decimal v)

pub digits_below : (n v : ℕ) → 1 ≤ n → v < 10 ^ n → v < 2 ^ 64 → length (digits v) ≤ n
digits_below n v h k fits = rw (digits_decimal v fits) (length-decimal-le n v (omega arith) k fits)

pub tabbed_one : (v : ℕ) → tabbed (v ∷ []) ≡ 9 ∷ digits v
unfolding tabbed
tabbed_one v = append-nil (9 ∷ digits v)

pub tabbed_append : (xs ys : List ℕ) → tabbed (xs ++ ys) ≡ tabbed xs ++ tabbed ys
unfolding tabbed
tabbed_append [] ys = refl
tabbed_append (x ∷ xs) ys = ap (λ (l : List ℕ). (9 ∷ digits x) ++ l) (tabbed_append xs ys) ∙ sym (append_assoc (9 ∷ digits x) (tabbed xs) (tabbed ys))
