-- What the readers of words and numbers answer: whether a field is a number and which, and the word and the numbers of a line. Assumes nothing: these are definitions.
use Rattle.std.specs.Prelude.{◌≡◌, Bool, ◌&&◌, ◌||◌, not, cond, Option, None, Some, List, [], ◌∷◌, ℕ, zero, suc, ◌^◌, ◌≤◌, ◌<◌, leb, eqb, length, get_or, drop}
use Rattle.lines.specs.Lines.{Line, number_fields, has_word, all_digits, is_number, ill_formed, value_of, value, numbers_of}
use Rattle.lines.specs.declared.Numbers.{Numbers}
use Rattle.lines.specs.declared.LineRead.{LineRead}

-- a number's count of digits and its first digit
unfoldable pub sized : List ℕ → Bool
sized xs = (leb 1 (length xs) && leb (length xs) 4) && (eqb (length xs) 1 || not (eqb (get_or xs 0 48) 48))

-- the value of digits
unfoldable pub digits_read : List ℕ → Option ℕ
digits_read xs = cond (all_digits xs) (Some (value xs)) None

-- while digits are read: the first i are digits, and v is their value
pub record Counting (xs : List ℕ) (i v : ℕ) : Type 0 where
  pub below : i ≤ length xs
  pub small : v < 10 ^ i
  pub digits : all_digits xs ≡ all_digits (drop i xs)
  pub value : value xs ≡ value_of v (drop i xs)

-- a field's number
unfoldable pub field_read : List ℕ → Option ℕ
field_read f = cond (is_number f) (Some (value f)) None

-- a field's number; 0 where it is ill-formed
unfoldable pub number_in : List ℕ → ℕ
number_in f = cond (is_number f) (value f) 0

unfoldable pub numbers_in : List (List ℕ) → List ℕ
numbers_in [] = []
numbers_in (f ∷ fs) = number_in f ∷ numbers_in fs

-- the first n numbers, and zeros in the places past them
unfoldable pub in_places : (n : ℕ) → List ℕ → List ℕ
in_places zero xs = []
in_places (suc n) [] = 0 ∷ in_places n []
in_places (suc n) (x ∷ xs) = x ∷ in_places n xs

-- a field as an option, where field 0 stands for none
abbrev pub field_if_any : ℕ → Option ℕ
field_if_any f = cond (eqb f 0) None (Some f)

-- the first ill-formed of fields that begin with field 2, how many they are, and the first 64 numbers
pub record NumbersRead (fs : List (List ℕ)) (r : Numbers) (values : List ℕ) : Type 0 where
  pub ill : r.ill ≡ field_if_any (ill_formed 2 fs)
  pub count : r.count ≡ length fs
  pub kept : values ≡ in_places 64 (numbers_in fs)

-- A LINE as one of a word; its numbers where all are well-formed
pub record IsLineRead (l : Line) (w : List ℕ) (r : LineRead) (values : List ℕ) : Type 0 where
  pub worded : r.worded ≡ has_word l w
  pub ill : r.ill ≡ field_if_any (ill_formed 2 (number_fields l))
  pub count : r.count ≡ length (number_fields l)
  pub kept : r.ill ≡ None → values ≡ in_places 64 (numbers_of l)
