-- TRUSTED. A text's lines, their fields, words and numbers. Document 01, "Lines and tabs". Assumes nothing: these are definitions.
use Rattle.std.specs.Prelude.{Bool, true, false, ◌&&◌, ◌||◌, not, cond, List, [], ◌∷◌, ℕ, suc, ◌+◌, ◌*◌, ◌-◌, leb, eqb, length, get_or, drop}
use Rattle.lines.specs.declared.Line.{Line as LineStruct}

-- LINES, each ended by a line feed, byte 10; what is behind the last is an unended line
pub record Line : Type 0 where
  pub bytes : List ℕ
  pub ended : Bool

unfoldable pub line : List ℕ → (ended : Bool) → Line
line b e = record { bytes = b; ended = e }

-- the line that a struct stands for
abbrev pub line_of : LineStruct → Line
line_of l = line l.bytes.now l.ended

unfoldable pub to_front : ℕ → List Line → List Line
to_front x [] = line (x ∷ []) false ∷ []
to_front x (l ∷ ls) = line (x ∷ l.bytes) l.ended ∷ ls

unfoldable pub lines : List ℕ → List Line
lines [] = []
lines (x ∷ xs) = cond (eqb x 10) (line [] true ∷ lines xs) (to_front x (lines xs))

-- line i + 1; a missing line is no line
unfoldable pub no_line : Line
no_line = line [] false

unfoldable pub line_at : List Line → (i : ℕ) → Line
line_at ls i = get_or ls i no_line

-- FIELDS parted by one tab, byte 9: a word, and numbers behind it
unfoldable pub into_field : ℕ → List (List ℕ) → List (List ℕ)
into_field x [] = (x ∷ []) ∷ []
into_field x (f ∷ fs) = (x ∷ f) ∷ fs

unfoldable pub fields : List ℕ → List (List ℕ)
fields [] = [] ∷ []
fields (x ∷ xs) = cond (eqb x 9) ([] ∷ fields xs) (into_field x (fields xs))

unfoldable pub word_of : Line → List ℕ
word_of l = get_or (fields l.bytes) 0 []

unfoldable pub number_fields : Line → List (List ℕ)
number_fields l = drop 1 (fields l.bytes)

-- a line is ended and has a WORD
unfoldable pub same_bytes : (a b : List ℕ) → Bool
same_bytes [] [] = true
same_bytes [] (y ∷ ys) = false
same_bytes (x ∷ xs) [] = false
same_bytes (x ∷ xs) (y ∷ ys) = eqb x y && same_bytes xs ys

unfoldable pub has_word : Line → (w : List ℕ) → Bool
has_word l w = l.ended && same_bytes (word_of l) w

-- a NUMBER: 1 to 4 decimal digits without a leading zero, save 0 itself
unfoldable pub is_digit : ℕ → Bool
is_digit x = leb 48 x && leb x 57

unfoldable pub all_digits : List ℕ → Bool
all_digits [] = true
all_digits (x ∷ xs) = is_digit x && all_digits xs

unfoldable pub is_number : List ℕ → Bool
is_number xs =
    all_digits xs && ((leb 1 (length xs) && leb (length xs) 4) && (eqb (length xs) 1 || not (eqb (get_or xs 0 48) 48)))

-- the first of these fields that is no number, where the first of them is field f; 0 where all are numbers
unfoldable pub ill_formed : (f : ℕ) → List (List ℕ) → ℕ
ill_formed f [] = 0
ill_formed f (x ∷ xs) = cond (is_number x) (ill_formed (suc f) xs) f

unfoldable pub value_of : (so_far : ℕ) → List ℕ → ℕ
value_of v [] = v
value_of v (x ∷ xs) = value_of (10 * v + (x - 48)) xs

unfoldable pub value : List ℕ → ℕ
value xs = value_of 0 xs

unfoldable pub values : List (List ℕ) → List ℕ
values [] = []
values (f ∷ fs) = value f ∷ values fs

unfoldable pub numbers_of : Line → List ℕ
numbers_of l = values (number_fields l)
