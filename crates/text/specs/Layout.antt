-- TRUSTED. What the layout of a line is refused for, in document 02's words, P5: the line, 2; then the count of its fields, 11; then the first number that is
-- ill-formed, 12. proofs/Layouts.antt proves that `layout` says so of every line. Assumes nothing: these are definitions.
use Rattle.std.specs.Prelude.{◌≡◌, true, false, List, [], ℕ, ◌+◌, ◌<◌, length, get_or}
use Rattle.lines.specs.Lines.{Line, number_fields, has_word, is_number}
use Rattle.text.specs.Text.{Refusal, refusal, fine, Kind, layout}

-- of the fields behind the word, counted from 0, the first that is no number
pub record FirstIll (fs : List (List ℕ)) (j : ℕ) : Type 0 where
  pub within : j < length fs
  pub ill : is_number (get_or fs j []) ≡ false
  pub before : (i : ℕ) → i < j → is_number (get_or fs i []) ≡ true

-- what a refusal of the layout of line n says of the line
pub data LayoutIs (K : Kind) (n : ℕ) (l : Line) : Refusal → Type 0 where
  line_fault : has_word l K.word ≡ false → LayoutIs K n l (refusal 2 n 0)
  count_fault : has_word l K.word ≡ true → (K.fault (length (number_fields l)) ≡ 0 → ⊥) → LayoutIs K n l (refusal 11 n (K.fault (length (number_fields l))))
  number_fault : has_word l K.word ≡ true → K.fault (length (number_fields l)) ≡ 0 → (j : ℕ) → FirstIll (number_fields l) j → LayoutIs K n l (refusal 12 n (j + 2))
  good : has_word l K.word ≡ true → K.fault (length (number_fields l)) ≡ 0 → ((j : ℕ) → j < length (number_fields l) → is_number (get_or (number_fields l) j []) ≡ true) →
      LayoutIs K n l fine

unfoldable pub LayoutTold : Type 0
LayoutTold = (K : Kind) (n : ℕ) (l : Line) → LayoutIs K n l (layout K n l)
