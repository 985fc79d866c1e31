-- TRUSTED. The text of a session's steps: BEGIN and a PART line; ADD, a PART line and a NETS line; OFF. Document 02, P6 and P7, in the words of the program. Assumes
-- nothing: these are definitions.
use Rattle.std.specs.Prelude.{Bool, cond, Option, None, Some, List, [], ◌∷◌, ℕ, eqb, length, get_or}
use Rattle.lines.specs.Lines.{Line, same_bytes, numbers_of}
use Rattle.text.specs.Text.{fine, part_word, nets_word, Kind, kind, exactly, layout}
use Rattle.steps.specs.declared.StepLine.{StepLine}
use Rattle.steps.specs.declared.StepLine.TheVariants.{BeginPart, AddPart, AddNets, Begin, Add, Off}

-- the words BEGIN, ADD and OFF
unfoldable pub begin_word : List ℕ
begin_word = 66 ∷ 69 ∷ 71 ∷ 73 ∷ 78 ∷ []

unfoldable pub add_word : List ℕ
add_word = 65 ∷ 68 ∷ 68 ∷ []

unfoldable pub off_word : List ℕ
off_word = 79 ∷ 70 ∷ 70 ∷ []

-- PART with a length alone: the strips of a session are free
unfoldable pub length_kind : Kind
length_kind = kind part_word (λ n. exactly 1 n) (λ e. fine)

-- NETS with any count of numbers: an odd list is the step's own refusal
unfoldable pub list_kind : Kind
list_kind = kind nets_word (λ n. 0) (λ e. fine)

-- the layout of a line as a line of a kind is good
unfoldable pub is_line : Kind → Line → Bool
is_line K l = eqb (layout K 0 l).number 0

-- the first line of a step: an ended line of its word alone
unfoldable pub word_line : Line → Option StepLine
word_line l =
    cond l.ended
    (cond (same_bytes l.bytes begin_word) (Some BeginPart) (cond (same_bytes l.bytes add_word) (Some AddPart) (cond (same_bytes l.bytes off_word) (Some Off) None)))
    None

unfoldable pub length_in : Line → ℕ
length_in l = get_or (numbers_of l) 0 0

-- WHAT A LINE IS behind another, if it is a line of a step: a step that it makes whole, Begin, Add with how many terminals it has, or Off; or the first lines of one,
-- whose next is awaited. None stands before the first line.
unfoldable pub step_line : (before : Option StepLine) → Line → Option StepLine
step_line None l = word_line l
step_line (Some BeginPart) l = cond (is_line length_kind l) (Some (Begin (length_in l))) None
step_line (Some AddPart) l = cond (is_line length_kind l) (Some (AddNets (length_in l))) None
step_line (Some (AddNets n)) l = cond (is_line list_kind l) (Some (Add n (length (numbers_of l)))) None
step_line (Some (Begin n)) l = word_line l
step_line (Some (Add n c)) l = word_line l
step_line (Some Off) l = word_line l
