-- What the reader of a line of any kind answers. Assumes nothing: these are definitions.
use Rattle.std.specs.Prelude.{◌≡◌, Bool, cond, Option, None, Some, Result, Ok, Err, IfOk, OnOk, List, ℕ, ⊤, length}
use Rattle.lines.specs.Lines.{Line, numbers_of}
use Rattle.lines.specs.Numbers.{in_places}
use Rattle.text.specs.Text.{Refusal, refusal, fine, or_else, Entry, entry, Kind, kind, exactly, one_or_three, in_pairs, layout, Check}
use Rattle.text.specs.Outcome.{refusal_of}
use Rattle.text.specs.declared.Refused.{Refused}
use Rattle.text.specs.declared.Counts.{Counts}
use Rattle.text.specs.declared.Counts.TheVariants.{Exactly, OneOrThree, InPairs, Any}

-- the field at which a count of numbers is at fault
abbrev pub fault_of : Counts → (count : ℕ) → ℕ
fault_of (Exactly due) n = exactly due n
fault_of OneOrThree n = one_or_three n
fault_of InPairs n = in_pairs n
fault_of Any n = 0

-- a refusal at a field of line n, if there is one
abbrev pub refused_at : (number n : ℕ) → Option ℕ → Refusal
refused_at m n None = fine
refused_at m n (Some f) = refusal m n f

-- the layout of line n: whether it has its word, the field at which its count of numbers is at fault, and the first that is no number
unfoldable pub layout_found : (worded : Bool) → (fault ill : Option ℕ) → (n : ℕ) → Refusal
layout_found w f i n = cond w (or_else (refused_at 11 n f) (refused_at 12 n i)) (refusal 2 n 0)

-- how many numbers a line has where its layout is good, or why it is not
abbrev pub accepted : Result ⊤ Refused → (count : ℕ) → Result ℕ Refused
accepted (Ok t) n = Ok n
accepted (Err x) n = Err x

-- line n as a line of a word and counts, whatever is asked of its numbers: its layout, and where that is good how many numbers it has, a good count, and they
pub record IsKindRead (w : List ℕ) (f : ℕ → ℕ) (n : ℕ) (l : Line) (r : Result ℕ Refused) (values : List ℕ) : Type 0 where
  pub layout : (c : Entry → Refusal) → refusal_of r ≡ layout (kind w f c) n l
  pub fault : IfOk r (λ count. f count ≡ 0)
  pub count : IfOk r (λ count. count ≡ length (numbers_of l))
  pub kept : OnOk r (values ≡ in_places 64 (numbers_of l))

-- what is refused of a line: of a check, and of line n as a line of a kind
abbrev pub line_refusal : Check → Refusal
line_refusal c = or_else c.form c.content

unfoldable pub kind_refusal : Kind → (n : ℕ) → Line → Refusal
kind_refusal K n l = or_else (layout K n l) (K.content (entry n 0 (numbers_of l)))
