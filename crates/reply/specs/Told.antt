-- TRUSTED. What an answer for a table or a page tells, and an output of zeros. Assumes nothing: these are definitions.
use Rattle.std.specs.Prelude.{◌≡◌, List, ℕ, length, replicate, Result, Ok, Err}
use Rattle.text.specs.Text.{Refusal}
use Rattle.text.specs.Outcome.{refusal_of}
use Rattle.text.specs.declared.Refused.{Refused}

unfoldable pub zeros : List ℕ → List ℕ
zeros o = replicate (length o) 0

-- what is answered of a table or a page: how many bytes are written, none of what is refused
abbrev pub TableResult : Type 0
TableResult = Result ℕ Refused

abbrev pub written_in : TableResult → ℕ
written_in (Ok n) = n
written_in (Err r) = 0

unfoldable pub table_told : Refusal → (written : ℕ) → TableResult → Type 0
table_told f w r = (refusal_of r ≡ f) × (written_in r ≡ w)
