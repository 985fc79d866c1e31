-- What the end of an output leaves behind. Assumes nothing: these are definitions.
use Rattle.std.specs.Prelude.{◌≡◌, Bool, true, false, List, ℕ, leb, length, Ok, Err}
use Rattle.text.specs.Text.{refusal}
use Rattle.text.specs.declared.Refused.{Refused}
use Rattle.writing.specs.Output.{cleared}
use Rattle.reply.specs.Told.{TableResult, zeros, table_told}

-- a refusal with zeros in the whole output
pub record RefusedTable (w : Refused) (o o_now : List ℕ) (r : TableResult) : Type 0 where
  pub refused : r ≡ Err w
  pub cleared : o_now ≡ zeros o

-- a text of so many bytes that was put where there is space for it: zeros behind it, or short space with zeros in the whole output
unfoldable pub Ended : (fits : Bool) → (written : ℕ) → (o o_now : List ℕ) → TableResult → Type 0
Ended true w o x r = (r ≡ Ok w) × (x ≡ cleared w o)
Ended false w o x r = table_told (refusal 8 0 0) 0 r × (x ≡ zeros o)

-- the same, or a refusal
unfoldable pub Finished : (put : TableResult) → (o o_now : List ℕ) → TableResult → Type 0
Finished (Ok w) o x r = Ended (leb w (length o)) w o x r
Finished (Err e) o x r = RefusedTable e o x r
