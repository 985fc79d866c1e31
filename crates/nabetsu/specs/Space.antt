-- TRUSTED. How much space is enough for every table, and how great a total can be. Each statement is proved in proofs/Space.antt. Assumes nothing: these are definitions.
use Rattle.std.specs.Prelude.{◌≡◌, true, List, ℕ, ◌≤◌, length}
use Rattle.stack.specs.Stack.{Answer, Row, RowsAre, sum}
use Rattle.text.specs.Text.{text_refusal, stack_in}
use Rattle.text.specs.Outcome.{refusal_of}
use Rattle.writing.specs.TableText.{table_text}
use Rattle.reply.specs.Told.{TableResult}
use Rattle.nabetsu.specs.Promise.{accepted}

-- the table of an accepted text has at most 24,388 bytes: 8 of the first line, and at most 265 rows of at most 92, whatever its floors and windows are
unfoldable pub TableSpace : Type 0
TableSpace =
    (bs : List ℕ) (rs : List Row) → accepted bs ≡ true → RowsAre (stack_in bs) rs → length (table_text (length (stack_in bs).channels) rs) ≤ 24388

-- no total of an answer is above 512: eight channels of at most 64 tracks
unfoldable pub TotalBelow : Type 0
TotalBelow = (bs : List ℕ) (s : ℕ) (ts xs : List ℕ) → accepted bs ≡ true → Answer (stack_in bs) s ts xs → sum ts ≤ 512

-- with so many bytes of output, a table is refused only where its text is
unfoldable pub SpaceEnough : (bytes : ℕ) → List ℕ → TableResult → (o : List ℕ) → Type 0
SpaceEnough n bs r o = (text_refusal bs).number ≡ 0 → n ≤ length o → (refusal_of r).number ≡ 0
