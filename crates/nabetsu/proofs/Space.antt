-- The space that is enough for every table: an accepted text's stack is within the limits, so table_bytes bounds its table, and where that many bytes are
-- given TableSays leaves no refusal but the text's. Assumes nothing.
use mathlib.Core.Path.{◌≡◌, ap}
use mathlib.Core.List.{List}
use Prim.Native.Nat.{ℕ, ◌≤◌}
use native.Mathlib.Omega.{arith}
use lib.Dec.{leb}
use lib.ListN.{length}
use borrow.Author.Tests.{le-leb}
use Rattle.text.specs.Text.{Refusal, refusal, stack_in}
use Rattle.text.specs.Outcome.{refusal_of}
use Rattle.reading.proofs.Within.{accepted_within}
use Rattle.writing.specs.Output.{row_bytes, rows_most, table_bytes}
use Rattle.writing.specs.TableText.{table_text}
use Rattle.table.proofs.Space.{rows_space, total_small}
use Rattle.reply.specs.Told.{TableResult, table_told}
use Rattle.nabetsu.specs.Entry.{Fits, Tabled, TableSays}
use Rattle.nabetsu.specs.Space.{TableSpace, TotalBelow, SpaceEnough}
use Rattle.nabetsu.proofs.Promises.{stack_within}

pub table_space : TableSpace
unfolding TableSpace table_bytes row_bytes rows_most
table_space bs rs e a = rows_space (stack_in bs) (stack_within bs e) rs a

pub total_below : TotalBelow
unfolding TotalBelow
total_below bs s ts xs e a = total_small (stack_in bs) (stack_within bs e) s ts xs a

-- a text that fits is written
pub fits_fine : (t : List ℕ) (r : TableResult) (o x : List ℕ) → length t ≤ length o → Fits (leb (length t) (length o)) t r o x → (refusal_of r).number ≡ 0
unfolding Fits table_told refusal
fits_fine t r o x h f = let told = rw (le-leb (length t) (length o) h) at f in ap (λ (f : Refusal). f.number) told.0.0

pub space_enough : (bs : List ℕ) (r : TableResult) (o x : List ℕ) → TableSays bs r o x → SpaceEnough 24388 bs r o
unfolding TableSays Tabled SpaceEnough table_bytes row_bytes rows_most
space_enough bs r o x says z l =
    let t = rw z at says in
    fits_fine (table_text (length (stack_in bs).channels) t.0) r o x (omega (arith, rows_space (stack_in bs) (accepted_within bs z) t.0 t.1)) t.2
