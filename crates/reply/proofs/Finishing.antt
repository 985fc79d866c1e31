-- The laws of the end of an output: too little space, or zeros behind what was put. Assumes nothing.
use mathlib.Core.Path.{◌≡◌, refl}
use mathlib.Core.List.{List}
use Prim.Native.Nat.{ℕ, ◌≤◌, ◌<◌}
use lib.ListN.{length}
use borrow.Author.Tests.{le-leb, lt-leb}
use Rattle.std.specs.Prelude.{Ok}
use Rattle.text.specs.Text.{refusal}
use Rattle.text.specs.Outcome.{refused}
use Rattle.text.specs.declared.Refused.{Refused}
use Rattle.text.specs.declared.Refusal.TheVariants.{ShortSpace}
use Rattle.writing.specs.Output.{cleared}
use Rattle.reply.specs.Told.{TableResult, table_told}
use Rattle.reply.specs.Parts.{RefusedTable, Ended, Finished}

pub finished_short : (z : Refused) (w : ℕ) (o x : List ℕ) (r : TableResult) → length o < w → z ≡ refused ShortSpace 0 0 → RefusedTable z o x r → Finished (Ok w) o x r
unfolding Finished Ended table_told refusal
finished_short z w o x r h e t = rw (lt-leb w (length o) h) (rw (t.refused, e) (refl, refl), t.cleared)

pub finished_whole : (w : ℕ) (o x : List ℕ) → w ≤ length o → x ≡ cleared w o → Finished (Ok w) o x (Ok w)
unfolding Finished Ended
finished_whole w o x h c = rw (le-leb w (length o) h) (refl, c)
