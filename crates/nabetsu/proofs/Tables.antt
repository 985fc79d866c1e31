-- The laws of write_table: a refused text, and the table where it was put: too little space, or its whole text. Assumes nothing.
use mathlib.Core.Path.{◌≡◌, refl, sym, ◌∙◌}
use mathlib.Core.List.{List}
use mathlib.Core.Logic.{◌⊎◌, inl, inr}
use Prim.Native.Nat.{ℕ, zero, suc, ◌≤◌, ◌<◌}
use native.Mathlib.Omega.{arith}
use lib.Dec.{leb}
use lib.ListN.{length}
use borrow.Author.Tests.{le-leb, lt-leb}
use Rattle.numbers.proofs.Orders.{le_or_lt}
use Rattle.std.specs.Prelude.{Ok, Err}
use Rattle.stack.specs.Stack.{Stack}
use Rattle.stack.specs.Value.{stack_of}
use Rattle.stack.specs.declared.Stack.{Stack as StackStruct}
use Rattle.text.specs.Text.{Refusal, refusal, fine, text_refusal, stack_in}
use Rattle.text.proofs.Refusals.{word_not_fine, fine_number}
use Rattle.reading.proofs.Within.{accepted_within}
use Rattle.rows.specs.Walk.{rows_of}
use Rattle.rows.proofs.Rows.{rows_are}
use Rattle.writing.specs.Output.{Written}
use Rattle.writing.proofs.Lines.{written_ends}
use Rattle.table.specs.Walking.{TablePut}
use Rattle.reply.specs.Told.{TableResult, zeros, table_told}
use Rattle.reply.specs.Parts.{Ended, Finished}
use Rattle.nabetsu.specs.Entry.{Fits, Tabled, TableSays}
use Rattle.reading.specs.Driver.{StackRead}
use Rattle.nabetsu.specs.Parts.{TextPut, table_in}

pub zeros_long : (o m x : List ℕ) → length m ≡ length o → x ≡ zeros m → x ≡ zeros o
unfolding zeros
zeros_long o m x l e = e ∙ rw l

-- where a text was put it stands whole with zeros behind it, or is too long
ended_fits : (t : List ℕ) (w : ℕ) (b o m x : List ℕ) (r : TableResult) → length m ≡ length o → w ≡ length t → Written t b m → Ended (leb w (length m)) w m x r →
    Fits (leb (length t) (length o)) t r o x
unfolding Ended Fits table_told refusal fine
ended_fits t w b o m x r l c p = rw (l, c) (go (le_or_lt (length t) (length o)))
  where
    go : (length t ≤ length o) ⊎ (length o < length t) → Ended (leb (length t) (length o)) (length t) m x r → Fits (leb (length t) (length o)) t r o x
    go (inl h) =
        let long : length b ≡ length o = sym p.same_length ∙ l in
        rw (le-leb (length t) (length o) h) (λ f. (rw f.0 (refl, refl), f.1 ∙ rw long at (written_ends p (omega arith))))
    go (inr h) = rw (lt-leb (length t) (length o) h) (λ f. (f.0, zeros_long o m x l f.1))

-- A TEXT WHERE IT FITS, or a refusal: what a table's answer and a page's have in common
pub data Settled (f : Refusal) (t : List ℕ) (r : TableResult) (o x : List ℕ) : Type 0 where
  fits : f ≡ fine → Fits (leb (length t) (length o)) t r o x → Settled f t r o x
  sent_back : (f.number ≡ 0 → ⊥) → table_told f 0 r → x ≡ zeros o → Settled f t r o x

pub settled : (f : Refusal) (t b o m x : List ℕ) (p r : TableResult) → TextPut f t b m p → length m ≡ length o → Finished p m x r → Settled f t r o x
unfolding Finished table_told
settled f t b o m x (Ok w) r p l d = fits (sym p.refused) (ended_fits t w b o m x r l p.counted p.written d)
settled f t b o m x (Err e) r p l d =
    sent_back (λ z. word_not_fine e (rw (← p.refused) at z)) (rw d.refused (p.refused, refl)) (zeros_long o m x l d.cleared)

tabled_refused : (n : ℕ) (f : Refusal) (k : Stack) (r : TableResult) (o x : List ℕ) → (n ≡ 0 → ⊥) → table_told f 0 r → x ≡ zeros o → Tabled n f k r o x
unfolding Tabled
tabled_refused zero f k r o x h t z = absurd (h refl)
tabled_refused (suc n) f k r o x h t z = (t, z)

pub table_said : (bs : List ℕ) (r : TableResult) (o x : List ℕ) → Settled (text_refusal bs) (table_in bs) r o x → TableSays bs r o x
unfolding TableSays Tabled table_in fine refusal
table_said bs r o x (fits q p) = let w = accepted_within bs (fine_number (text_refusal bs) (sym q)) in rw q (rows_of (stack_in bs), rows_are (stack_in bs) w, p)
table_said bs r o x (sent_back n t z) = tabled_refused (text_refusal bs).number (text_refusal bs) (stack_in bs) r o x n t z

pub table_put : (bs : List ℕ) (k : StackStruct) (m : List ℕ) (n : ℕ) → StackRead bs (Ok k) → TablePut (stack_of k) m n → TextPut (text_refusal bs) (table_in bs) m m (Ok n)
unfolding table_in
table_put bs k m n t p =
    let q : TablePut (stack_in bs) m n = rw t.stack at p in
    record { refused = t.outcome; counted = q.counted; written = q.written }
