-- The laws of what is printed, of the status and the words that go with it: a line put is printed where there is space for it, a refusal stands for any text, and then
-- the table, the page, the total, the row and the verdict, each where it is answered and where it is refused. Assumes nothing.
use mathlib.Core.Path.{◌≡◌, refl, sym, ap, ◌∙◌}
use mathlib.Core.Bool.{Bool, true, false}
use mathlib.Core.List.{List, [], ◌++◌}
use Prim.Native.Nat.{ℕ, zero, suc, ◌+◌, ◌*◌, ◌-◌, ◌≤◌}
use native.Mathlib.Omega.{arith}
use lib.Dec.{leb, eqb}
use lib.ListN.{length, get_or, take, drop, replicate, length-append}
use lib.Seq.{take-append_seam, take_at, length-take-le}
use borrow.Author.Tests.{le-leb, eq-eqb, ne_eqb}
use Rattle.std.specs.Prelude.{Option, Some, None, Result, Ok, Err, IfOk}
use Rattle.std.specs.Result.{result_transpose}
use Rattle.numbers.specs.Lists.{padded}
use Rattle.stack.specs.Value.{tracks_of}
use Rattle.stack.specs.Stack.{Stack, Row, RowsAre, Answer, sum}
use Rattle.stack.specs.declared.Tracks.{Tracks}
use Rattle.stack.proofs.Within.{few_channels, stack_channels}
use Rattle.text.specs.Text.{Refusal, refusal, fine, text_refusal, stack_in}
use Rattle.text.specs.Outcome.{number_of, refusal_of}
use Rattle.reading.specs.Driver.{StackRead}
use Rattle.text.specs.declared.Refused.{Refused as RefusedStruct}
use Rattle.stack.specs.declared.Stack.{Stack as StackStruct}
use Rattle.text.proofs.Refusals.{word_not_fine, fine_number, or_else_fine}
use Rattle.writing.specs.TableText.{row_text, table_text, total_text, refusal_text}
use Rattle.writing.specs.Output.{over, fitted, written, line_bytes, LinePut, row_of, RowAsks}
use Rattle.trial.specs.Legal.{is_legal}
use Rattle.answer.proofs.Alone.{legal_lengths}
use Rattle.page.specs.Page.{channel_page}
use Rattle.complaint.specs.Complaint.{complaint}
use Rattle.stack.specs.declared.Placement.{Placement as PlacementStruct}
use Rattle.nabetsu.specs.Pages.{page_refusal, Paged, PageSays}
use Rattle.reply.specs.Told.{TableResult, written_in, table_told}
use Rattle.spread.specs.Answers.{TotalResult, PlacementResult, total_in, spread_refusal, total_told, Totalled, TotalSays, placed_is, PlacedFor, placed, unmet, Placed, PlacementOr, PlacementSays}
use Rattle.nabetsu.specs.Entry.{Fits, Tabled, TableSays, TrialSays}
use Rattle.spread.specs.Best.{Answered, AnsweredOr}
use Rattle.nabetsu.specs.Best.{SpreadSays}
use Rattle.nabetsu.specs.Promise.{BothTogether}
use Rattle.nabetsu.proofs.Promises.{both_together}
use Rattle.commands.specs.Output.{status_number, status_after, Printed, unless_refused, status_of, Replied, channels, TablePrinted, TotalPrinted, PlacementPrinted, SpreadPrinted, PagePrinted, separations_in, positions_in, verdict_text, trial_text, trial_status}
use Rattle.commands.specs.Parts.{Concluded, LineOr, TotalPut, PlacementPut, SpreadPut, TrialPut}
use Rattle.commands.specs.declared.Reply.{Reply}

-- what is printed is as long as the part of the output that is written
pub printed_counts : {f : Refusal} {t out : List ℕ} {s : ℕ} {r : Reply} → Printed f t s out r → r.length ≡ length (take r.length out)
printed_counts p = rw p.stands p.counted

-- A LINE put where there is space for it
pub put_printed : {t before after : List ℕ} {n : ℕ} (o : Result Unit RefusedStruct) → line_bytes ≤ length before → LinePut t before after n →
    Printed (refusal_of o) t (status_number (status_after o)) after (record { length = n; outcome = o })
unfolding written fitted over
put_printed {t} {before} {after} o h p =
    let short : length t ≤ length before = omega (arith, p.counted, p.few) in
    let e : after ≡ t ++ drop (length t) before = p.stands ∙ rw (le-leb (length t) (length before) short) in
    record {
      counted = p.counted;
      within = rw (p.counted, e, length-append) (omega arith);
      stands = rw (p.counted, e) (take-append_seam t (drop (length t) before));
      with_status = refl;
      in_words = refl;
    }

-- WHAT IS WRITTEN already
written_printed : (out : List ℕ) (n : ℕ) → n ≤ length out → Printed fine (take n out) 0 out (record { length = n; outcome = Ok tt })
written_printed out n h = record { counted = sym (length-take-le n out h); within = h; stands = refl; with_status = refl; in_words = refl }

-- NO WORDS where nothing is refused
no_words : (f : Refusal) → f.number ≡ 0 → complaint f ≡ []
unfolding complaint
no_words f h = rw (eq-eqb f.number 0 h)

same_words : {f : Refusal} {t out : List ℕ} {s : ℕ} {r : Reply} (g : Refusal) → f.number ≡ 0 → g.number ≡ 0 → Printed f t s out r → Printed g t s out r
same_words {f} g a b p = record {
  counted = p.counted;
  within = p.within;
  stands = p.stands;
  with_status = p.with_status;
  in_words = p.in_words ∙ (no_words f a ∙ sym (no_words g b));
}

-- A REFUSAL
module _ (f : Refusal) (t out : List ℕ) (r : Reply) where
  pub accepted_replied : f.number ≡ 0 → Printed f t 0 out r → Replied f t out r
  unfolding unless_refused status_of
  accepted_replied h p = rw (eq-eqb f.number 0 h) p

  replied_accepted : f.number ≡ 0 → Replied f t out r → Printed f t 0 out r
  unfolding unless_refused status_of
  replied_accepted h p = rw (eq-eqb f.number 0 h) at p

  refused_replied : (f.number ≡ 0 → ⊥) → Printed f (refusal_text f.number f.line f.field) 1 out r → Replied f t out r
  unfolding unless_refused status_of
  refused_replied h p = rw (ne_eqb f.number 0 h) p

  -- whatever the text was
  pub refused_any : (u : List ℕ) → (f.number ≡ 0 → ⊥) → Replied f u out r → Replied f t out r
  unfolding unless_refused
  refused_any u h p =
      let same : unless_refused f u ≡ unless_refused f t = rw (ne_eqb f.number 0 h) in
      rw same at p

pub refused_line : {before after : List ℕ} {n m : ℕ} (t : List ℕ) (e : RefusedStruct) → m ≡ number_of e.why → line_bytes ≤ length before →
    LinePut (refusal_text m e.line e.field) before after n → Replied (refusal (number_of e.why) e.line e.field) t after (record { length = n; outcome = Err e })
unfolding refusal
refused_line t e same h p =
    refused_replied (refusal (number_of e.why) e.line e.field) t _ _ (word_not_fine e) (put_printed (Err e) h (rw same at p))

-- what is written already, or a refusal's line over it
pub concluded_written : (a : TableResult) (x out : List ℕ) (r : Reply) → written_in a ≤ length x → Concluded a x out r → Replied (refusal_of a) (take (written_in a) x) out r
concluded_written (Ok n) x out r h c = rw (c.0, c.1) (accepted_replied fine (take n x) x _ (fine_number fine refl) (written_printed x n h))
concluded_written (Err e) x out r h c = c (take 0 x)

-- a line that is put, or a refusal's
pub line_replied : (f : Refusal) (t before x out : List ℕ) (a : Result ℕ RefusedStruct) (r : Reply) → line_bytes ≤ length before → LineOr f t before x a → Concluded a x out r →
    Replied f t out r
line_replied f t before x out (Ok n) r h l c = rw (c.0, c.1, ← l.refused) (accepted_replied fine t x _ (fine_number fine refl) (put_printed (Ok tt) h l.put))
line_replied f t before x out (Err e) r h l c = rw (← l.refused) (c t)

-- A TEXT WHERE IT FITS, or a refusal: what a table's answer and a page's have in common
data Settled (f : Refusal) (t : List ℕ) (a : TableResult) (o x : List ℕ) : Type 0 where
  fits : f.number ≡ 0 → Fits (leb (length t) (length o)) t a o x → Settled f t a o x
  sent_back : (f.number ≡ 0 → ⊥) → table_told f 0 a → Settled f t a o x

module _ (t : List ℕ) (a : TableResult) (o x : List ℕ) where
  fits_within : (v : Bool) → Fits v t a o x → written_in a ≤ length x
  unfolding Fits table_told
  fits_within true p = rw (p.1, length-append) (omega (arith, p.0.1))
  fits_within false p = omega (arith, p.0.1)

  fits_stands : (v : Bool) → Fits v t a o x → (refusal_of a).number ≡ 0 → take (written_in a) x ≡ t
  unfolding Fits table_told refusal
  fits_stands true p none = rw p.1 (take_at t (replicate (length o - length t) 0) (written_in a) (sym p.0.1))
  fits_stands false p none = let q : ◌≡◌ {A = ℕ} 8 0 = sym (ap (λ (f : Refusal). f.number) p.0.0) ∙ none in absurd (omega arith)

  module _ (f : Refusal) where
    settled_within : Settled f t a o x → written_in a ≤ length x
    unfolding table_told
    settled_within (fits z p) = fits_within (leb (length t) (length o)) p
    settled_within (sent_back n p) = omega (arith, p.1)

    -- where the space is enough, what is printed is the text, or the refusal's line
    settled_replied : (enough : f.number ≡ 0 → (refusal_of a).number ≡ 0) (out : List ℕ) (r : Reply) → Settled f t a o x →
        Replied (refusal_of a) (take (written_in a) x) out r → Replied f t out r
    unfolding table_told
    settled_replied enough out r (fits z p) q =
        let e : take (written_in a) x ≡ t = fits_stands (leb (length t) (length o)) p (enough z) in
        accepted_replied f t out r z (same_words f (enough z) z (replied_accepted (refusal_of a) t out r (enough z) (rw e at q)))
    settled_replied enough out r (sent_back n p) q = refused_any f t out r (take (written_in a) x) n (rw p.0 at q)

-- THE TABLE
module _ (bs : List ℕ) (a : TableResult) (o x : List ℕ) where
  abbrev TableSettled : Type 0
  TableSettled =
      (rs : List Row) × ((text_refusal bs).number ≡ 0 → RowsAre (stack_in bs) rs) × Settled (text_refusal bs) (table_text (channels bs) rs) a o x

  table_from : (m : ℕ) → (text_refusal bs).number ≡ m → Tabled m (text_refusal bs) (stack_in bs) a o x → TableSettled
  unfolding Tabled
  table_from zero e t = (t.0, (λ _. t.1), fits e t.2)
  table_from (suc m) e t = ([], (λ z. absurd (omega (arith, e, z))), sent_back (λ z. absurd (omega (arith, e, z))) t.0)

  table_settled : TableSays bs a o x → TableSettled
  unfolding TableSays
  table_settled t = table_from (text_refusal bs).number refl t

  pub table_within : TableSays bs a o x → written_in a ≤ length x
  table_within t =
      let s = table_settled t in
      settled_within (table_text (channels bs) s.0) a o x (text_refusal bs) s.2

  pub table_printed : ((text_refusal bs).number ≡ 0 → (refusal_of a).number ≡ 0) → (out : List ℕ) (r : Reply) → TableSays bs a o x →
      Replied (refusal_of a) (take (written_in a) x) out r → TablePrinted bs out r
  table_printed enough out r t p =
      let s = table_settled t in
      record { rows = s.0; rows_are = s.1; printed = settled_replied (table_text (channels bs) s.0) a o x (text_refusal bs) enough out r s.2 p }

-- A PAGE
module _ (bs : List ℕ) (s n : ℕ) (a : TableResult) (o x : List ℕ) where
  abbrev PageSettled : Type 0
  PageSettled =
      (ts : List ℕ) × (xs : List ℕ) × ((page_refusal bs s n).number ≡ 0 → Answer (stack_in bs) s ts xs)
      × Settled (page_refusal bs s n) (channel_page (stack_in bs) ts xs (n - 1)) a o x

  page_from : (m : ℕ) → (page_refusal bs s n).number ≡ m → Paged m (page_refusal bs s n) (stack_in bs) s n a o x → PageSettled
  unfolding Paged
  page_from zero e t = (t.0, t.1, (λ _. t.2), fits e t.3)
  page_from (suc m) e t = ([], [], (λ z. absurd (omega (arith, e, z))), sent_back (λ z. absurd (omega (arith, e, z))) t.0)

  page_settled : PageSays bs s n a o x → PageSettled
  unfolding PageSays
  page_settled t = page_from (page_refusal bs s n).number refl t

  pub page_within : PageSays bs s n a o x → written_in a ≤ length x
  page_within t =
      let p = page_settled t in
      settled_within (channel_page (stack_in bs) p.0 p.1 (n - 1)) a o x (page_refusal bs s n) p.3

  pub page_printed : ((page_refusal bs s n).number ≡ 0 → (refusal_of a).number ≡ 0) → (out : List ℕ) (r : Reply) → PageSays bs s n a o x →
      Replied (refusal_of a) (take (written_in a) x) out r → PagePrinted bs s n out r
  page_printed enough out r t q =
      let p = page_settled t in
      record {
        separations = p.0;
        positions = p.1;
        answered = p.2;
        printed = settled_replied (channel_page (stack_in bs) p.0 p.1 (n - 1)) a o x (page_refusal bs s n) enough out r p.3 q;
      }

-- how many channels the stack that is read has
pub count_is : (bs : List ℕ) (k : StackStruct) → StackRead bs (Ok k) → k.count ≡ channels bs
count_is bs k d = sym (stack_channels k) ∙ ap (λ (j : Stack). length j.channels) d.stack

-- THE LEAST TOTAL
module _ (bs : List ℕ) (s : ℕ) (a : TotalResult) (says : TotalSays bs s a) where
  total_from : (m : ℕ) → Totalled m (spread_refusal bs s) (stack_in bs) s a → refusal_of a ≡ spread_refusal bs s
  unfolding Totalled total_told
  total_from zero t = t.2.0
  total_from (suc m) t = t.0

  pub total_outcome : refusal_of a ≡ spread_refusal bs s
  unfolding TotalSays
  total_outcome = total_from (spread_refusal bs s).number says

  pub total_put : (o x : List ℕ) (r : Result ℕ RefusedStruct) → refusal_of r ≡ refusal_of a → IfOk r (λ n. LinePut (total_text (total_in a)) o x n) → TotalPut bs s o x r
  total_put o x r e p = record { answer = a; says = says; line = record { refused = e ∙ total_outcome; put = p } }

pub total_printed : (bs : List ℕ) (s : ℕ) (o x out : List ℕ) (a : Result ℕ RefusedStruct) (r : Reply) → line_bytes ≤ length o → TotalPut bs s o x a → Concluded a x out r → TotalPrinted bs s out r
total_printed bs s o x out a r h p c = record { answer = p.answer; says = p.says; printed = line_replied _ _ o x out a r h p.line c }

-- A ROW: where nothing is refused, the total is its separations' sum
pub record PlacedRow (f : Refusal) (k : Stack) (p : PlacementStruct) : Type 0 where
  pub none_refused : f.number ≡ 0
  pub added : p.total.0 ≡ sum (take (length k.channels) (tracks_of p.separations))

module _ (f : Refusal) (k : Stack) (s v : ℕ) (a : PlacementStruct) where
  placed_sum : PlacedFor k s v (Ok a) → a.total.0 ≡ sum (take (length k.channels) (tracks_of a.separations))
  unfolding placed_is padded refusal fine
  placed_sum (placed ts xs t p) =
      let l : length ts ≡ length k.channels = (legal_lengths k s ts xs t.is_legal).0 in
      p.1 ∙ sym t.exact ∙ rw (p.2, take_at ts (replicate (8 - length ts) 0) (length k.channels) l)
  placed_sum (unmet n p) = let z : ◌≡◌ {A = ℕ} 0 10 = ap (λ (g : Refusal). g.number) p.0 in absurd (omega arith)

  pub placed_row : PlacementOr f k s v (Ok a) → PlacedRow f k a
  unfolding Placed placed_is
  placed_row p = go f.number refl p
    where
      go : (m : ℕ) → f.number ≡ m → Placed m f k s v (Ok a) → PlacedRow f k a
      go zero e t = record { none_refused = e; added = placed_sum t }
      go (suc m) e t = record { none_refused = fine_number f t.0; added = absurd (omega (arith, fine_number f t.0)) }

-- THE PLACEMENT FOR A TOTAL
module _ (bs : List ℕ) (s v : ℕ) (a : PlacementStruct) (says : PlacementSays bs s v (Ok a)) where
  in_row : PlacedRow (spread_refusal bs s) (stack_in bs) a
  unfolding PlacementSays
  in_row = placed_row (spread_refusal bs s) (stack_in bs) s v a says

  -- a text whose stack is placed is read
  pub placed_read : (e : RefusedStruct) → StackRead bs (Err e) → ⊥
  unfolding spread_refusal
  placed_read e d = word_not_fine e (rw (← d.outcome) at ((or_else_fine (text_refusal bs) _ in_row.none_refused).0))

  module _ (k : StackStruct) (d : StackRead bs (Ok k)) where
    pub row_asked : RowAsks k.count a.total.0 a.separations
    row_asked = record { channels = few_channels k d.within; added = rw (count_is bs k d) in_row.added }

    pub placement_put : (o x : List ℕ) (n : ℕ) → LinePut (row_text (row_of k.count s a.separations a.positions)) o x n → PlacementPut bs s v o x (Ok n)
    placement_put o x n p = record { answer = Ok a; says = says; line = record { refused = refl; put = rw (count_is bs k d) at p } }

pub placement_printed : (bs : List ℕ) (s v : ℕ) (o x out : List ℕ) (a : Result ℕ RefusedStruct) (r : Reply) → line_bytes ≤ length o → PlacementPut bs s v o x a → Concluded a x out r →
    PlacementPrinted bs s v out r
placement_printed bs s v o x out a r h p c = record { answer = p.answer; says = p.says; printed = line_replied _ _ o x out a r h p.line c }

-- ONE SPREAD: both together
pub answered_outcome : (m : ℕ) (f : Refusal) (k : Stack) (s : ℕ) (a : PlacementResult) → Answered m f k s a → refusal_of a ≡ f
unfolding Answered placed_is
answered_outcome zero f k s a t = t.3.0
answered_outcome (suc m) f k s a t = t.0

pub answered_refused : (f : Refusal) (k : Stack) (s : ℕ) (e : RefusedStruct) → refusal (number_of e.why) e.line e.field ≡ f → AnsweredOr f k s (Err e)
unfolding Answered placed_is padded
answered_refused f k s e q = go f.number refl
  where
    go : (m : ℕ) → f.number ≡ m → Answered m f k s (Err e)
    go zero z = absurd (word_not_fine e (rw (← q) at z))
    go (suc m) z = (q, refl, refl, refl)

module _ (bs : List ℕ) (s : ℕ) where
  pub spread_unput : (o x : List ℕ) (e : RefusedStruct) → TotalSays bs s (Err e) → SpreadPut bs s o x (Err e)
  unfolding SpreadSays
  spread_unput o x e says =
      let q = total_outcome bs s (Err e) says in
      record { answer = Err e; says = answered_refused (spread_refusal bs s) (stack_in bs) s e q; line = record { refused = q; put = tt } }

  module _ (t : Tracks) (says : TotalSays bs s (Ok t)) (o x : List ℕ) (a : Result ℕ RefusedStruct) (p : PlacementPut bs s t.0 o x a) where
    both : SpreadSays bs s p.answer
    unfolding BothTogether
    both = both_together bs s (Ok t) p.answer says p.says

    outcome_is : refusal_of p.answer ≡ spread_refusal bs s
    unfolding SpreadSays
    outcome_is = answered_outcome (spread_refusal bs s).number (spread_refusal bs s) (stack_in bs) s p.answer both

    pub spread_put : SpreadPut bs s o x a
    spread_put = record { answer = p.answer; says = both; line = record { refused = p.line.refused ∙ outcome_is; put = p.line.put } }

  pub spread_printed : (o x out : List ℕ) (a : Result ℕ RefusedStruct) (r : Reply) → line_bytes ≤ length o → SpreadPut bs s o x a → Concluded a x out r → SpreadPrinted bs s out r
  spread_printed o x out a r h p c = record { answer = p.answer; says = p.says; printed = line_replied _ _ o x out a r h p.line c }

-- A TRIAL
module _ (bs : List ℕ) (k : StackStruct) (d : StackRead bs (Ok k)) (n : ℕ) (vs : List ℕ) where
  none_refused : (text_refusal bs).number ≡ 0
  none_refused = fine_number (text_refusal bs) d.outcome

  count_there : k.count ≡ channels bs
  count_there = count_is bs k d

  pub trial_misfit : (n ≡ 2 * k.count + 2 → ⊥) → trial_status bs n ≡ 2
  unfolding trial_status
  trial_misfit h =
      let other : eqb n (2 * channels bs + 2) ≡ false = ne_eqb n (2 * channels bs + 2) (λ e. h (e ∙ rw count_there)) in
      rw (eq-eqb (text_refusal bs).number 0 none_refused, other)

  module _ (e : n ≡ 2 * k.count + 2) (ts xs : List ℕ) (p : ts ≡ separations_in k.count vs) (q : xs ≡ positions_in k.count vs) where
    pub trial_refused : (u : RefusedStruct) → TrialSays bs (get_or vs 0 0) ts xs (Err u) → refusal (number_of u.why) u.line u.field ≡ text_refusal bs
    unfolding TrialSays
    trial_refused u says = says.0

    pub trial_verdict : (v : Bool) → TrialSays bs (get_or vs 0 0) ts xs (Ok v) → (o x : List ℕ) (m : ℕ) → LinePut (verdict_text v) o x m → TrialPut bs n vs o x (Ok (Some m))
    unfolding trial_text trial_status unless_refused TrialSays
    trial_verdict v says o x m put =
        let fine_text : eqb (text_refusal bs).number 0 ≡ true = eq-eqb (text_refusal bs).number 0 none_refused in
        let fits : eqb n (2 * channels bs + 2) ≡ true = eq-eqb n (2 * channels bs + 2) (e ∙ rw count_there) in
        let verdict : v ≡ is_legal (stack_in bs) (get_or vs 0 0) (separations_in (channels bs) vs) (positions_in (channels bs) vs) =
        says.1 ∙ rw (fine_text, p, q, count_there) in
        (none_refused, rw (fine_text, fits), rw (fine_text, fits, ← verdict) put)

trial_told : (bs : List ℕ) (n : ℕ) (vs o x : List ℕ) (m : ℕ) → line_bytes ≤ length o → TrialPut bs n vs o x (Ok (Some m)) →
    Printed (text_refusal bs) (trial_text bs n vs) (trial_status bs n) x (record { length = m; outcome = Ok tt })
trial_told bs n vs o x m h t = rw t.1 (same_words (text_refusal bs) (fine_number fine refl) t.0 (put_printed (Ok tt) h t.2))

trial_sent_back : (bs : List ℕ) (n : ℕ) (vs x out : List ℕ) (u : RefusedStruct) (r : Reply) → refusal (number_of u.why) u.line u.field ≡ text_refusal bs → Concluded (Err u) x out r →
    Printed (text_refusal bs) (trial_text bs n vs) (trial_status bs n) out r
unfolding trial_text trial_status status_of unless_refused
trial_sent_back bs n vs x out u r t d =
    let some : eqb (text_refusal bs).number 0 ≡ false = ne_eqb (text_refusal bs).number 0 (λ z. word_not_fine u (rw (← t) at z)) in
    rw some (rw (t, some) at (d []))

pub trial_printed : (bs : List ℕ) (n : ℕ) (vs o x out : List ℕ) (p : Result (Option ℕ) RefusedStruct) (a : Result ℕ RefusedStruct) (r : Reply) → line_bytes ≤ length o →
    TrialPut bs n vs o x p → result_transpose p ≡ Some a → Concluded a x out r → Printed (text_refusal bs) (trial_text bs n vs) (trial_status bs n) out r
trial_printed bs n vs o x out (Ok (Some m)) a r h t e c =
    let q : a ≡ Ok m = cc in
    let d : Concluded (Ok m) x out r = rw q at c in
    rw (d.0, d.1) (trial_told bs n vs o x m h t)
trial_printed bs n vs o x out (Ok None) a r h t e c = absurd (cc)
trial_printed bs n vs o x out (Err u) a r h t e c =
    let q : a ≡ Err u = cc in
    let d : Concluded (Err u) x out r = rw q at c in
    trial_sent_back bs n vs x out u r t d
