-- The statements of Alone.antt, proved: there is but one least total in a spread, one placement for a total, one answer and one list of rows, and everything else
-- in a promise is an equation. What is promised of a session is promised of its stack's text. The trial's verdict is the test legal, which by the routing theorem
-- is drawable. Assumes nothing.
use mathlib.Core.Path.{◌≡◌, sym, ap, ◌∙◌}
use mathlib.Core.Bool.{Bool, true, false}
use mathlib.Core.List.{List, [], ◌∷◌, ◌++◌}
use Prim.Native.Nat.{ℕ, zero, suc, ◌-◌}
use lib.Dec.{leb}
use lib.ListN.{length, get_or, take, replicate}
use Rattle.numbers.specs.Lists.{tabulate}
use Rattle.numbers.proofs.Bools.{ands}
use Rattle.stack.specs.Stack.{Stack}
use Rattle.stack.specs.Limits.{all_rising}
use Rattle.stack.proofs.Within.{within_rising}
use Rattle.stack.proofs.Placements.{total_alone}
use Rattle.routing.proofs.Drawable.{drawable_legal, legal_drawable}
use Rattle.text.specs.Text.{Refusal, refusal, fine, stack_in}
use Rattle.text.specs.Outcome.{refusal_of}
use Rattle.reading.proofs.Within.{accepted_within}
use Rattle.answer.proofs.Alone.{placement_alone, placement_met, answer_alone}
use Rattle.rows.proofs.Rows.{rows_alone}
use Rattle.writing.specs.TableText.{table_text}
use Rattle.trial.specs.Legal.{is_legal}
use Rattle.reply.specs.Told.{TableResult, zeros, table_told}
use Rattle.spread.specs.Answers.{TotalResult, PlacementResult, total_in, placed_total, separations_of, positions_of, total_told, Totalled, TotalSays, placed_is, PlacedFor, placed, unmet, Placed, PlacementSays}
use Rattle.stack_text.specs.StackText.{stack_text}
use Rattle.session.specs.Promise.{SessionAsText}
use Rattle.session.proofs.Promises.{session_as_text}
use Rattle.replay.specs.Replay.{replayed, StepsTotalSays, StepsPlacementSays}
use Rattle.nabetsu.specs.Entry.{legal_in, code, numbers, numbers_in, NumbersPut, Fits, Tabled, TableSays, TrialSays}
use Rattle.page.specs.Page.{channel_page}
use Rattle.nabetsu.specs.Pages.{Paged, PageSays}
use Rattle.evidence.specs.Alone.{SameTotal, TotalSaysAlone, TotalCodedAlone, SamePlacement, PlacementSaysAlone, PlacementCodedAlone, StepsTotalSaysAlone, StepsTotalCodedAlone, StepsPlacementSaysAlone, StepsPlacementCodedAlone, SessionSame, SameTable, TableAlone, CodedAlone, PageAlone, PageCodedAlone, TrialAlone, PlacementDrawable, TrialDrawable}

-- THE LEAST TOTAL
total_told_alone : (f : Refusal) (v : ℕ) (r q : TotalResult) → total_told f v r → total_told f v q → SameTotal r q
unfolding total_told
total_told_alone f v r q a b = record { refusals = a.0 ∙ sym b.0; totals = a.1 ∙ sym b.1 }

pub totalled_alone : (n : ℕ) (f : Refusal) (k : Stack) (s : ℕ) (r q : TotalResult) → Totalled n f k s r → Totalled n f k s q → SameTotal r q
unfolding Totalled
totalled_alone zero f k s r q a b = total_told_alone f b.0 r q (rw (total_alone k s a.0 b.0 a.1 b.1) at a.2) b.2
totalled_alone (suc n) f k s r q a b = total_told_alone f 0 r q a b

pub total_says_alone : TotalSaysAlone
unfolding TotalSaysAlone TotalSays
total_says_alone bs s r q a b = totalled_alone _ _ (stack_in bs) s r q a b

pub code_alone : (a c : TotalResult) (r q : ℕ) → SameTotal a c → r ≡ code (refusal_of a) (total_in a) → q ≡ code (refusal_of c) (total_in c) → r ≡ q
code_alone a c r q e d f = d ∙ (rw (e.refusals, e.totals) (sym f))

pub total_coded_alone : TotalCodedAlone
unfolding TotalCodedAlone TotalSaysAlone
total_coded_alone bs s r q a b =
    code_alone a.answer b.answer r q (total_says_alone bs s a.answer b.answer a.says b.says) a.coded b.coded

-- THE PLACEMENT FOR A TOTAL
placed_alone : (f : Refusal) (v : ℕ) (ts xs : List ℕ) (r q : PlacementResult) → placed_is f v ts xs r → placed_is f v ts xs q → SamePlacement r q
unfolding placed_is
placed_alone f v ts xs r q a b =
    record { refusals = a.0 ∙ sym b.0; totals = a.1 ∙ sym b.1; separations = a.2 ∙ sym b.2; positions = a.3 ∙ sym b.3 }

placed_for_alone : (k : Stack) (s v : ℕ) (r q : PlacementResult) → PlacedFor k s v r → PlacedFor k s v q → SamePlacement r q
placed_for_alone k s v r q (placed ts xs a c) (placed us ys b d) =
    let same = placement_alone k s v ts xs us ys a b in
    placed_alone fine v us ys r q (rw (same.0, same.1) at c) d
placed_for_alone k s v r q (placed ts xs a c) (unmet n d) = absurd (n (placement_met k s v ts xs a))
placed_for_alone k s v r q (unmet n c) (placed us ys b d) = absurd (n (placement_met k s v us ys b))
placed_for_alone k s v r q (unmet n c) (unmet m d) = placed_alone (refusal 10 0 0) 0 [] [] r q c d

placed_or_alone : (n : ℕ) (f : Refusal) (k : Stack) (s v : ℕ) (r q : PlacementResult) → Placed n f k s v r → Placed n f k s v q → SamePlacement r q
unfolding Placed
placed_or_alone zero f k s v r q a b = placed_for_alone k s v r q a b
placed_or_alone (suc n) f k s v r q a b = placed_alone f 0 [] [] r q a b

pub placement_says_alone : PlacementSaysAlone
unfolding PlacementSaysAlone PlacementSays
placement_says_alone bs s v r q a b = placed_or_alone _ _ (stack_in bs) s v r q a b

numbers_alone : (n : ℕ) (r q : PlacementResult) → SamePlacement r q → numbers_in n r ≡ numbers_in n q
unfolding numbers_in numbers
numbers_alone n r q e =
    let same : placed_total r ∷ (separations_of r ++ positions_of r) ≡ placed_total q ∷ (separations_of q ++ positions_of q) = rw (e.totals, e.separations, e.positions) in
    ap (λ (ns : List ℕ). tabulate n 0 (λ i. get_or ns i 0)) same

zeros_alone : (o p : List ℕ) → length o ≡ length p → zeros p ≡ zeros o
unfolding zeros
zeros_alone o p l = rw l

put_alone : (b : Bool) (a c : PlacementResult) (r q : ℕ) (o p x y : List ℕ) → length o ≡ length p → SamePlacement a c → NumbersPut b a r o x → NumbersPut b c q p y → (r ≡ q) × (x ≡ y)
unfolding NumbersPut
put_alone true a c r q o p x y l e d f = (d.0 ∙ rw e.refusals (sym f.0), d.1 ∙ (numbers_alone (length o) a c e ∙ rw l (sym f.1)))
put_alone false a c r q o p x y l e d f = (d.0 ∙ rw e.refusals (sym f.0), d.1 ∙ sym (f.1 ∙ zeros_alone o p l))

room_put_alone : (a c : PlacementResult) (r q : ℕ) (o p x y : List ℕ) → length o ≡ length p → SamePlacement a c → NumbersPut (leb 18 (length o)) a r o x →
    NumbersPut (leb 18 (length p)) c q p y → (r ≡ q) × (x ≡ y)
room_put_alone a c r q o p x y l e d f = put_alone (leb 18 (length p)) a c r q o p x y l e (rw l at d) f

pub placement_coded_alone : PlacementCodedAlone
unfolding PlacementCodedAlone PlacementSaysAlone
placement_coded_alone bs s v r q o p x y l a b =
    room_put_alone a.answer b.answer r q o p x y l (placement_says_alone bs s v a.answer b.answer a.says b.says) a.put b.put

-- OF STEPS
pub steps_total_says_alone : StepsTotalSaysAlone
unfolding StepsTotalSaysAlone StepsTotalSays
steps_total_says_alone bs s r q a b = totalled_alone _ _ (replayed bs).held s r q a b

pub steps_total_coded_alone : StepsTotalCodedAlone
unfolding StepsTotalCodedAlone StepsTotalSaysAlone
steps_total_coded_alone bs s r q a b =
    code_alone a.answer b.answer r q (steps_total_says_alone bs s a.answer b.answer a.says b.says) a.coded b.coded

pub steps_placement_says_alone : StepsPlacementSaysAlone
unfolding StepsPlacementSaysAlone StepsPlacementSays
steps_placement_says_alone bs s v r q a b = placed_or_alone _ _ (replayed bs).held s v r q a b

pub steps_placement_coded_alone : StepsPlacementCodedAlone
unfolding StepsPlacementCodedAlone StepsPlacementSaysAlone
steps_placement_coded_alone bs s v r q o p x y l a b =
    room_put_alone a.answer b.answer r q o p x y l (steps_placement_says_alone bs s v a.answer b.answer a.says b.says) a.put b.put

-- OF A SESSION AND OF ITS TEXT
pub session_same : SessionSame
unfolding SessionSame SessionAsText TotalSaysAlone PlacementSaysAlone
session_same k m n s =
    let t = session_as_text k m n in (
      (λ r q a b. total_says_alone (stack_text k) s r q ((t.totals s r).0 a) b),
      (λ v r q a b. placement_says_alone (stack_text k) s v r q ((t.placements s v r).0 a) b),
    )

-- THE TABLE
told_alone : (f : Refusal) (w : ℕ) (r q : TableResult) (x y z : List ℕ) → table_told f w r → table_told f w q → x ≡ z → y ≡ z → SameTable r q x y
unfolding table_told
told_alone f w r q x y z a b e h = record { refusals = a.0 ∙ sym b.0; written = a.1 ∙ sym b.1; outputs = e ∙ sym h }

fits_alone : (b : Bool) (t : List ℕ) (r q : TableResult) (o p x y : List ℕ) → length o ≡ length p → Fits b t r o x → Fits b t q p y → SameTable r q x y
unfolding Fits
fits_alone true t r q o p x y l a b = told_alone _ (length t) r q x y (t ++ replicate (length o - length t) 0) a.0 b.0 a.1 (rw l b.1)
fits_alone false t r q o p x y l a b = told_alone _ 0 r q x y (zeros o) a.0 b.0 a.1 (b.1 ∙ zeros_alone o p l)

tabled_alone : (n : ℕ) (f : Refusal) (k : Stack) (r q : TableResult) (o p x y : List ℕ) → length o ≡ length p → Tabled n f k r o x → Tabled n f k q p y →
    SameTable r q x y
unfolding Tabled
tabled_alone zero f k r q o p x y l a b =
    let t = table_text (length k.channels) b.0 in
    let same = rows_alone k a.0 b.0 a.1 b.1 in
    fits_alone (leb (length t) (length p)) t r q o p x y l (rw (same, l) at a.2) b.2
tabled_alone (suc n) f k r q o p x y l a b = told_alone f 0 r q x y (zeros o) a.0 b.0 a.1 (b.1 ∙ zeros_alone o p l)

pub table_alone : TableAlone
unfolding TableAlone TableSays
table_alone bs r q o p x y l a b = tabled_alone _ _ (stack_in bs) r q o p x y l a b

pub coded_alone : CodedAlone
unfolding CodedAlone TableAlone
coded_alone bs r q o p x y l a b =
    let same = table_alone bs a.answer b.answer o p x y l a.says b.says in
    (a.coded ∙ (rw (same.refusals, same.written) (sym b.coded)), same.outputs)

-- THE PAGE
paged_alone : (c : ℕ) (f : Refusal) (k : Stack) (s n : ℕ) (r q : TableResult) (o p x y : List ℕ) → length o ≡ length p → Paged c f k s n r o x → Paged c f k s n q p y →
    SameTable r q x y
unfolding Paged
paged_alone zero f k s n r q o p x y l a b =
    let t = channel_page k b.0 b.1 (n - 1) in
    let same = answer_alone k s a.0 a.1 b.0 b.1 a.2 b.2 in
    fits_alone (leb (length t) (length p)) t r q o p x y l (rw (same.0, same.1, l) at a.3) b.3
paged_alone (suc c) f k s n r q o p x y l a b = told_alone f 0 r q x y (zeros o) a.0 b.0 a.1 (b.1 ∙ zeros_alone o p l)

pub page_alone : PageAlone
unfolding PageAlone PageSays
page_alone bs s n r q o p x y l a b = paged_alone _ _ (stack_in bs) s n r q o p x y l a b

pub page_coded_alone : PageCodedAlone
unfolding PageCodedAlone PageAlone
page_coded_alone bs s n r q o p x y l a b =
    let same = page_alone bs s n a.answer b.answer o p x y l a.says b.says in
    (a.coded ∙ (rw (same.refusals, same.written) (sym b.coded)), same.outputs)

-- THE TRIAL
pub trial_alone : TrialAlone
unfolding TrialAlone TrialSays
trial_alone bs s ts xs r q a b = record { refusals = a.0 ∙ sym b.0; verdicts = a.1 ∙ sym b.1 }

legal_placement : (k : Stack) (s : ℕ) (ts xs : List ℕ) → all_rising k.channels ≡ true → is_legal k s ts xs ≡ true → PlacementDrawable k s ts xs
unfolding is_legal
legal_placement k s ts xs r e =
    let n = length k.channels in
    record { separations_unused = search ands; positions_unused = search ands; drawable = legal_drawable k s (take n ts) (take (suc n) xs) r (search ands) }

placement_legal : (k : Stack) (s : ℕ) (ts xs : List ℕ) → all_rising k.channels ≡ true → PlacementDrawable k s ts xs → is_legal k s ts xs ≡ true
unfolding is_legal
placement_legal k s ts xs r d =
    let n = length k.channels in
    rw (d.separations_unused, d.positions_unused) (drawable_legal k s (take n ts) (take (suc n) xs) r d.drawable)

pub trial_drawable : TrialDrawable
unfolding TrialDrawable TrialSays
trial_drawable bs s ts xs r z a =
    let k = stack_in bs in
    let rises = within_rising k (accepted_within bs z) in
    let verdict : legal_in r ≡ is_legal k s ts xs = a.1 ∙ rw z in
    (λ e. legal_placement k s ts xs rises (sym verdict ∙ e), λ d. verdict ∙ placement_legal k s ts xs rises d)
