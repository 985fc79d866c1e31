-- A result is promised exactly if it is the reply that the executable definitions of Replies.antt give: they are the least total, a placement for a total, an answer
-- and rows, and there is but one of each; of a session's single strip too. Assumes nothing.
use mathlib.Core.Path.{◌≡◌, refl}
use mathlib.Core.Bool.{Bool, true, false}
use mathlib.Core.List.{List, [], ◌∷◌}
use mathlib.Core.Logic.{◌↔◌}
use Prim.Native.Nat.{ℕ, zero, suc, ◌-◌, ◌≤◌}
use native.Mathlib.Omega.{arith}
use lib.Dec.{leb, ltb, eqb}
use lib.ListN.{length}
use borrow.Author.Tests.{eqb-true, eqb-false, ne_eqb, leb-true, leb-false, lt-ltb}
use Rattle.numbers.proofs.Bools.{ands, impossible}
use Rattle.stack.specs.Stack.{Stack, stack, TotalMet, LeastTotal, Placement, Answer, free, strip, greatest_of, least_position, first_spread}
use Rattle.stack.specs.Limits.{within_limits}
use Rattle.stack.proofs.Placements.{total_alone}
use Rattle.lines.specs.Lines.{same_bytes}
use Rattle.spans.specs.Solver as solver
use Rattle.text.specs.Text.{Refusal, refusal, fine, or_else, text_refusal, stack_in}
use Rattle.text.proofs.Refusals.{or_else_fine, when_fine, not_fine}
use Rattle.reading.proofs.Within.{accepted_within}
use Rattle.answer.specs.Solve as solve
use Rattle.answer.specs.Solve.{answer_total, separations_for, positions_for, answer_separations, answer_positions}
use Rattle.answer.proofs.Alone.{placement_alone, placement_met, answer_alone}
use Rattle.answer.proofs.Answers.{least_there, placement_there, met_from_least}
use Rattle.rows.specs.Walk.{rows_of}
use Rattle.rows.proofs.Rows.{rows_are, rows_alone}
use Rattle.writing.specs.TableText.{table_text}
use Rattle.page.specs.Page.{channel_page}
use Rattle.reply.specs.Told.{TableResult, zeros, table_told}
use Rattle.spread.specs.Answers.{TotalResult, PlacementResult, spread_refusal, total_told, Totalled, TotalSays, placed_is, PlacedFor, placed, unmet, Placed, PlacementSays}
use Rattle.spread.specs.Single.{one_strip}
use Rattle.spread.proofs.Spreads.{fine_wide}
use Rattle.spread.proofs.Single.{only_zero, least_zero, placement_zero}
use Rattle.session.specs.Session.{nothing, session_refusal}
use Rattle.session.specs.Promise.{Held, empty, single, stacked, MadeHeld}
use Rattle.session.proofs.Promises.{made_held}
use Rattle.replay.specs.Replay.{replayed, steps_refusal, StepsTotalSays, StepsPlacementSays, ReplayedMade}
use Rattle.replay.proofs.Made.{replayed_made}
use Rattle.nabetsu.specs.Entry.{Fits, Tabled, TableSays}
use Rattle.nabetsu.specs.Pages.{page_refusal, Paged, PageSays}
use Rattle.nabetsu.proofs.Pages.{page_answered}
use Rattle.nabetsu.proofs.Spreads.{spread_within, spread_wide}
use Rattle.evidence.specs.Replies.{same_refusal, TotalReply, total_is, same_total, total_for, total_reply, steps_total_reply, PlacementReply, placement, same_placement, is_met, if_met, placement_for, placement_reply, steps_placement_reply, TableReply, writes, refuses, same_table, if_fits, table_for, table_reply, page_for, page_reply}

-- WHAT TESTS THE SAME IS THE SAME
bytes_equal : (a b : List ℕ) → same_bytes a b ≡ true → a ≡ b
unfolding same_bytes
bytes_equal [] [] e = refl
bytes_equal [] (y ∷ ys) e = impossible e
bytes_equal (x ∷ xs) [] e = impossible e
bytes_equal (x ∷ xs) (y ∷ ys) e = rw (eqb-true x y (search ands), bytes_equal xs ys (search ands))

pub refusals_equal : (a b : Refusal) → same_refusal a b ≡ true → a ≡ b
unfolding same_refusal refusal
refusals_equal a b e =
    same (eqb-true a.number b.number (search ands)) (eqb-true a.line b.line (search ands)) (eqb-true a.field b.field (search ands))
  where
    same : {n m l k f g : ℕ} → n ≡ m → l ≡ k → f ≡ g → refusal n l f ≡ refusal m k g
    same p q r = rw (p, q, r)

pub totals_equal : (a b : TotalReply) → same_total a b ≡ true → a ≡ b
unfolding same_total total_is
totals_equal a b e = same (refusals_equal a.refused b.refused (search ands)) (eqb-true a.total b.total (search ands))
  where
    same : {f g : Refusal} {v w : ℕ} → f ≡ g → v ≡ w → total_is f v ≡ total_is g w
    same p q = rw (p, q)

pub placements_equal : (a b : PlacementReply) → same_placement a b ≡ true → a ≡ b
unfolding same_placement placement
placements_equal a b e =
    same (refusals_equal a.refused b.refused (search ands)) (eqb-true a.total b.total (search ands))
    (bytes_equal a.separations b.separations (search ands)) (bytes_equal a.positions b.positions (search ands))
  where
    same : {f g : Refusal} {v w : ℕ} {ts us xs ys : List ℕ} → f ≡ g → v ≡ w → ts ≡ us → xs ≡ ys → placement f v ts xs ≡ placement g w us ys
    same p q r s = rw (p, q, r, s)

table_is : Refusal → (written : ℕ) → List ℕ → TableReply
table_is f w x = record { refused = f; written = w; output = x }

pub tables_equal : (a b : TableReply) → same_table a b ≡ true → a ≡ b
unfolding same_table table_is
tables_equal a b e =
    same (refusals_equal a.refused b.refused (search ands)) (eqb-true a.written b.written (search ands))
    (bytes_equal a.output b.output (search ands))
  where
    same : {f g : Refusal} {v w : ℕ} {x y : List ℕ} → f ≡ g → v ≡ w → x ≡ y → table_is f v x ≡ table_is g w y
    same p q r = rw (p, q, r)

-- WHERE NOTHING IS REFUSED of a spread the definitions are the least total and its placements
record Solved (k : Stack) (s : ℕ) : Type 0 where
  pub least : LeastTotal k s (answer_total k s)
  pub there : (v : ℕ) → is_met k s v ≡ true → Placement k s v (separations_for k s v) (positions_for k s v)
  pub no_other : (v : ℕ) → is_met k s v ≡ false → TotalMet k s v → ⊥

-- of a stack
stack_solved : (k : Stack) (s : ℕ) → within_limits k ≡ true → first_spread k.strips ≤ s → Solved k s
unfolding is_met within_limits
stack_solved k s w h =
    let some : eqb (length k.channels) 0 ≡ false = ne_eqb (length k.channels) 0 (λ e. omega (arith, leb-true 1 (length k.channels) (search ands))) in
    let l = least_there k s w h in
    record {
      least = l;
      there = λ v e. placement_there k s w h v (leb-true (answer_total k s) v (rw some at e));
      no_other = λ v e m. omega (arith, leb-false (answer_total k s) v (rw some at e), (met_from_least k s w (answer_total k s) v l).0 m);
    }

text_solved : (bs : List ℕ) (s : ℕ) → (spread_refusal bs s).number ≡ 0 → Solved (stack_in bs) s
text_solved bs s e = stack_solved (stack_in bs) s (spread_within bs s e) (spread_wide bs s e)

-- of a single strip
single_solved : (l s : ℕ) → first_spread (strip l free ∷ []) ≤ s → Solved (one_strip l) s
unfolding first_spread greatest_of least_position is_met stack solve.answer_total solve.total_with solve.separations_for solve.separations_with solve.positions_for solve.positions_with
    solve.bottom solve.window_span solve.levels_of solve.stack_levels solver.least_total solver.first_total solver.first solver.back solver.most solver.separations
    solver.positions solver.lowest solver.fixed solver.positions_on
single_solved l s h =
    let fits : l ≤ s = omega arith in
    let room : ltb 0 (suc s - l) ≡ true = lt-ltb 0 (suc s - l) (omega arith) in
    record {
      least = rw room (least_zero l s fits);
      there = λ v e. rw (eqb-true v 0 e) (placement_zero l s fits);
      no_other = λ v e m. eqb-false v 0 e (only_zero l s v m);
    }

-- of what steps leave
session_wide : (k : Stack) (s : ℕ) → (session_refusal k s).number ≡ 0 → first_spread k.strips ≤ s
unfolding session_refusal or_else fine refusal
session_wide k s e = fine_wide fine k s (when_fine (eqb (length k.strips) 0) 12 0 0 _ e).1

held_solved : (k : Stack) (s : ℕ) → Held k → (session_refusal k s).number ≡ 0 → Solved k s
unfolding session_refusal nothing stack
held_solved k s (empty q) e = absurd (not_fine 12 0 0 (session_refusal k s) (rw q) e)
held_solved k s (single l a b q) e = rw q (single_solved l s (rw q at (session_wide k s e)))
held_solved k s (stacked w) e = stack_solved k s w (session_wide k s e)

steps_solved : (bs : List ℕ) (s : ℕ) → (steps_refusal bs s).number ≡ 0 → Solved (replayed bs).held s
unfolding steps_refusal MadeHeld ReplayedMade
steps_solved bs s e =
    let k = (replayed bs).held in
    held_solved k s (made_held k (replayed_made bs)) (or_else_fine (replayed bs).refused (session_refusal k s) e).1

-- THE LEAST TOTAL
abbrev pub totalled : TotalReply → TotalResult → Type 0
totalled y r = total_told y.refused y.total r

module _ (f : Refusal) (k : Stack) (s : ℕ) (r : TotalResult) where
  -- where v is the least total, v is told
  pub least_told : (v : ℕ) → LeastTotal k s v → Totalled 0 f k s r ↔ total_told f v r
  unfolding Totalled
  least_told v l = ((λ a. rw (total_alone k s a.0 v a.1 l) at a.2), (λ t. (v, l, t)))

  totalled_replied : (n : ℕ) → (n ≡ 0 → Solved k s) → Totalled n f k s r ↔ totalled (total_for n f k s) r
  unfolding Totalled total_for total_is
  totalled_replied zero e = least_told (answer_total k s) (e refl).least
  totalled_replied (suc n) e = ((λ a. a), (λ t. t))

pub total_replied : (bs : List ℕ) (s : ℕ) (r : TotalResult) → TotalSays bs s r ↔ totalled (total_reply bs s) r
unfolding TotalSays total_reply
total_replied bs s r =
    let f = spread_refusal bs s in totalled_replied f (stack_in bs) s r f.number (text_solved bs s)

pub steps_total_replied : (bs : List ℕ) (s : ℕ) (r : TotalResult) → StepsTotalSays bs s r ↔ totalled (steps_total_reply bs s) r
unfolding StepsTotalSays steps_total_reply
steps_total_replied bs s r =
    let f = steps_refusal bs s in totalled_replied f (replayed bs).held s r f.number (steps_solved bs s)

-- THE PLACEMENT FOR A TOTAL
abbrev pub replied : PlacementReply → PlacementResult → Type 0
replied y r = placed_is y.refused y.total y.separations y.positions r

module _ (k : Stack) (s v : ℕ) (r : PlacementResult) where
  -- where the total has a placement, that one is told
  met_told : (ts xs : List ℕ) → Placement k s v ts xs → PlacedFor k s v r → placed_is fine v ts xs r
  met_told ts xs p (placed us ys a q) =
      let same = placement_alone k s v us ys ts xs a p in
      rw (same.0, same.1) at q
  met_told ts xs p (unmet n q) = absurd (n (placement_met k s v ts xs p))

  pub placement_told : (ts xs : List ℕ) → Placement k s v ts xs → PlacedFor k s v r ↔ placed_is fine v ts xs r
  placement_told ts xs p = (met_told ts xs p, (λ q. placed ts xs p q))

  -- where it is not met, 10 is told
  unmet_told : (TotalMet k s v → ⊥) → PlacedFor k s v r → placed_is (refusal 10 0 0) 0 [] [] r
  unmet_told u (placed ts xs a q) = absurd (u (placement_met k s v ts xs a))
  unmet_told u (unmet n q) = q

  placed_for_replied : Solved k s → (b : Bool) → is_met k s v ≡ b → PlacedFor k s v r ↔ replied (if_met b k s v) r
  unfolding if_met placement
  placed_for_replied a true e = placement_told (separations_for k s v) (positions_for k s v) (a.there v e)
  placed_for_replied a false e = (unmet_told (a.no_other v e), (λ q. unmet (a.no_other v e) q))

  placed_or_replied : (n : ℕ) (f : Refusal) → (n ≡ 0 → Solved k s) → Placed n f k s v r ↔ replied (placement_for n f k s v) r
  unfolding Placed placement_for placement
  placed_or_replied zero f e = placed_for_replied (e refl) (is_met k s v) refl
  placed_or_replied (suc n) f e = ((λ a. a), (λ p. p))

pub placement_replied : (bs : List ℕ) (s v : ℕ) (r : PlacementResult) → PlacementSays bs s v r ↔ replied (placement_reply bs s v) r
unfolding PlacementSays placement_reply
placement_replied bs s v r =
    let f = spread_refusal bs s in placed_or_replied (stack_in bs) s v r f.number f (text_solved bs s)

pub steps_placement_replied : (bs : List ℕ) (s v : ℕ) (r : PlacementResult) → StepsPlacementSays bs s v r ↔ replied (steps_placement_reply bs s v) r
unfolding StepsPlacementSays steps_placement_reply
steps_placement_replied bs s v r =
    let f = steps_refusal bs s in placed_or_replied (replayed bs).held s v r f.number f (steps_solved bs s)

-- THE TABLE
abbrev pub tabled : TableReply → TableResult → (output : List ℕ) → Type 0
tabled y r x = table_told y.refused y.written r × (x ≡ y.output)

module _ (r : TableResult) (o x : List ℕ) where
  fits_tabled : (b : Bool) (t : List ℕ) → Fits b t r o x → tabled (if_fits b t (length o)) r x
  unfolding Fits if_fits writes refuses zeros
  fits_tabled true t a = a
  fits_tabled false t a = a

  tabled_fits : (b : Bool) (t : List ℕ) → tabled (if_fits b t (length o)) r x → Fits b t r o x
  unfolding Fits if_fits writes refuses zeros
  tabled_fits true t a = a
  tabled_fits false t a = a

  module _ (f : Refusal) (k : Stack) where
    whole : List ℕ
    whole = table_text (length k.channels) (rows_of k)

    tabled_replied : (n : ℕ) → (n ≡ 0 → within_limits k ≡ true) → Tabled n f k r o x → tabled (table_for n f k (length o)) r x
    unfolding Tabled table_for refuses zeros whole
    tabled_replied zero w a =
        let same = rows_alone k a.0 (rows_of k) a.1 (rows_are k (w refl)) in
        fits_tabled (leb (length whole) (length o)) whole (rw same at a.2)
    tabled_replied (suc n) w a = a

    replied_tabled : (n : ℕ) → (n ≡ 0 → within_limits k ≡ true) → tabled (table_for n f k (length o)) r x → Tabled n f k r o x
    unfolding Tabled table_for refuses zeros whole
    replied_tabled zero w a = (rows_of k, rows_are k (w refl), tabled_fits (leb (length whole) (length o)) whole a)
    replied_tabled (suc n) w a = a

pub table_replied : (bs : List ℕ) (r : TableResult) (o x : List ℕ) → TableSays bs r o x ↔ tabled (table_reply bs (length o)) r x
unfolding TableSays table_reply
table_replied bs r o x =
    let f = text_refusal bs in
    (tabled_replied r o x f (stack_in bs) f.number (accepted_within bs), replied_tabled r o x f (stack_in bs) f.number (accepted_within bs))

-- A PAGE
module _ (r : TableResult) (o x : List ℕ) (f : Refusal) (k : Stack) (s c : ℕ) where
  whole_page : List ℕ
  whole_page = channel_page k (answer_separations k s) (answer_positions k s) (c - 1)

  paged_replied : (n : ℕ) → (n ≡ 0 → Answer k s (answer_separations k s) (answer_positions k s)) → Paged n f k s c r o x → tabled (page_for n f k s c (length o)) r x
  unfolding Paged page_for refuses zeros whole_page
  paged_replied zero there a =
      let same = answer_alone k s a.0 a.1 (answer_separations k s) (answer_positions k s) a.2 (there refl) in
      fits_tabled r o x (leb (length whole_page) (length o)) whole_page (rw (same.0, same.1) at a.3)
  paged_replied (suc n) there a = a

  replied_paged : (n : ℕ) → (n ≡ 0 → Answer k s (answer_separations k s) (answer_positions k s)) → tabled (page_for n f k s c (length o)) r x → Paged n f k s c r o x
  unfolding Paged page_for refuses zeros whole_page
  replied_paged zero there a = (answer_separations k s, answer_positions k s, there refl, tabled_fits r o x (leb (length whole_page) (length o)) whole_page a)
  replied_paged (suc n) there a = a

pub page_replied : (bs : List ℕ) (s c : ℕ) (r : TableResult) (o x : List ℕ) → PageSays bs s c r o x ↔ tabled (page_reply bs s c (length o)) r x
unfolding PageSays page_reply
page_replied bs s c r o x =
    let f = page_refusal bs s c in
    (paged_replied r o x f (stack_in bs) s c f.number (page_answered bs s c), replied_paged r o x f (stack_in bs) s c f.number (page_answered bs s c))
