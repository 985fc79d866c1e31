-- The promises of Promise.antt, proved: an accepted text's stack is within the limits, so its channels rise, and drawable is legal; total and placement together
-- are the answer. Assumes nothing.
use mathlib.Core.Path.{◌≡◌, refl}
use mathlib.Core.Bool.{true}
use mathlib.Core.List.{List}
use Prim.Native.Nat.{ℕ}
use native.Mathlib.Omega.{arith}
use borrow.Author.Tests.{eqb-true}
use Rattle.numbers.proofs.Bools.{ands}
use Rattle.stack.specs.Stack.{sum}
use Rattle.stack.specs.Limits.{all_rising, within_limits}
use Rattle.stack.proofs.Within.{within_rising}
use Rattle.routing.proofs.Drawable.{drawable_legal, legal_drawable}
use Rattle.text.specs.Text.{text_refusal, stack_in}
use Rattle.reading.proofs.Within.{accepted_within}
use Rattle.answer.specs.Solve.{answer_total, separations_for, positions_for, answer_separations, answer_positions}
use Rattle.stack.proofs.Placements as placements
use Rattle.answer.proofs.Alone as alone
use Rattle.answer.proofs.Answers as answers
use Rattle.rows.specs.Walk.{rows_of}
use Rattle.rows.proofs.Rows.{rows_are, rows_alone}
use Rattle.spread.specs.Answers.{spread_refusal, TotalSays, PlacementSays}
use Rattle.nabetsu.specs.Best.{SpreadSays}
use Rattle.spread.proofs.Both.{both_of}
use Rattle.nabetsu.specs.Promise.{accepted, AnswerDrawable, NoneSmaller, AnswerThere, AnswerAlone, TotalThere, TotalAlone, TotalsMet, PlacementThere, PlacementAlone, PlacementDrawn, AnswerIsBoth, BothTogether, RowsThere}

pub none_refused : (bs : List ℕ) → accepted bs ≡ true → (text_refusal bs).number ≡ 0
unfolding accepted
none_refused bs e = eqb-true (text_refusal bs).number 0 (search ands)

pub stack_within : (bs : List ℕ) → accepted bs ≡ true → within_limits (stack_in bs) ≡ true
stack_within bs e = accepted_within bs (none_refused bs e)

stack_rises : (bs : List ℕ) → accepted bs ≡ true → all_rising (stack_in bs).channels ≡ true
stack_rises bs e = within_rising (stack_in bs) (stack_within bs e)

pub answer_drawable : AnswerDrawable
unfolding AnswerDrawable
answer_drawable bs s ts xs e h a = legal_drawable (stack_in bs) s ts xs (stack_rises bs e) a.is_legal

pub none_smaller : NoneSmaller
unfolding NoneSmaller
none_smaller bs s ts xs us ys e a d = a.least us ys (drawable_legal (stack_in bs) s us ys (stack_rises bs e) d)

pub answer_there : AnswerThere
unfolding AnswerThere
answer_there bs s e h = (answer_separations (stack_in bs) s, answer_positions (stack_in bs) s, answers.answer_there (stack_in bs) s (stack_within bs e) h)

pub answer_alone : AnswerAlone
unfolding AnswerAlone
answer_alone bs s ts xs us ys e a b = alone.answer_alone (stack_in bs) s ts xs us ys a b

pub total_there : TotalThere
unfolding TotalThere
total_there bs s e h = (answer_total (stack_in bs) s, answers.least_there (stack_in bs) s (stack_within bs e) h)

pub total_alone : TotalAlone
unfolding TotalAlone
total_alone bs s v w e a b = placements.total_alone (stack_in bs) s v w a b

pub totals_met : TotalsMet
unfolding TotalsMet
totals_met bs s v w e l = answers.met_from_least (stack_in bs) s (stack_within bs e) v w l

pub placement_there : PlacementThere
unfolding PlacementThere
placement_there bs s v e m =
    let k = stack_in bs in
    let h = alone.legal_wide k s m.separations m.positions m.is_legal in
    let l = (answers.least_there k s (stack_within bs e) h).least m.separations m.positions m.is_legal in
    (separations_for k s v, positions_for k s v, answers.placement_there k s (stack_within bs e) h v (omega (arith, m.exact)))

pub placement_alone : PlacementAlone
unfolding PlacementAlone
placement_alone bs s v ts xs us ys e a b = alone.placement_alone (stack_in bs) s v ts xs us ys a b

pub placement_drawn : PlacementDrawn
unfolding PlacementDrawn
placement_drawn bs s v ts xs e a = legal_drawable (stack_in bs) s ts xs (stack_rises bs e) a.is_legal

pub answer_is_both : AnswerIsBoth
unfolding AnswerIsBoth
answer_is_both bs s ts xs =
    let k = stack_in bs in
    ((λ a. (placements.answer_total_is k s ts xs a, alone.answer_placed k s (sum ts) ts xs a refl)), (λ b. alone.both_answer k s (sum ts) ts xs b.0 b.1))

-- the placement for the total returned is the answer
pub both_together : BothTogether
unfolding BothTogether TotalSays PlacementSays SpreadSays
both_together bs s t r a b = both_of (spread_refusal bs s).number (spread_refusal bs s) (stack_in bs) s t r refl a b

pub rows_there : RowsThere
unfolding RowsThere
rows_there bs e = (rows_of (stack_in bs), rows_are (stack_in bs) (stack_within bs e), λ qs r. rows_alone (stack_in bs) qs (rows_of (stack_in bs)) r (rows_are (stack_in bs) (stack_within bs e)))
