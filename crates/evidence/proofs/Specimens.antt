-- The specimens hold: one computed test over the whole table, which sets each reply beside the executable definitions, and one law that turns a
-- passed test into what the specimen says of the entry. Assumes nothing.
use mathlib.Core.Path.{◌≡◌, refl, sym}
use mathlib.Core.Bool.{Bool, true, false, ◌&&◌, not}
use mathlib.Core.List.{List, [], ◌∷◌}
use mathlib.Core.Logic.{◌↔◌}
use Prim.Native.Nat.{ℕ, zero, suc}
use lib.Dec.{eqb}
use borrow.Author.Tests.{not-true}
use Rattle.numbers.specs.Lists.{padded}
use Rattle.numbers.proofs.Bools.{ands, impossible}
use Rattle.stack.specs.Stack.{Stack}
use Rattle.text.specs.Text.{Refusal, refusal, text_refusal, stack_in}
use Rattle.trial.specs.Legal.{is_legal}
use Rattle.spread.specs.Answers.{TotalResult, PlacementResult, spread_refusal, total_told, Totalled, TotalOr, TotalSays, placed_is, Placed, PlacementOr, PlacementSays}
use Rattle.replay.specs.Replay.{replayed, steps_refusal, StepsTotalSays, StepsPlacementSays}
use Rattle.nabetsu.specs.Entry.{TrialSays}
use Rattle.evidence.specs.Replies.{same_refusal, TotalReply, total_is, same_total, total_reply, steps_total_reply, PlacementReply, placement, same_placement, placement_reply, steps_placement_reply, writes, refuses, same_table, table_reply, page_reply}
use Rattle.evidence.specs.Specimens.{text_shown, page_shown, Specimen, spread_gives, spread_refused, place_gives, place_refused, table_gives, table_refused, trial_gives, trial_refused, page_gives, page_refused, session_gives, session_refused, session_place_gives, session_place_refused, Holds, AllHold, specimens, SpecimensRight}
use Rattle.evidence.proofs.Opened.{reading, replying, showing, replaying}
use Rattle.evidence.proofs.Replies.{refusals_equal, totals_equal, placements_equal, tables_equal, totalled, total_replied, steps_total_replied, replied, placement_replied, steps_placement_replied, table_replied, page_replied}

-- THE TEST of a specimen
same_verdict : (a b : Bool) → Bool
same_verdict true b = b
same_verdict false b = not b

is_right : Specimen → Bool
is_right (spread_gives t s v ts xs) =
    same_total (total_reply (text_shown t) s) (total_is (refusal 0 0 0) v)
    && same_placement (placement_reply (text_shown t) s v) (placement (refusal 0 0 0) v ts xs)
is_right (spread_refused t s n l f) = not (eqb n 0) && same_refusal (spread_refusal (text_shown t) s) (refusal n l f)
is_right (place_gives t s v ts xs) = same_placement (placement_reply (text_shown t) s v) (placement (refusal 0 0 0) v ts xs)
is_right (place_refused t s v n l f) = same_placement (placement_reply (text_shown t) s v) (placement (refusal n l f) 0 [] [])
is_right (table_gives t n a) = same_table (table_reply (text_shown t) n) (writes (text_shown a) n)
is_right (table_refused t n m l f) = same_table (table_reply (text_shown t) n) (refuses (refusal m l f) n)
is_right (trial_gives t s ts xs v) =
    same_refusal (text_refusal (text_shown t)) (refusal 0 0 0) && same_verdict (is_legal (stack_in (text_shown t)) s (padded 8 ts) (padded 9 xs)) v
is_right (trial_refused t s ts xs n l f) = not (eqb n 0) && same_refusal (text_refusal (text_shown t)) (refusal n l f)
is_right (page_gives t s c n p) = same_table (page_reply (text_shown t) s c n) (writes (page_shown p) n)
is_right (page_refused t s c n m l f) = same_table (page_reply (text_shown t) s c n) (refuses (refusal m l f) n)
is_right (session_gives t s v ts xs) =
    same_total (steps_total_reply (text_shown t) s) (total_is (refusal 0 0 0) v)
    && same_placement (steps_placement_reply (text_shown t) s v) (placement (refusal 0 0 0) v ts xs)
is_right (session_refused t s n l f) = not (eqb n 0) && same_refusal (steps_refusal (text_shown t) s) (refusal n l f)
is_right (session_place_gives t s v ts xs) = same_placement (steps_placement_reply (text_shown t) s v) (placement (refusal 0 0 0) v ts xs)
is_right (session_place_refused t s v n l f) = same_placement (steps_placement_reply (text_shown t) s v) (placement (refusal n l f) 0 [] [])

all_right : List Specimen → Bool
all_right [] = true
all_right (m ∷ ms) = is_right m && all_right ms

-- THE LAW
verdicts_equal : (a b : Bool) → same_verdict a b ≡ true → a ≡ b
unfolding same_verdict
verdicts_equal true true e = refl
verdicts_equal true false e = sym e
verdicts_equal false true e = e
verdicts_equal false false e = refl

total_holds : (P : TotalResult → Type 0) (x y : TotalReply) → ((r : TotalResult) → P r ↔ totalled x r) → same_total x y ≡ true → (r : TotalResult) → P r ↔ totalled y r
total_holds P x y h e r = rw (totals_equal x y e) at (h r)

placement_holds : (P : PlacementResult → Type 0) (x y : PlacementReply) → ((r : PlacementResult) → P r ↔ replied x r) → same_placement x y ≡ true →
    (r : PlacementResult) → P r ↔ replied y r
placement_holds P x y h e r = rw (placements_equal x y e) at (h r)

-- where the spread is refused, the stated total does not count
refused_holds : (g : Refusal) (k : Stack) (s n l f : ℕ) → not (eqb n 0) ≡ true → same_refusal g (refusal n l f) ≡ true →
    ((r : TotalResult) → TotalOr g k s r ↔ total_told (refusal n l f) 0 r)
    × ((v : ℕ) (r : PlacementResult) → PlacementOr g k s v r ↔ placed_is (refusal n l f) 0 [] [] r)
unfolding Totalled Placed refusal
refused_holds g k s zero l f e same = impossible e
refused_holds g k s (suc n) l f e same =
    let is = refusals_equal g (refusal (suc n) l f) same in
    ((λ r. rw is ((λ a. a), (λ a. a))), (λ v r. rw is ((λ a. a), (λ a. a))))

right_holds : (m : Specimen) → is_right m ≡ true → Holds m
unfolding is_right Holds total_is placement writes refuses refusal TrialSays TotalSays PlacementSays StepsTotalSays StepsPlacementSays
right_holds (spread_gives t s v ts xs) e =
    let bs = text_shown t in (
      total_holds _ (total_reply bs s) (total_is (refusal 0 0 0) v) (total_replied bs s) (search ands),
      placement_holds _ (placement_reply bs s v) (placement (refusal 0 0 0) v ts xs) (placement_replied bs s v) (search ands),
    )
right_holds (spread_refused t s n l f) e =
    let bs = text_shown t in refused_holds (spread_refusal bs s) (stack_in bs) s n l f (search ands) (search ands)
right_holds (place_gives t s v ts xs) e =
    let bs = text_shown t in placement_holds _ (placement_reply bs s v) (placement (refusal 0 0 0) v ts xs) (placement_replied bs s v) e
right_holds (place_refused t s v n l f) e =
    let bs = text_shown t in placement_holds _ (placement_reply bs s v) (placement (refusal n l f) 0 [] []) (placement_replied bs s v) e
right_holds (table_gives t n w) e =
    λ r o x h. rw (h, tables_equal (table_reply (text_shown t) n) (writes (text_shown w) n) e) at (table_replied (text_shown t) r o x)
right_holds (table_refused t n m l f) e =
    λ r o x h. rw (h, tables_equal (table_reply (text_shown t) n) (refuses (refusal m l f) n) e) at (table_replied (text_shown t) r o x)
right_holds (trial_gives t s ts xs v) e =
    let bs = text_shown t in
    let same : text_refusal bs ≡ refusal 0 0 0 = refusals_equal (text_refusal bs) (refusal 0 0 0) (search ands) in
    let verdict : is_legal (stack_in bs) s (padded 8 ts) (padded 9 xs) ≡ v = verdicts_equal _ v (search ands) in
    λ r. rw (same, verdict) (λ a. a, λ a. a)
right_holds (trial_refused t s ts xs n l f) e =
    let bs = text_shown t in
    let same : text_refusal bs ≡ refusal n l f = refusals_equal (text_refusal bs) (refusal n l f) (search ands) in
    λ r. rw (same, not-true (eqb n 0) (search ands)) (λ a. a, λ a. a)
right_holds (page_gives t s c n p) e =
    λ r o x h. rw (h, tables_equal (page_reply (text_shown t) s c n) (writes (page_shown p) n) e) at (page_replied (text_shown t) s c r o x)
right_holds (page_refused t s c n m l f) e =
    λ r o x h. rw (h, tables_equal (page_reply (text_shown t) s c n) (refuses (refusal m l f) n) e) at (page_replied (text_shown t) s c r o x)
right_holds (session_gives t s v ts xs) e =
    let bs = text_shown t in (
      total_holds _ (steps_total_reply bs s) (total_is (refusal 0 0 0) v) (steps_total_replied bs s) (search ands),
      placement_holds _ (steps_placement_reply bs s v) (placement (refusal 0 0 0) v ts xs) (steps_placement_replied bs s v) (search ands),
    )
right_holds (session_refused t s n l f) e =
    let bs = text_shown t in refused_holds (steps_refusal bs s) (replayed bs).held s n l f (search ands) (search ands)
right_holds (session_place_gives t s v ts xs) e =
    let bs = text_shown t in placement_holds _ (steps_placement_reply bs s v) (placement (refusal 0 0 0) v ts xs) (steps_placement_replied bs s v) e
right_holds (session_place_refused t s v n l f) e =
    let bs = text_shown t in placement_holds _ (steps_placement_reply bs s v) (placement (refusal n l f) 0 [] []) (steps_placement_replied bs s v) e

all_hold : (ms : List Specimen) → all_right ms ≡ true → AllHold ms
unfolding all_right AllHold
all_hold [] e = tt
all_hold (m ∷ ms) e = (right_holds m (search ands), all_hold ms (search ands))

-- THE TEST PASSES
test_passes : all_right specimens ≡ true
unfolding reading replying showing replaying all_right is_right same_verdict same_refusal same_total same_placement same_table specimens
test_passes = refl

-- EVERY SPECIMEN HOLDS
pub specimens_right : SpecimensRight
unfolding SpecimensRight
specimens_right = all_hold specimens test_passes
