-- Wrong versions break the promises, each on a specimen: what such a version returns is not the specimen's reply. Document 01, "Reviewer's checklist" and
-- "Traps in the work"; document 02, P1 to P7. Assumes nothing.
use mathlib.Core.Path.{◌≡◌, refl, sym, ap, ◌∙◌}
use mathlib.Core.Bool.{true, false}
use mathlib.Core.List.{List, [], ◌∷◌, ◌++◌}
use Prim.Native.Nat.{ℕ, zero, suc, ◌+◌, ◌<◌}
use native.Mathlib.Omega.{arith}
use lib.ListN.{length, replicate}
use lib.IntN.{pos}
use borrow.Author.Tests.{eq-eqb}
use Rattle.numbers.specs.Lists.{padded}
use Rattle.numbers.proofs.Bools.{impossible}
use Rattle.stack.specs.Stack.{Stack, in_spread, stands, in_window, legal, greatest_of, least_position, first_spread, sum, Answer}
use Rattle.stack.specs.Limits.{rises_above, rising, all_rising}
use Rattle.stack.proofs.Placements.{answer_total_is}
use Rattle.answer.proofs.Alone.{answer_placed}
use Rattle.answer.proofs.Answers.{leasts_of}
use Rattle.rows.proofs.Floored.{floors_of, all_covered, floors_answer}
use Rattle.reading.proofs.Within.{accepted_within}
use Rattle.routing.proofs.Drawable.{drawable_legal, legal_drawable}
use Rattle.routing.specs.Paths as paths
use Rattle.routing.specs.Paths.{point, Drawable}
use Rattle.lines.specs.Lines.{same_bytes}
use Rattle.text.specs.Text.{Refusal, refusal, fine, stack_word, stack_in}
use Rattle.text.specs.Outcome.{refusal_of}
use Rattle.reply.specs.Refusals.{narrow_refusal}
use Rattle.reply.specs.Told.{TableResult, table_told}
use Rattle.spread.specs.Answers.{TotalResult, PlacementResult, total_in, placed_total, separations_of, positions_of, spread_refusal, total_told, Totalled, TotalSays, placed_is, PlacedFor, placed, unmet, Placed, PlacementSays}
use Rattle.replay.specs.Replay.{StepsTotalSays}
use Rattle.nabetsu.specs.Entry.{TrialResult, legal_in, TableSays, TrialSays}
use Rattle.nabetsu.specs.Best.{TotalBest}
use Rattle.nabetsu.specs.Pages.{PageSays}
use Rattle.spread.proofs.Placements.{sum_padded}
use Rattle.nabetsu.proofs.Spreads.{placement_best}
use Rattle.evidence.specs.Specimens.{text_shown, Specimen, spread_gives, spread_refused, place_gives, place_refused, table_gives, table_refused, trial_gives, page_gives, session_gives, session_refused, page_shown, page_a, Holds, AllHold, text_a, table_a, text_b, text_c, table_c, text_d, table_d, text_e, text_held, table_held, text_past, table_past, text_between, text_moved, text_a_4, text_b_3_5, text_512, with_lines, headed, parted, netted, beginning, adding, steps_one, steps_a, added, then_a, nine_strips, specimens, SpecimensRight}
use Rattle.evidence.proofs.Opened.{reading, replying, showing}
use Rattle.evidence.proofs.Replies.{least_told, placement_told}
use Rattle.evidence.proofs.Specimens.{specimens_right}

-- THE SPECIMENS that are cited
EntryHolds : (i : ℕ) → List Specimen → Type 0
EntryHolds i [] = Unit
EntryHolds zero (m ∷ ms) = Holds m
EntryHolds (suc i) (m ∷ ms) = EntryHolds i ms

entry : (i : ℕ) (ms : List Specimen) → AllHold ms → EntryHolds i ms
unfolding EntryHolds AllHold
entry i [] h = tt
entry zero (m ∷ ms) h = h.0
entry (suc i) (m ∷ ms) h = entry i ms h.1

specimen : (i : ℕ) → EntryHolds i specimens
unfolding SpecimensRight
specimen i = entry i specimens specimens_right

a_in_50 : Holds (table_gives text_a 50 table_a)
unfolding specimens EntryHolds
a_in_50 = specimen 0

a_in_51 : Holds (table_gives text_a 51 table_a)
unfolding specimens EntryHolds
a_in_51 = specimen 1

a_in_49 : Holds (table_refused text_a 49 8 0 0)
unfolding specimens EntryHolds
a_in_49 = specimen 2

a_at_3 : Holds (spread_refused text_a 3 7 0 0)
unfolding specimens EntryHolds
a_at_3 = specimen 3

a_at_4 : Holds (spread_gives text_a 4 3 (3 ∷ []) (0 ∷ 0 ∷ []))
unfolding specimens EntryHolds
a_at_4 = specimen 4

a_at_5 : Holds (spread_gives text_a 5 2 (2 ∷ []) (1 ∷ 0 ∷ []))
unfolding specimens EntryHolds
a_at_5 = specimen 5

a_at_100 : Holds (spread_gives text_a 100 0 (0 ∷ []) (2 ∷ 0 ∷ []))
unfolding specimens EntryHolds
a_at_100 = specimen 7

b_at_5 : Holds (spread_gives text_b 5 5 (2 ∷ 3 ∷ []) (1 ∷ 0 ∷ 0 ∷ []))
unfolding specimens EntryHolds
b_at_5 = specimen 10

b_at_6 : Holds (spread_gives text_b 6 3 (0 ∷ 3 ∷ []) (2 ∷ 0 ∷ 0 ∷ []))
unfolding specimens EntryHolds
b_at_6 = specimen 11

c_in_50 : Holds (table_gives text_c 50 table_c)
unfolding specimens EntryHolds
c_in_50 = specimen 16

d_in_50 : Holds (table_gives text_d 50 table_d)
unfolding specimens EntryHolds
d_in_50 = specimen 19

e_in_50 : Holds (table_refused text_e 50 2 1 0)
unfolding specimens EntryHolds
e_in_50 = specimen 23

e_at_100 : Holds (spread_refused text_e 100 2 1 0)
unfolding specimens EntryHolds
e_at_100 = specimen 24

between_at_2 : Holds (spread_gives text_between 2 2 (2 ∷ 0 ∷ []) (0 ∷ 1 ∷ 0 ∷ []))
unfolding specimens EntryHolds
between_at_2 = specimen 39

between_at_3 : Holds (spread_gives text_between 3 2 (0 ∷ 2 ∷ []) (1 ∷ 0 ∷ 0 ∷ []))
unfolding specimens EntryHolds
between_at_3 = specimen 40

a_former_at_4 : Holds (trial_gives text_a 4 (2 ∷ []) (0 ∷ 0 ∷ []) false)
unfolding specimens EntryHolds
a_former_at_4 = specimen 43

a_page_at_4 : Holds (page_gives text_a 4 1 276 page_a)
unfolding specimens EntryHolds
a_page_at_4 = specimen 55

a_4_at_4 : Holds (spread_gives text_a_4 4 4 (4 ∷ []) (0 ∷ 0 ∷ []))
unfolding specimens EntryHolds
a_4_at_4 = specimen 83

b_3_5_at_9 : Holds (spread_gives text_b_3_5 9 8 (3 ∷ 5 ∷ []) (0 ∷ 0 ∷ 0 ∷ []))
unfolding specimens EntryHolds
b_3_5_at_9 = specimen 89

a_5_for_3 : Holds (place_gives text_a 5 3 (3 ∷ []) (0 ∷ 0 ∷ []))
unfolding specimens EntryHolds
a_5_for_3 = specimen 117

a_100_for_7 : Holds (place_gives text_a 100 7 (7 ∷ []) (0 ∷ 0 ∷ []))
unfolding specimens EntryHolds
a_100_for_7 = specimen 120

b_6_for_2 : Holds (place_refused text_b 6 2 10 0 0)
unfolding specimens EntryHolds
b_6_for_2 = specimen 124

b_6_for_4 : Holds (place_gives text_b 6 4 (0 ∷ 4 ∷ []) (2 ∷ 0 ∷ 0 ∷ []))
unfolding specimens EntryHolds
b_6_for_4 = specimen 126

moved_for_3 : Holds (place_gives text_moved 2 3 (0 ∷ 3 ∷ []) (1 ∷ 0 ∷ 0 ∷ []))
unfolding specimens EntryHolds
moved_for_3 = specimen 137

a_4_4_for_3 : Holds (place_refused text_a_4 4 3 10 0 0)
unfolding specimens EntryHolds
a_4_4_for_3 = specimen 138

a_4_100_for_3 : Holds (place_refused text_a_4 100 3 10 0 0)
unfolding specimens EntryHolds
a_4_100_for_3 = specimen 140

b_3_5_for_7 : Holds (place_refused text_b_3_5 9 7 10 0 0)
unfolding specimens EntryHolds
b_3_5_for_7 = specimen 142

stock_at_100 : Holds (spread_refused (headed "STOCK 1 1") 100 2 1 0)
unfolding specimens EntryHolds
stock_at_100 = specimen 148

zero_one_at_100 : Holds (spread_refused (headed "STACK 01 1") 100 11 1 3)
unfolding specimens EntryHolds
zero_one_at_100 = specimen 151

three_extra_at_100 : Holds (spread_refused (parted "PART 4 4 4 4 4 4") 100 11 2 5)
unfolding specimens EntryHolds
three_extra_at_100 = specimen 155

partner_at_100 : Holds (spread_refused (netted "NETS 0 2 2") 100 11 4 5)
unfolding specimens EntryHolds
partner_at_100 = specimen 160

one_strip_at_4 : Holds (session_gives steps_one 4 0 [] (0 ∷ []))
unfolding specimens EntryHolds
one_strip_at_4 = specimen 173

off_begun_at_4 : Holds (session_refused (with_lines steps_a (with_lines (beginning "PART 1001") ("OFF" ∷ []))) 4 13 0 0)
unfolding specimens EntryHolds
off_begun_at_4 = specimen 191

third_terminal_at_4 : Holds (session_refused (added "PART 4" "NETS 0 0 5 1") 4 5 0 4)
unfolding specimens EntryHolds
third_terminal_at_4 = specimen 231

behind_refused_at_5 : Holds (session_gives (then_a "PART 5" "NETS 5 5") 5 2 (2 ∷ []) (1 ∷ 0 ∷ []))
unfolding specimens EntryHolds
behind_refused_at_5 = specimen 237

long_and_odd_at_4 : Holds (session_refused (added "PART 1001" "NETS 0") 4 4 0 2)
unfolding specimens EntryHolds
long_and_odd_at_4 = specimen 243

tenth_at_1 : Holds (session_refused (adding nine_strips "PART 1001" "NETS") 1 3 0 0)
unfolding specimens EntryHolds
tenth_at_1 = specimen 253

-- A with windows: rows, a window's last position, a spread between two rows, and 4 before 14
held_in_50 : Holds (table_gives text_held 50 table_held)
unfolding specimens EntryHolds
held_in_50 = specimen 269

held_last_at_7 : Holds (trial_gives text_held 7 (3 ∷ []) (3 ∷ 0 ∷ []) true)
unfolding specimens EntryHolds
held_last_at_7 = specimen 277

held_left_at_5 : Holds (trial_gives text_held 5 (3 ∷ []) (0 ∷ 0 ∷ []) false)
unfolding specimens EntryHolds
held_left_at_5 = specimen 279

past_in_60 : Holds (table_gives text_past 60 table_past)
unfolding specimens EntryHolds
past_in_60 = specimen 284

short_inverted_at_100 : Holds (spread_refused (parted "PART 0 3 2") 100 4 2 2)
unfolding specimens EntryHolds
short_inverted_at_100 = specimen 296

-- bytes that differ
bytes_same : (a : List ℕ) → same_bytes a a ≡ true
unfolding same_bytes
bytes_same [] = refl
bytes_same (x ∷ xs) = rw (eq-eqb x x refl) (bytes_same xs)

differ : (a b : List ℕ) → same_bytes a b ≡ false → a ≡ b → ⊥
differ a b d e = let same : same_bytes a b ≡ true = rw e (bytes_same b) in impossible (sym d ∙ same)

-- the number and the field of a refusal that is told, and separations other than those of a reply
number_told : (n l f : ℕ) (g : Refusal) → g ≡ refusal n l f → g.number ≡ n
unfolding refusal
number_told n l f g e = ap (λ (h : Refusal). h.number) e

field_told : (n l f : ℕ) (g : Refusal) → g ≡ refusal n l f → g.field ≡ f
unfolding refusal
field_told n l f g e = ap (λ (h : Refusal). h.field) e

other_separations : (f : Refusal) (v : ℕ) (ts us xs : List ℕ) (r : PlacementResult) → same_bytes (padded 8 ts) (padded 8 us) ≡ false →
    separations_of r ≡ padded 8 ts → placed_is f v us xs r → ⊥
unfolding placed_is
other_separations f v ts us xs r d w p = differ (padded 8 ts) (padded 8 us) d (sym w ∙ p.2)

-- FULL PAIR COUNT as every separation: A at spread 100 is drawn with no track, each path one point
pub full_count_breaks_total : (r : TotalResult) → total_in r ≡ 2 → TotalSays (text_shown text_a) 100 r → ⊥
unfolding Holds total_told
full_count_breaks_total r w a = omega (arith, ((a_at_100.0 r).0 a).1)

pub full_count_breaks : (r : PlacementResult) → separations_of r ≡ padded 8 (2 ∷ []) → PlacementSays (text_shown text_a) 100 0 r → ⊥
unfolding Holds padded same_bytes
full_count_breaks r w a = other_separations _ _ (2 ∷ []) (0 ∷ []) _ r refl w ((a_at_100.1 r).0 a)

a_drawn : Drawable (stack_in (text_shown text_a)) 100 (0 ∷ []) (2 ∷ 0 ∷ [])
unfolding reading in_spread stands in_window point paths.same_column paths.same_point paths.chain paths.is_path paths.on_path paths.apart paths.apart_from_all
    paths.none_meet paths.all_paths paths.ChannelsDrawn
a_drawn =
    record { within = refl; drawn = (omega arith, record { paths = (point (pos 2) 0 ∷ []) ∷ (point (pos 4) 0 ∷ []) ∷ []; led = refl; clear = refl }, refl) }

pub full_count_not_least : (r : TotalResult) → total_in r ≡ 2 → TotalBest (text_shown text_a) 100 r → ⊥
unfolding reading spread_refusal narrow_refusal first_spread greatest_of least_position sum
full_count_not_least r w b = omega (arith, b.none_smaller refl (0 ∷ []) (2 ∷ 0 ∷ []) a_drawn)

-- FIRST ROW RIGHT and then repeated
pub repeated_row_breaks : (r : TableResult) (o x : List ℕ) → length o ≡ 50 →
    x ≡ text_shown ("TABLE 1" ∷ "ROW 4 3 3 0 0" ∷ "ROW 4 3 3 0 0" ∷ "ROW 4 3 3 0 0" ∷ []) → TableSays (text_shown text_a) r o x → ⊥
unfolding Holds reading
repeated_row_breaks r o x l w a = differ _ _ refl (sym w ∙ ((a_in_50 r o x l).0 a).1)

-- THE SAME ROW for all stacks: C's table for D; and no output serves both A and C
pub same_row_breaks : (r : TableResult) (o x : List ℕ) → length o ≡ 50 → x ≡ text_shown table_c ++ replicate 28 0 → TableSays (text_shown text_d) r o x → ⊥
unfolding Holds reading
same_row_breaks r o x l w a = differ _ _ refl (sym w ∙ ((d_in_50 r o x l).0 a).1)

pub same_output_breaks : (r q : TableResult) (o x : List ℕ) → length o ≡ 50 → TableSays (text_shown text_a) r o x → TableSays (text_shown text_c) q o x → ⊥
unfolding Holds reading
same_output_breaks r q o x l a c = differ _ _ refl (sym ((a_in_50 r o x l).0 a).1 ∙ ((c_in_50 q o x l).0 c).1)

-- A TOTAL that is not its separations' sum, for every text, spread and stated total; and in a row of A's table
told_sum : (f : Refusal) (v : ℕ) (ts xs : List ℕ) (r : PlacementResult) → sum ts ≡ v → placed_is f v ts xs r → placed_total r ≡ sum (separations_of r)
unfolding placed_is
told_sum f v ts xs r e p = p.1 ∙ sym (ap sum p.2 ∙ sum_padded 8 ts ∙ e)

placed_sum : (k : Stack) (s v : ℕ) (r : PlacementResult) → PlacedFor k s v r → placed_total r ≡ sum (separations_of r)
unfolding sum
placed_sum k s v r (placed ts xs a p) = told_sum fine v ts xs r a.exact p
placed_sum k s v r (unmet n p) = told_sum (refusal 10 0 0) 0 [] [] r refl p

placed_or_sum : (n : ℕ) (f : Refusal) (k : Stack) (s v : ℕ) (r : PlacementResult) → Placed n f k s v r → placed_total r ≡ sum (separations_of r)
unfolding Placed sum
placed_or_sum zero f k s v r a = placed_sum k s v r a
placed_or_sum (suc n) f k s v r a = told_sum f 0 [] [] r refl a

pub total_is_sum : (bs : List ℕ) (s v : ℕ) (r : PlacementResult) → PlacementSays bs s v r → placed_total r ≡ sum (separations_of r)
unfolding PlacementSays
total_is_sum bs s v r a = placed_or_sum (spread_refusal bs s).number (spread_refusal bs s) (stack_in bs) s v r a

pub other_total_breaks : (bs : List ℕ) (s v : ℕ) (r : PlacementResult) → placed_total r ≡ suc (sum (separations_of r)) → PlacementSays bs s v r → ⊥
other_total_breaks bs s v r w a = omega (arith, total_is_sum bs s v r a)

pub other_total_row_breaks : (r : TableResult) (o x : List ℕ) → length o ≡ 50 →
    x ≡ text_shown ("TABLE 1" ∷ "ROW 4 4 3 0 0" ∷ "ROW 5 2 2 1 0" ∷ "ROW 6 0 0 2 0" ∷ []) → TableSays (text_shown text_a) r o x → ⊥
unfolding Holds reading
other_total_row_breaks r o x l w a = differ _ _ refl (sym w ∙ ((a_in_50 r o x l).0 a).1)

-- ALL SENT BACK: A is refused neither at spread 100 nor in 50 bytes
pub sent_back_breaks_total : (r : TotalResult) → ((refusal_of r).number ≡ 0 → ⊥) → TotalSays (text_shown text_a) 100 r → ⊥
unfolding Holds total_told
sent_back_breaks_total r w a = w (number_told 0 0 0 _ ((a_at_100.0 r).0 a).0)

pub sent_back_breaks_placement : (r : PlacementResult) → ((refusal_of r).number ≡ 0 → ⊥) → PlacementSays (text_shown text_a) 100 0 r → ⊥
unfolding Holds placed_is
sent_back_breaks_placement r w a = w (number_told 0 0 0 _ ((a_at_100.1 r).0 a).0)

pub sent_back_breaks_table : (r : TableResult) (o x : List ℕ) → length o ≡ 50 → ((refusal_of r).number ≡ 0 → ⊥) → TableSays (text_shown text_a) r o x → ⊥
unfolding Holds table_told
sent_back_breaks_table r o x l w a = w (number_told 0 0 0 _ ((a_in_50 r o x l).0 a).0.0)

-- SPACE LEFT UNTOUCHED: behind A's table, where the space is short, and where the text is refused
pub untouched_behind_breaks : (r : TableResult) → TableSays (text_shown text_a) r (replicate 51 255) (text_shown table_a ++ (255 ∷ [])) → ⊥
unfolding Holds reading
untouched_behind_breaks r a = differ _ _ refl ((a_in_51 r (replicate 51 255) _ refl).0 a).1

pub untouched_short_breaks : (r : TableResult) → TableSays (text_shown text_a) r (replicate 49 255) (replicate 49 255) → ⊥
unfolding Holds same_bytes
untouched_short_breaks r a = differ _ _ refl ((a_in_49 r (replicate 49 255) (replicate 49 255) refl).0 a).1

pub untouched_refused_breaks : (r : TableResult) → TableSays (text_shown text_e) r (replicate 50 255) (replicate 50 255) → ⊥
unfolding Holds same_bytes
untouched_refused_breaks r a = differ _ _ refl ((e_in_50 r (replicate 50 255) (replicate 50 255) refl).0 a).1

-- SHORT SPACE said without measuring the table: A's has 50 bytes
pub short_of_50_breaks : (r : TableResult) (o x : List ℕ) → length o ≡ 50 → (refusal_of r).number ≡ 8 → TableSays (text_shown text_a) r o x → ⊥
unfolding Holds table_told
short_of_50_breaks r o x l w a = omega (arith, number_told 0 0 0 _ ((a_in_50 r o x l).0 a).0.0)

pub enough_of_49_breaks : (r : TableResult) (o x : List ℕ) → length o ≡ 49 → (refusal_of r).number ≡ 0 → TableSays (text_shown text_a) r o x → ⊥
unfolding Holds table_told
enough_of_49_breaks r o x l w a = omega (arith, number_told 8 0 0 _ ((a_in_49 r o x l).0 a).0.0)

-- THE ROW'S PLACEMENT REUSED up to the next row: the totals at spreads 2 and 3 are the same, but no one placement serves both
pub between_totals : (q r : TotalResult) → TotalSays (text_shown text_between) 2 q → TotalSays (text_shown text_between) 3 r → total_in q ≡ total_in r
unfolding Holds total_told
between_totals q r a b = ((between_at_2.0 q).0 a).1 ∙ sym ((between_at_3.0 r).0 b).1

pub reused_placement_breaks : (r : PlacementResult) → PlacementSays (text_shown text_between) 2 2 r → PlacementSays (text_shown text_between) 3 2 r → ⊥
unfolding Holds placed_is padded same_bytes
reused_placement_breaks r a b = other_separations _ 2 (2 ∷ 0 ∷ []) (0 ∷ 2 ∷ []) (1 ∷ 0 ∷ 0 ∷ []) r refl ((between_at_2.1 r).0 a).2 ((between_at_3.1 r).0 b)

-- EACH CHANNEL'S LEAST SEPARATION ALONE, and added: A is each channel of B by itself
pub added_alone_breaks : (q r : TotalResult) → TotalSays (text_shown text_a) 5 q → total_in r ≡ total_in q + total_in q → TotalSays (text_shown text_b) 5 r → ⊥
unfolding Holds total_told
added_alone_breaks q r a w b = omega (arith, ((a_at_5.0 q).0 a).1, ((b_at_5.0 r).0 b).1)

-- A PAGE COUNTED ONE COLUMN EARLY: A's first path runs on track 2 from column 0 on, where document 02's runs on track 1 to column 1
pub early_count_breaks : (r : TableResult) (o x : List ℕ) → length o ≡ 276 →
    x ≡ page_shown ("  3 ..o.o" ∷ "  2 +-+.|" ∷ "  1 |.+-+" ∷ "  0 o.o" ∷ []) → PageSays (text_shown text_a) 4 1 r o x → ⊥
unfolding Holds reading showing
early_count_breaks r o x l w a = differ _ _ refl (sym w ∙ ((a_page_at_4 r o x l).0 a).1)

-- WITHOUT THE LAST UPRIGHT PIECE: A's paths end on the tracks of their last runs
pub dropped_piece_breaks : (r : TableResult) (o x : List ℕ) → length o ≡ 276 →
    x ≡ page_shown ("  3 " ∷ "  2 .+o" ∷ "  1 +++-o" ∷ "  0 o.o" ∷ []) → PageSays (text_shown text_a) 4 1 r o x → ⊥
unfolding Holds reading showing
dropped_piece_breaks r o x l w a = differ _ _ refl (sym w ∙ ((a_page_at_4 r o x l).0 a).1)

-- THE FLOOR IGNORED: the answer of A at spread 4 is smaller than that of A with floor 4 and can be drawn in A, but it does not count: with the floor it can't be
-- drawn, and it is not the answer
a_drawn_at_4 : Drawable (stack_in (text_shown text_a)) 4 (3 ∷ []) (0 ∷ 0 ∷ [])
unfolding reading replying all_rising rising rises_above
a_drawn_at_4 = legal_drawable (stack_in (text_shown text_a)) 4 (3 ∷ []) (0 ∷ 0 ∷ []) refl refl

pub smaller_drawn_without_floor : (r : TotalResult) → TotalSays (text_shown text_a_4) 4 r → Drawable (stack_in (text_shown text_a)) 4 (3 ∷ []) (0 ∷ 0 ∷ []) × (3 < total_in r)
unfolding Holds total_told
smaller_drawn_without_floor r a = (a_drawn_at_4, omega (arith, ((a_4_at_4.0 r).0 a).1))

pub not_drawn_with_floor : Drawable (stack_in (text_shown text_a_4)) 4 (3 ∷ []) (0 ∷ 0 ∷ []) → ⊥
unfolding reading paths.ChannelsDrawn
not_drawn_with_floor d = omega (arith, d.drawn.0)

pub floor_ignored_breaks_total : (r : TotalResult) → total_in r ≡ 3 → TotalSays (text_shown text_a_4) 4 r → ⊥
unfolding Holds total_told
floor_ignored_breaks_total r w a = omega (arith, ((a_4_at_4.0 r).0 a).1)

pub floor_ignored_breaks : (r : PlacementResult) → separations_of r ≡ padded 8 (3 ∷ []) → PlacementSays (text_shown text_a_4) 4 4 r → ⊥
unfolding Holds padded same_bytes
floor_ignored_breaks r w a = other_separations _ _ (3 ∷ []) (4 ∷ []) _ r refl w ((a_4_at_4.1 r).0 a)

-- and where the stated total is below the floor
pub floor_ignored_breaks_below : (r : PlacementResult) → separations_of r ≡ padded 8 (3 ∷ []) → PlacementSays (text_shown text_a_4) 4 3 r → ⊥
unfolding Holds padded same_bytes
floor_ignored_breaks_below r w a = other_separations _ _ (3 ∷ []) [] _ r refl w ((a_4_4_for_3 r).0 a)

-- THE FLOOR IGNORED IN ONE CHANNEL, the second of B
pub one_floor_ignored_breaks_total : (r : TotalResult) → total_in r ≡ 3 → TotalSays (text_shown text_b_3_5) 9 r → ⊥
unfolding Holds total_told
one_floor_ignored_breaks_total r w a = omega (arith, ((b_3_5_at_9.0 r).0 a).1)

pub one_floor_ignored_breaks : (r : PlacementResult) → separations_of r ≡ padded 8 (3 ∷ 0 ∷ []) → PlacementSays (text_shown text_b_3_5) 9 8 r → ⊥
unfolding Holds padded same_bytes
one_floor_ignored_breaks r w a = other_separations _ _ (3 ∷ 0 ∷ []) (3 ∷ 5 ∷ []) _ r refl w ((b_3_5_at_9.1 r).0 a)

pub one_floor_ignored_breaks_below : (r : PlacementResult) → separations_of r ≡ padded 8 (3 ∷ 4 ∷ []) → PlacementSays (text_shown text_b_3_5) 9 7 r → ⊥
unfolding Holds padded same_bytes
one_floor_ignored_breaks_below r w a = other_separations _ _ (3 ∷ 4 ∷ []) [] _ r refl w ((b_3_5_for_7 r).0 a)

-- THE FLOOR ADDED to the separation that the pairs need: 3 and 4
pub floor_added_breaks_total : (r : TotalResult) → total_in r ≡ 7 → TotalSays (text_shown text_a_4) 4 r → ⊥
unfolding Holds total_told
floor_added_breaks_total r w a = omega (arith, ((a_4_at_4.0 r).0 a).1)

pub floor_added_breaks : (r : PlacementResult) → separations_of r ≡ padded 8 (7 ∷ []) → PlacementSays (text_shown text_a_4) 4 4 r → ⊥
unfolding Holds padded same_bytes
floor_added_breaks r w a = other_separations _ _ (7 ∷ []) (4 ∷ []) _ r refl w ((a_4_at_4.1 r).0 a)

-- THE GREATEST TOTAL: eight channels with floor 64. It is a specimen too, but one that takes too long to compute: the floors are the answer
floors_answered : Answer (stack_in (text_shown text_512)) 1 (replicate 8 64) (replicate 9 0)
unfolding reading replying floors_of all_covered leasts_of
floors_answered = floors_answer (stack_in (text_shown text_512)) 1 (accepted_within (text_shown text_512) refl) (omega arith) refl

pub greatest_total : Holds (spread_gives text_512 1 512 (replicate 8 64) (replicate 9 0))
unfolding reading replying Holds TotalSays PlacementSays Placed
greatest_total =
    let k = stack_in (text_shown text_512) in (
      (λ r. least_told fine k 1 r 512 (answer_total_is k 1 _ _ floors_answered)),
      (λ r. placement_told k 1 512 r _ _ (answer_placed k 1 512 _ _ floors_answered refl)),
    )

-- A TOTAL ABOVE THE LEAST from least_total
pub greater_total_breaks : (r : TotalResult) → 3 < total_in r → TotalSays (text_shown text_b) 6 r → ⊥
unfolding Holds total_told
greater_total_breaks r w a = omega (arith, ((b_at_6.0 r).0 a).1)

-- THE STATED TOTAL IGNORED: no one placement serves totals 3 and 4
pub ignored_total_breaks : (r : PlacementResult) → PlacementSays (text_shown text_b) 6 3 r → PlacementSays (text_shown text_b) 6 4 r → ⊥
unfolding Holds placed_is
ignored_total_breaks r a b = omega (arith, ((b_at_6.1 r).0 a).1, ((b_6_for_4 r).0 b).1)

-- A PLACEMENT WITH ANOTHER TOTAL than the stated one, for every text, spread and stated total
pub other_than_stated_breaks : (bs : List ℕ) (s v : ℕ) (r : PlacementResult) → (refusal_of r).number ≡ 0 → (sum (separations_of r) ≡ v → ⊥) →
    PlacementSays bs s v r → ⊥
other_than_stated_breaks bs s v r z w a = w ((placement_best bs s v r a).total_is z).1

-- OTHER SEPARATIONS FOR TOTAL 4 than 0 and 4, B at spread 6: a placement with a smaller total, and two that are legal and have that total, but are later
other_for_4_breaks : (ts : List ℕ) (r : PlacementResult) → same_bytes (padded 8 ts) (padded 8 (0 ∷ 4 ∷ [])) ≡ false → separations_of r ≡ padded 8 ts →
    PlacementSays (text_shown text_b) 6 4 r → ⊥
unfolding Holds
other_for_4_breaks ts r d w a = other_separations _ _ ts (0 ∷ 4 ∷ []) _ r d w ((b_6_for_4 r).0 a)

pub smaller_total_breaks : (r : PlacementResult) → separations_of r ≡ padded 8 (0 ∷ 3 ∷ []) → PlacementSays (text_shown text_b) 6 4 r → ⊥
unfolding padded same_bytes
smaller_total_breaks r w a = other_for_4_breaks (0 ∷ 3 ∷ []) r refl w a

pub surplus_in_first_breaks : (r : PlacementResult) → separations_of r ≡ padded 8 (4 ∷ 0 ∷ []) → PlacementSays (text_shown text_b) 6 4 r → ⊥
unfolding padded same_bytes
surplus_in_first_breaks r w a = other_for_4_breaks (4 ∷ 0 ∷ []) r refl w a

pub surplus_added_first_breaks : (r : PlacementResult) → separations_of r ≡ padded 8 (1 ∷ 3 ∷ []) → PlacementSays (text_shown text_b) 6 4 r → ⊥
unfolding padded same_bytes
surplus_added_first_breaks r w a = other_for_4_breaks (1 ∷ 3 ∷ []) r refl w a

pub later_legal : let k = stack_in (text_shown text_b) in
    (legal k 6 (4 ∷ 0 ∷ []) (0 ∷ 2 ∷ 0 ∷ []) ≡ true) × (legal k 6 (1 ∷ 3 ∷ []) (2 ∷ 0 ∷ 0 ∷ []) ≡ true)
unfolding reading replying
later_legal = (refl, refl)

-- THE SURPLUS ADDED TO THE ANSWER'S LAST SEPARATION: legal, but for one track more a smaller first separation serves
pub surplus_added_last_breaks : (r : PlacementResult) → separations_of r ≡ padded 8 (2 ∷ 1 ∷ []) → PlacementSays (text_shown text_moved) 2 3 r → ⊥
unfolding Holds padded same_bytes
surplus_added_last_breaks r w a = other_separations _ _ (2 ∷ 1 ∷ []) (0 ∷ 3 ∷ []) _ r refl w ((moved_for_3 r).0 a)

pub surplus_added_last_legal : legal (stack_in (text_shown text_moved)) 2 (2 ∷ 1 ∷ []) (0 ∷ 1 ∷ 0 ∷ []) ≡ true
unfolding reading replying
surplus_added_last_legal = refl

-- THE ANSWER'S POSITIONS KEPT: legal for a greater total too, but later
pub kept_positions_breaks : (r : PlacementResult) → positions_of r ≡ padded 9 (1 ∷ 0 ∷ []) → PlacementSays (text_shown text_a) 5 3 r → ⊥
unfolding Holds placed_is padded same_bytes
kept_positions_breaks r w a = differ (padded 9 (1 ∷ 0 ∷ [])) (padded 9 (0 ∷ 0 ∷ [])) refl (sym w ∙ ((a_5_for_3 r).0 a).3)

pub kept_positions_legal : legal (stack_in (text_shown text_a)) 5 (3 ∷ []) (1 ∷ 0 ∷ []) ≡ true
unfolding reading replying
kept_positions_legal = refl

-- THE LEAST TOTAL REFUSED, and a total below it not refused
pub least_refused_breaks : (r : PlacementResult) → (refusal_of r).number ≡ 10 → PlacementSays (text_shown text_b) 6 3 r → ⊥
unfolding Holds placed_is
least_refused_breaks r w a = omega (arith, number_told 0 0 0 _ ((b_at_6.1 r).0 a).0)

pub below_not_refused_breaks : (r : PlacementResult) → (refusal_of r).number ≡ 0 → PlacementSays (text_shown text_b) 6 2 r → ⊥
unfolding Holds placed_is
below_not_refused_breaks r w a = omega (arith, number_told 10 0 0 _ ((b_6_for_2 r).0 a).0)

-- 9 BEFORE 10, and 9 at all: a spread above 63 is too broad for a page alone
pub broad_first_breaks : (r : PlacementResult) → (refusal_of r).number ≡ 9 → PlacementSays (text_shown text_a_4) 100 3 r → ⊥
unfolding Holds placed_is
broad_first_breaks r w a = omega (arith, number_told 10 0 0 _ ((a_4_100_for_3 r).0 a).0)

pub broad_breaks : (r : PlacementResult) → (refusal_of r).number ≡ 9 → PlacementSays (text_shown text_a) 100 7 r → ⊥
unfolding Holds placed_is
broad_breaks r w a = omega (arith, number_told 0 0 0 _ ((a_100_for_7 r).0 a).0)

-- 10 BEFORE 7, and before a refusal of the text, whatever the total
pub unmet_before_narrow_breaks : (v : ℕ) (r : PlacementResult) → (refusal_of r).number ≡ 10 → PlacementSays (text_shown text_a) 3 v r → ⊥
unfolding Holds placed_is
unmet_before_narrow_breaks v r w a = omega (arith, number_told 7 0 0 _ ((a_at_3.1 v r).0 a).0)

pub unmet_before_text_breaks : (v : ℕ) (r : PlacementResult) → (refusal_of r).number ≡ 10 → PlacementSays (text_shown text_e) 100 v r → ⊥
unfolding Holds placed_is
unmet_before_text_breaks v r w a = omega (arith, number_told 2 1 0 _ ((e_at_100.1 v r).0 a).0)

-- THE FORMER RULE'S ANSWERS: A's row at spread 4 had a track less, with horizontal steps on track 0. Its placement is not legal, a trial says so, and no paths of
-- any kind draw it; nor is its total the least one, nor its table the table
pub former_placement_tried : (r : TrialResult) → TrialSays (text_shown text_a) 4 (padded 8 (2 ∷ [])) (padded 9 (0 ∷ 0 ∷ [])) r → legal_in r ≡ false
unfolding Holds
former_placement_tried r a = ((a_former_at_4 r).0 a).1

pub former_placement_not_drawn : Drawable (stack_in (text_shown text_a)) 4 (2 ∷ []) (0 ∷ 0 ∷ []) → ⊥
unfolding reading replying all_rising rising rises_above
former_placement_not_drawn d = impossible (drawable_legal (stack_in (text_shown text_a)) 4 (2 ∷ []) (0 ∷ 0 ∷ []) refl d)

pub former_total_breaks : (r : TotalResult) → total_in r ≡ 2 → TotalSays (text_shown text_a) 4 r → ⊥
unfolding Holds total_told
former_total_breaks r w a = omega (arith, ((a_at_4.0 r).0 a).1)

pub former_table_breaks : (r : TableResult) (o x : List ℕ) → length o ≡ 50 →
    x ≡ text_shown ("TABLE 1" ∷ "ROW 4 2 2 0 0" ∷ "ROW 5 1 1 1 0" ∷ "ROW 6 0 0 2 0" ∷ []) → TableSays (text_shown text_a) r o x → ⊥
unfolding Holds reading
former_table_breaks r o x l w a = differ _ _ refl (sym w ∙ ((a_in_50 r o x l).0 a).1)

-- A SHIFT BY TWO: legal, but a track too tall
pub track_too_tall_breaks : (r : TotalResult) → total_in r ≡ 4 → TotalSays (text_shown text_a) 4 r → ⊥
unfolding Holds total_told
track_too_tall_breaks r w a = omega (arith, ((a_at_4.0 r).0 a).1)

pub track_too_tall_legal : legal (stack_in (text_shown text_a)) 4 (4 ∷ []) (0 ∷ 0 ∷ []) ≡ true
unfolding reading replying
track_too_tall_legal = refl

-- THE FLOOR SHIFTED TOO, so that a floor of 4 asks for separation 5
pub floor_shifted_breaks : (r : TotalResult) → total_in r ≡ 5 → TotalSays (text_shown text_a_4) 4 r → ⊥
unfolding Holds total_told
floor_shifted_breaks r w a = omega (arith, ((a_4_at_4.0 r).0 a).1)

-- A PAGE WITHOUT THE UPRIGHT STEP: A's paths begin on track 1, or run on track 0 and reach a track more at the end
pub step_left_out_breaks : (r : TableResult) (o x : List ℕ) → length o ≡ 276 →
    x ≡ page_shown ("  3 ..o.o" ∷ "  2 .++.|" ∷ "  1 o+o-+" ∷ "  0 " ∷ []) → PageSays (text_shown text_a) 4 1 r o x → ⊥
unfolding Holds reading showing
step_left_out_breaks r o x l w a = differ _ _ refl (sym w ∙ ((a_page_at_4 r o x l).0 a).1)

pub runs_on_edge_breaks : (r : TableResult) (o x : List ℕ) → length o ≡ 276 →
    x ≡ page_shown ("  3 ..o.o" ∷ "  2 ..|.|" ∷ "  1 .++.|" ∷ "  0 o+o-+" ∷ []) → PageSays (text_shown text_a) 4 1 r o x → ⊥
unfolding Holds reading showing
runs_on_edge_breaks r o x l w a = differ _ _ refl (sym w ∙ ((a_page_at_4 r o x l).0 a).1)

-- LAYOUT IN ANOTHER ORDER: the count before the ending (the word STACK unended, and nothing else) and before the word, and the numbers before the count
pub ending_after_count_breaks : (r : TotalResult) → (refusal_of r).number ≡ 11 → TotalSays stack_word 100 r → ⊥
unfolding reading spread_refusal TotalSays Totalled total_told
ending_after_count_breaks r w a = omega (arith, number_told 2 1 0 _ a.0)

pub word_after_count_breaks : (r : TotalResult) → (refusal_of r).number ≡ 11 → TotalSays (text_shown (headed "STOCK 1 1")) 100 r → ⊥
unfolding Holds total_told
word_after_count_breaks r w a = omega (arith, number_told 2 1 0 _ ((stock_at_100.0 r).0 a).0)

pub numbers_first_breaks : (r : TotalResult) → (refusal_of r).number ≡ 12 → TotalSays (text_shown (headed "STACK 01 1")) 100 r → ⊥
unfolding Holds total_told
numbers_first_breaks r w a = omega (arith, number_told 11 1 3 _ ((zero_one_at_100.0 r).0 a).0)

-- ANOTHER FIELD: the last of three extra ones, 7, and the odd terminal's own
pub last_extra_breaks : (r : TotalResult) → (refusal_of r).field ≡ 7 → TotalSays (text_shown (parted "PART 4 4 4 4 4 4")) 100 r → ⊥
unfolding Holds total_told
last_extra_breaks r w a = omega (arith, field_told 11 2 5 _ ((three_extra_at_100.0 r).0 a).0)

pub own_field_breaks : (r : TotalResult) → (refusal_of r).field ≡ 4 → TotalSays (text_shown (netted "NETS 0 2 2")) 100 r → ⊥
unfolding Holds total_told
own_field_breaks r w a = omega (arith, field_told 11 4 5 _ ((partner_at_100.0 r).0 a).0)

-- ONE NUMBER FOR ALL of layout, as before P5
pub one_number_breaks : (r : TotalResult) → (refusal_of r).number ≡ 2 → TotalSays (text_shown (netted "NETS 0 2 2")) 100 r → ⊥
unfolding Holds total_told
one_number_breaks r w a = omega (arith, number_told 11 4 5 _ ((partner_at_100.0 r).0 a).0)

-- SESSIONS. THE CHANNEL BEFORE THE LENGTH: an odd list, 11
pub channel_first_breaks : (r : TotalResult) → (refusal_of r).number ≡ 11 → StepsTotalSays (text_shown (added "PART 1001" "NETS 0")) 4 r → ⊥
unfolding Holds total_told
channel_first_breaks r w a = omega (arith, number_told 4 0 2 _ ((long_and_odd_at_4.0 r).0 a).0)

-- A REFUSED ADD THAT KEEPS THE STRIP: the total is then that of strips 4, 5 and 4, as where the channel is good
pub refused_strip_kept_breaks : (r : TotalResult) → total_in r ≡ 3 → StepsTotalSays (text_shown (then_a "PART 5" "NETS 5 5")) 5 r → ⊥
unfolding Holds total_told
refused_strip_kept_breaks r w a = omega (arith, ((behind_refused_at_5.0 r).0 a).1)

-- A TENTH STRIP'S NUMBERS FIRST: its length, 4
pub tenth_numbers_first_breaks : (r : TotalResult) → (refusal_of r).number ≡ 4 → StepsTotalSays (text_shown (adding nine_strips "PART 1001" "NETS")) 1 r → ⊥
unfolding Holds total_told
tenth_numbers_first_breaks r w a = omega (arith, number_told 3 0 0 _ ((tenth_at_1.0 r).0 a).0)

-- A REFUSED BEGINNING THAT KEEPS THE OLD SESSION: A, whose top strip can be taken off
pub refused_begin_kept_breaks : (r : TotalResult) → (refusal_of r).number ≡ 0 →
    StepsTotalSays (text_shown (with_lines steps_a (with_lines (beginning "PART 1001") ("OFF" ∷ [])))) 4 r → ⊥
unfolding Holds total_told
refused_begin_kept_breaks r w a = omega (arith, number_told 13 0 0 _ ((off_begun_at_4.0 r).0 a).0)

-- A TERMINAL'S FIELD OFF BY ONE: the third terminal is in field 4
pub field_off_by_one_breaks : (r : TotalResult) → (refusal_of r).field ≡ 3 → StepsTotalSays (text_shown (added "PART 4" "NETS 0 0 5 1")) 4 r → ⊥
unfolding Holds total_told
field_off_by_one_breaks r w a = omega (arith, field_told 5 0 4 _ ((third_terminal_at_4.0 r).0 a).0)

-- ONE STRIP REFUSED as if the session were empty
pub single_refused_breaks : (r : TotalResult) → (refusal_of r).number ≡ 13 → StepsTotalSays (text_shown steps_one) 4 r → ⊥
unfolding Holds total_told
single_refused_breaks r w a = omega (arith, number_told 0 0 0 _ ((one_strip_at_4.0 r).0 a).0)

-- WINDOWS. THE LAST POSITION of a window not allowed, and a strip allowed to its left
pub last_position_breaks : (r : TrialResult) → legal_in r ≡ false → TrialSays (text_shown text_held) 7 (padded 8 (3 ∷ [])) (padded 9 (3 ∷ 0 ∷ [])) r → ⊥
unfolding Holds
last_position_breaks r w a = impossible (sym w ∙ ((held_last_at_7 r).0 a).1)

pub window_ignored_breaks : (r : TrialResult) → legal_in r ≡ true → TrialSays (text_shown text_held) 5 (padded 8 (3 ∷ [])) (padded 9 (0 ∷ 0 ∷ [])) r → ⊥
unfolding Holds
window_ignored_breaks r w a = impossible (sym ((held_left_at_5 r).0 a).1 ∙ w)

-- THE FIRST ROW at the longest strip, as where the least position is ignored
pub first_row_at_longest_breaks : (r : TableResult) (o x : List ℕ) → length o ≡ 50 →
    x ≡ text_shown table_a → TableSays (text_shown text_held) r o x → ⊥
unfolding Holds reading
first_row_at_longest_breaks r o x l w a = differ _ _ refl (sym w ∙ ((held_in_50 r o x l).0 a).1)

-- A ROW SKIPPED, as where an end that grows is counted as held; and no row past the lengths together
pub row_skipped_breaks : (r : TableResult) (o x : List ℕ) → length o ≡ 60 →
    x ≡ text_shown ("TABLE 1" ∷ "ROW 12 3 3 5 8" ∷ "ROW 14 0 0 10 8" ∷ []) ++ replicate 22 0 → TableSays (text_shown text_past) r o x → ⊥
unfolding Holds reading
row_skipped_breaks r o x l w a = differ _ _ refl (sym w ∙ ((past_in_60 r o x l).0 a).1)

pub tail_cut_breaks : (r : TableResult) (o x : List ℕ) → length o ≡ 60 →
    x ≡ text_shown ("TABLE 1" ∷ "ROW 12 3 3 5 8" ∷ []) ++ replicate 37 0 → TableSays (text_shown text_past) r o x → ⊥
unfolding Holds reading
tail_cut_breaks r o x l w a = differ _ _ refl (sym w ∙ ((past_in_60 r o x l).0 a).1)

-- 14 BEFORE 4
pub window_before_length_breaks : (r : TotalResult) → (refusal_of r).number ≡ 14 → TotalSays (text_shown (parted "PART 0 3 2")) 100 r → ⊥
unfolding Holds total_told
window_before_length_breaks r w a = omega (arith, number_told 4 2 2 _ ((short_inverted_at_100.0 r).0 a).0)
