-- TRUSTED. Document 01's specimen cards: one table of texts, questions and replies, and what each says of an entry's result. proofs/Specimens.antt proves all
-- of them. Document 01, "Specimen cards"; document 02: their pages by P1, floors by P2, stated totals by P3, all by P4's rule, refusals by P5, built by steps as in
-- P6, held by windows as in P7. Assumes nothing: these are definitions.
use Rattle.std.specs.Prelude.{◌≡◌, Bool, true, false, cond, List, [], ◌∷◌, ◌++◌, ◌↔◌, ℕ, ◌-◌, eqb, length, replicate}
use Prim.Native.Char.{code}
use Prim.Native.String.{String, [] as end_of, ◌∷◌ as ◌then◌}
use Rattle.numbers.specs.Lists.{padded}
use Rattle.text.specs.Text.{refusal}
use Rattle.text.specs.Outcome.{refusal_of}
use Rattle.reply.specs.Told.{TableResult, table_told}
use Rattle.spread.specs.Answers.{TotalResult, PlacementResult, total_told, TotalSays, placed_is, PlacementSays}
use Rattle.replay.specs.Replay.{StepsTotalSays, StepsPlacementSays}
use Rattle.nabetsu.specs.Entry.{TrialResult, legal_in, TableSays, TrialSays}
use Rattle.nabetsu.specs.Pages.{PageSays}

-- TEXTS as document 01 prints them: a list of lines, tabs shown as spaces
unfoldable pub byte_shown : (code : ℕ) → ℕ
byte_shown c = cond (eqb c 32) 9 c

unfoldable pub line_shown : String → List ℕ
line_shown end_of = 10 ∷ []
line_shown (c then s) = byte_shown (code c) ∷ line_shown s

unfoldable pub text_shown : List String → List ℕ
text_shown [] = []
text_shown (l ∷ ls) = line_shown l ++ text_shown ls

-- PAGES as document 02 prints them: a list of lines, the dots behind the last other character left out
unfoldable pub dotted : String → (places : ℕ) → List ℕ
dotted end_of n = replicate n 46 ++ (10 ∷ [])
dotted (c then s) n = code c ∷ dotted s (n - 1)

unfoldable pub page_shown : List String → List ℕ
page_shown [] = []
page_shown (l ∷ ls) = dotted l 68 ++ page_shown ls

-- a SPECIMEN: a text, what is asked of it, and the reply. spread_gives and spread_refused are about two questions: the least total in a spread, and the placement
-- for it, or for any total where the spread is refused. So are session_gives and session_refused, of a text of steps
pub data Specimen : Type 0 where
  spread_gives : (text : List String) → (s : ℕ) → (total : ℕ) → (separations positions : List ℕ) → Specimen
  spread_refused : (text : List String) → (s : ℕ) → (number line field : ℕ) → Specimen
  place_gives : (text : List String) → (s total : ℕ) → (separations positions : List ℕ) → Specimen
  place_refused : (text : List String) → (s total : ℕ) → (number line field : ℕ) → Specimen
  table_gives : (text : List String) → (space : ℕ) → (table : List String) → Specimen
  table_refused : (text : List String) → (space : ℕ) → (number line field : ℕ) → Specimen
  trial_gives : (text : List String) → (s : ℕ) → (separations positions : List ℕ) → (verdict : Bool) → Specimen
  trial_refused : (text : List String) → (s : ℕ) → (separations positions : List ℕ) → (number line field : ℕ) → Specimen
  page_gives : (text : List String) → (s channel : ℕ) → (space : ℕ) → (page : List String) → Specimen
  page_refused : (text : List String) → (s channel : ℕ) → (space : ℕ) → (number line field : ℕ) → Specimen
  session_gives : (steps : List String) → (s : ℕ) → (total : ℕ) → (separations positions : List ℕ) → Specimen
  session_refused : (steps : List String) → (s : ℕ) → (number line field : ℕ) → Specimen
  session_place_gives : (steps : List String) → (s total : ℕ) → (separations positions : List ℕ) → Specimen
  session_place_refused : (steps : List String) → (s total : ℕ) → (number line field : ℕ) → Specimen

-- what a specimen says of an entry: a result is promised exactly if it is the reply
unfoldable pub Holds : Specimen → Type 0
Holds (spread_gives t s v ts xs) =
    ((r : TotalResult) → TotalSays (text_shown t) s r ↔ total_told (refusal 0 0 0) v r)
    × ((r : PlacementResult) → PlacementSays (text_shown t) s v r ↔ placed_is (refusal 0 0 0) v ts xs r)
Holds (spread_refused t s n l f) =
    ((r : TotalResult) → TotalSays (text_shown t) s r ↔ total_told (refusal n l f) 0 r)
    × ((v : ℕ) (r : PlacementResult) → PlacementSays (text_shown t) s v r ↔ placed_is (refusal n l f) 0 [] [] r)
Holds (place_gives t s v ts xs) = (r : PlacementResult) → PlacementSays (text_shown t) s v r ↔ placed_is (refusal 0 0 0) v ts xs r
Holds (place_refused t s v n l f) = (r : PlacementResult) → PlacementSays (text_shown t) s v r ↔ placed_is (refusal n l f) 0 [] [] r
Holds (table_gives t n a) =
    (r : TableResult) (o x : List ℕ) → length o ≡ n →
    TableSays (text_shown t) r o x
    ↔ (table_told (refusal 0 0 0) (length (text_shown a)) r × (x ≡ text_shown a ++ replicate (n - length (text_shown a)) 0))
Holds (table_refused t n m l f) =
    (r : TableResult) (o x : List ℕ) → length o ≡ n → TableSays (text_shown t) r o x ↔ (table_told (refusal m l f) 0 r × (x ≡ replicate n 0))
Holds (trial_gives t s ts xs v) =
    (r : TrialResult) → TrialSays (text_shown t) s (padded 8 ts) (padded 9 xs) r ↔ ((refusal_of r ≡ refusal 0 0 0) × (legal_in r ≡ v))
Holds (trial_refused t s ts xs n l f) =
    (r : TrialResult) → TrialSays (text_shown t) s (padded 8 ts) (padded 9 xs) r ↔ ((refusal_of r ≡ refusal n l f) × (legal_in r ≡ false))
Holds (page_gives t s c n p) =
    (r : TableResult) (o x : List ℕ) → length o ≡ n →
    PageSays (text_shown t) s c r o x
    ↔ (table_told (refusal 0 0 0) (length (page_shown p)) r × (x ≡ page_shown p ++ replicate (n - length (page_shown p)) 0))
Holds (page_refused t s c n m l f) =
    (r : TableResult) (o x : List ℕ) → length o ≡ n → PageSays (text_shown t) s c r o x ↔ (table_told (refusal m l f) 0 r × (x ≡ replicate n 0))
Holds (session_gives t s v ts xs) =
    ((r : TotalResult) → StepsTotalSays (text_shown t) s r ↔ total_told (refusal 0 0 0) v r)
    × ((r : PlacementResult) → StepsPlacementSays (text_shown t) s v r ↔ placed_is (refusal 0 0 0) v ts xs r)
Holds (session_refused t s n l f) =
    ((r : TotalResult) → StepsTotalSays (text_shown t) s r ↔ total_told (refusal n l f) 0 r)
    × ((v : ℕ) (r : PlacementResult) → StepsPlacementSays (text_shown t) s v r ↔ placed_is (refusal n l f) 0 [] [] r)
Holds (session_place_gives t s v ts xs) = (r : PlacementResult) → StepsPlacementSays (text_shown t) s v r ↔ placed_is (refusal 0 0 0) v ts xs r
Holds (session_place_refused t s v n l f) = (r : PlacementResult) → StepsPlacementSays (text_shown t) s v r ↔ placed_is (refusal n l f) 0 [] [] r

unfoldable pub AllHold : List Specimen → Type 0
AllHold [] = Unit
AllHold (m ∷ ms) = Holds m × AllHold ms

-- THE CARDS
abbrev pub text_a : List String
text_a = "STACK 1" ∷ "PART 4" ∷ "PART 4" ∷ "NETS 0 2 2 4" ∷ []

abbrev pub table_a : List String
table_a = "TABLE 1" ∷ "ROW 4 3 3 0 0" ∷ "ROW 5 2 2 1 0" ∷ "ROW 6 0 0 2 0" ∷ []

abbrev pub text_b : List String
text_b = "STACK 2" ∷ "PART 4" ∷ "PART 4" ∷ "PART 4" ∷ "NETS 0 2 2 4" ∷ "NETS 0 2 2 4" ∷ []

abbrev pub table_b : List String
table_b =
    "TABLE 2"
    ∷ "ROW 4 6 3 3 0 0 0"
    ∷ "ROW 5 5 2 3 1 0 0"
    ∷ "ROW 6 3 0 3 2 0 0"
    ∷ "ROW 7 2 0 2 3 1 0"
    ∷ "ROW 8 0 0 0 4 2 0"
    ∷ []

abbrev pub text_c : List String
text_c = "STACK 1" ∷ "PART 3" ∷ "PART 5" ∷ "NETS" ∷ []

abbrev pub table_c : List String
table_c = "TABLE 1" ∷ "ROW 5 0 0 0 0" ∷ []

abbrev pub text_d : List String
text_d = "STACK 1" ∷ "PART 1" ∷ "PART 1" ∷ "NETS 1 0" ∷ []

abbrev pub table_d : List String
table_d = "TABLE 1" ∷ "ROW 1 2 2 0 0" ∷ "ROW 2 0 0 0 1" ∷ []

abbrev pub text_e : List String
text_e = []

abbrev pub text_f : List String
text_f = "STACK 1" ∷ "PART 0" ∷ "PART 4" ∷ "NETS 0 2 2 4" ∷ []

abbrev pub text_g : List String
text_g = "STACK 1" ∷ "PART 4" ∷ "PART 4" ∷ "NETS 0 2 2 5" ∷ []

abbrev pub text_h : List String
text_h = "STACK 1" ∷ "PART 4" ∷ "PART 4" ∷ "NETS 0 2 0 4" ∷ []

-- 32 pairs and 33
abbrev pub text_32 : List String
text_32 =
    "STACK 1"
    ∷ "PART 40"
    ∷ "PART 40"
    ∷ "NETS 0 0 1 1 2 2 3 3 4 4 5 5 6 6 7 7 8 8 9 9 10 10 11 11 12 12 13 13 14 14 15 15 16 16 17 17 18 18 19 19 20 20 21 21 22 22 23 23 24 24 25 25 26 26 27 27 28 28 29 29 30 30 31 31"
    ∷ []

abbrev pub nets_33 : String
nets_33 =
    "NETS 0 0 1 1 2 2 3 3 4 4 5 5 6 6 7 7 8 8 9 9 10 10 11 11 12 12 13 13 14 14 15 15 16 16 17 17 18 18 19 19 20 20 21 21 22 22 23 23 24 24 25 25 26 26 27 27 28 28 29 29 30 30 31 31 32 32"

abbrev pub text_33 : List String
text_33 = "STACK 1" ∷ "PART 40" ∷ "PART 40" ∷ nets_33 ∷ []

-- lengths 1,000 and 1,001
abbrev pub text_1000 : List String
text_1000 = "STACK 1" ∷ "PART 1000" ∷ "PART 4" ∷ "NETS 0 2 2 4" ∷ []

abbrev pub text_1001 : List String
text_1001 = "STACK 1" ∷ "PART 1001" ∷ "PART 4" ∷ "NETS 0 2 2 4" ∷ []

-- not of document 01: at spread 3, between two rows, the total is the row's and the placement is not
abbrev pub text_between : List String
text_between = "STACK 2" ∷ "PART 2" ∷ "PART 1" ∷ "PART 1" ∷ "NETS 0 1" ∷ "NETS 0 1" ∷ []

abbrev pub table_between : List String
table_between = "TABLE 2" ∷ "ROW 2 2 2 0 0 1 0" ∷ "ROW 4 0 0 0 2 1 0" ∷ []

-- not of document 01: at spread 2 the answer has two tracks in channel 1, and the placement for one track more has none there
abbrev pub text_moved : List String
text_moved = "STACK 2" ∷ "PART 1" ∷ "PART 1" ∷ "PART 2" ∷ "NETS 0 1" ∷ "NETS 0 1 1 2" ∷ []

-- not of document 01: two pairs in each of two channels and six rows, one more than there could be by the former rule: at spread 10 two tracks in each channel, at
-- 12 three in one
abbrev pub text_six : List String
text_six = "STACK 2" ∷ "PART 8" ∷ "PART 8" ∷ "PART 8" ∷ "NETS 0 4 4 8" ∷ "NETS 0 4 4 8" ∷ []

abbrev pub table_six : List String
table_six =
    "TABLE 2"
    ∷ "ROW 8 6 3 3 0 0 0"
    ∷ "ROW 9 5 2 3 1 0 0"
    ∷ "ROW 10 4 2 2 2 1 0"
    ∷ "ROW 12 3 0 3 4 0 0"
    ∷ "ROW 13 2 0 2 5 1 0"
    ∷ "ROW 16 0 0 0 8 4 0"
    ∷ []

-- A'S PAGE at spread 4: separation 3, both strips at 0
abbrev pub page_a : List String
page_a = "  3 ..o.o" ∷ "  2 .++.|" ∷ "  1 +++-+" ∷ "  0 o.o" ∷ []

-- and at spread 5: separation 2, the lower strip at 1
abbrev pub page_a_5 : List String
page_a_5 = "  2 ..o.o" ∷ "  1 .++++" ∷ "  0 .o.o" ∷ []

-- not of document 01: one path straight up and two to the left, the second on the track above the first
abbrev pub text_left : List String
text_left = "STACK 1" ∷ "PART 4" ∷ "PART 4" ∷ "NETS 0 0 3 1 4 2" ∷ []

abbrev pub page_left : List String
page_left = "  3 ooo" ∷ "  2 ||+-+" ∷ "  1 |+-+|" ∷ "  0 o..oo" ∷ []

-- WITH FLOORS: lines behind a text
abbrev pub with_lines : (text lines : List String) → List String
with_lines t ls = t ++ ls

abbrev pub text_a_1 : List String
text_a_1 = with_lines text_a ("GAP 1 1" ∷ [])

-- separation 1 has the offsets of 0
abbrev pub table_a_1 : List String
table_a_1 = "TABLE 1" ∷ "ROW 4 3 3 0 0" ∷ "ROW 5 2 2 1 0" ∷ "ROW 6 1 1 2 0" ∷ []

-- and both of its points are shown for each pair
abbrev pub page_a_1 : List String
page_a_1 = "  1 ..o.o" ∷ "  0 ..o.o" ∷ []

abbrev pub text_a_4 : List String
text_a_4 = with_lines text_a ("GAP 1 4" ∷ [])

abbrev pub table_a_4 : List String
table_a_4 = "TABLE 1" ∷ "ROW 4 4 4 0 0" ∷ []

-- the last upright piece is a track longer
abbrev pub page_a_4 : List String
page_a_4 = "  4 ..o.o" ∷ "  3 ..|.|" ∷ "  2 .++.|" ∷ "  1 +++-+" ∷ "  0 o.o" ∷ []

-- B with a floor in channel 1: at spread 6 separations 3, 0 are first
abbrev pub text_b_1 : List String
text_b_1 = with_lines text_b ("GAP 1 1" ∷ [])

abbrev pub table_b_1 : List String
table_b_1 =
    "TABLE 2" ∷ "ROW 4 6 3 3 0 0 0" ∷ "ROW 5 5 2 3 1 0 0" ∷ "ROW 6 3 3 0 0 2 0" ∷ "ROW 7 2 2 0 3 2 0" ∷ "ROW 8 1 1 0 4 2 0" ∷ []

-- and with floors in both channels, which no spread lowers
abbrev pub text_b_3_5 : List String
text_b_3_5 = with_lines text_b ("GAP 1 3" ∷ "GAP 2 5" ∷ [])

-- a channel without pairs
abbrev pub text_c_3 : List String
text_c_3 = with_lines text_c ("GAP 1 3" ∷ [])

-- eight channels without pairs, and the greatest floor in each
abbrev pub text_512 : List String
text_512 =
    "STACK 8" ∷ "PART 1" ∷ "PART 1" ∷ "PART 1" ∷ "PART 1" ∷ "PART 1" ∷ "PART 1" ∷ "PART 1" ∷ "PART 1" ∷ "PART 1"
    ∷ "NETS" ∷ "NETS" ∷ "NETS" ∷ "NETS" ∷ "NETS" ∷ "NETS" ∷ "NETS" ∷ "NETS"
    ∷ "GAP 1 64" ∷ "GAP 2 64" ∷ "GAP 3 64" ∷ "GAP 4 64" ∷ "GAP 5 64" ∷ "GAP 6 64" ∷ "GAP 7 64" ∷ "GAP 8 64"
    ∷ []

-- FAULTS OF LAYOUT: A with another first line, another PART as its second line, or another NETS
abbrev pub headed : String → List String
headed l = l ∷ "PART 4" ∷ "PART 4" ∷ "NETS 0 2 2 4" ∷ []

abbrev pub parted : String → List String
parted l = "STACK 1" ∷ l ∷ "PART 4" ∷ "NETS 0 2 2 4" ∷ []

abbrev pub netted : String → List String
netted l = "STACK 1" ∷ "PART 4" ∷ "PART 4" ∷ l ∷ []

-- 65 terminals
abbrev pub text_65 : List String
text_65 =
    netted "NETS 0 0 1 1 2 2 3 3 4 4 5 5 6 6 7 7 8 8 9 9 10 10 11 11 12 12 13 13 14 14 15 15 16 16 17 17 18 18 19 19 20 20 21 21 22 22 23 23 24 24 25 25 26 26 27 27 28 28 29 29 30 30 31 31 32"

-- STEPS: one strip of length 4, and cards A, B and D from the bottom up
abbrev pub beginning : (part : String) → List String
beginning p = "BEGIN" ∷ p ∷ []

abbrev pub adding : (steps : List String) → (part nets : String) → List String
adding t p n = with_lines t ("ADD" ∷ p ∷ n ∷ [])

abbrev pub steps_one : List String
steps_one = beginning "PART 4"

abbrev pub steps_a : List String
steps_a = adding steps_one "PART 4" "NETS 0 2 2 4"

abbrev pub steps_b : List String
steps_b = adding steps_a "PART 4" "NETS 0 2 2 4"

abbrev pub steps_d : List String
steps_d = adding (beginning "PART 1") "PART 1" "NETS 1 0"

-- an ADD on that strip, and A's ADD behind it: where the first one is refused, A
abbrev pub added : (part nets : String) → List String
added p n = adding steps_one p n

abbrev pub then_a : (part nets : String) → List String
then_a p n = adding (added p n) "PART 4" "NETS 0 2 2 4"

-- 67 terminals
abbrev pub nets_67 : String
nets_67 =
    "NETS 0 0 1 1 2 2 3 3 4 4 5 5 6 6 7 7 8 8 9 9 10 10 11 11 12 12 13 13 14 14 15 15 16 16 17 17 18 18 19 19 20 20 21 21 22 22 23 23 24 24 25 25 26 26 27 27 28 28 29 29 30 30 31 31 32 32 33"

-- so many strips of length 1 without pairs
abbrev pub three_strips : List String
three_strips = adding (adding (beginning "PART 1") "PART 1" "NETS") "PART 1" "NETS"

abbrev pub six_strips : List String
six_strips = adding (adding (adding three_strips "PART 1" "NETS") "PART 1" "NETS") "PART 1" "NETS"

abbrev pub nine_strips : List String
nine_strips = adding (adding (adding six_strips "PART 1" "NETS") "PART 1" "NETS") "PART 1" "NETS"

-- nine, a tenth that is refused, and eight taken off
abbrev pub nine_less_eight : List String
nine_less_eight = with_lines (adding nine_strips "PART 1" "NETS") ("OFF" ∷ "OFF" ∷ "OFF" ∷ "OFF" ∷ "OFF" ∷ "OFF" ∷ "OFF" ∷ "OFF" ∷ [])

-- STRIPS HELD BY WINDOWS: A with a window for its lower strip; a window of one position; windows that keep its strips apart in every spread; rows past the lengths
-- together; a strip at the last position of all
abbrev pub text_held : List String
text_held = parted "PART 4 1 3"

abbrev pub table_held : List String
table_held = "TABLE 1" ∷ "ROW 5 2 2 1 0" ∷ "ROW 6 0 0 2 0" ∷ []

abbrev pub text_fixed : List String
text_fixed = parted "PART 4 0 0"

abbrev pub text_apart : List String
text_apart = "STACK 1" ∷ "PART 4 0 0" ∷ "PART 4 9 9" ∷ "NETS 0 2 2 4" ∷ []

abbrev pub text_past : List String
text_past = "STACK 1" ∷ "PART 4 5 10" ∷ "PART 4 8 8" ∷ "NETS 0 2 2 4" ∷ []

abbrev pub table_past : List String
table_past = "TABLE 1" ∷ "ROW 12 3 3 5 8" ∷ "ROW 13 2 2 9 8" ∷ "ROW 14 0 0 10 8" ∷ []

abbrev pub text_9999 : List String
text_9999 = parted "PART 4 9999 9999"

-- B with free strips above and below one that is held
abbrev pub text_between_free : List String
text_between_free = "STACK 2" ∷ "PART 4" ∷ "PART 4 1 1" ∷ "PART 4" ∷ "NETS 0 2 2 4" ∷ "NETS 0 2 2 4" ∷ []

abbrev pub table_between_free : List String
table_between_free = "TABLE 2" ∷ "ROW 5 5 3 2 0 1 0" ∷ "ROW 6 4 2 2 2 1 0" ∷ "ROW 7 2 0 2 3 1 0" ∷ []

-- THE SPECIMENS
unfoldable pub specimens : List Specimen
specimens =
    -- A
    table_gives text_a 50 table_a
    ∷ table_gives text_a 51 table_a
    ∷ table_refused text_a 49 8 0 0
    ∷ spread_refused text_a 3 7 0 0
    ∷ spread_gives text_a 4 3 (3 ∷ []) (0 ∷ 0 ∷ [])
    ∷ spread_gives text_a 5 2 (2 ∷ []) (1 ∷ 0 ∷ [])
    ∷ spread_gives text_a 6 0 (0 ∷ []) (2 ∷ 0 ∷ [])
    ∷ spread_gives text_a 100 0 (0 ∷ []) (2 ∷ 0 ∷ [])
    -- B; at spread 6 separations 3, 0 also total 3
    ∷ table_gives text_b 98 table_b
    ∷ spread_gives text_b 4 6 (3 ∷ 3 ∷ []) (0 ∷ 0 ∷ 0 ∷ [])
    ∷ spread_gives text_b 5 5 (2 ∷ 3 ∷ []) (1 ∷ 0 ∷ 0 ∷ [])
    ∷ spread_gives text_b 6 3 (0 ∷ 3 ∷ []) (2 ∷ 0 ∷ 0 ∷ [])
    ∷ trial_gives text_b 6 (3 ∷ 0 ∷ []) (0 ∷ 2 ∷ 0 ∷ []) true
    ∷ spread_gives text_b 7 2 (0 ∷ 2 ∷ []) (3 ∷ 1 ∷ 0 ∷ [])
    ∷ spread_gives text_b 8 0 (0 ∷ 0 ∷ []) (4 ∷ 2 ∷ 0 ∷ [])
    ∷ spread_gives text_b 9 0 (0 ∷ 0 ∷ []) (4 ∷ 2 ∷ 0 ∷ [])
    -- C
    ∷ table_gives text_c 50 table_c
    ∷ spread_gives text_c 5 0 (0 ∷ []) (0 ∷ 0 ∷ [])
    ∷ spread_gives text_c 6 0 (0 ∷ []) (0 ∷ 0 ∷ [])
    -- D
    ∷ table_gives text_d 50 table_d
    ∷ spread_gives text_d 1 2 (2 ∷ []) (0 ∷ 0 ∷ [])
    ∷ spread_gives text_d 2 0 (0 ∷ []) (0 ∷ 1 ∷ [])
    ∷ spread_gives text_d 3 0 (0 ∷ []) (0 ∷ 1 ∷ [])
    -- E to H
    ∷ table_refused text_e 50 2 1 0
    ∷ spread_refused text_e 100 2 1 0
    ∷ trial_refused text_e 100 [] [] 2 1 0
    ∷ table_refused text_f 50 4 2 2
    ∷ spread_refused text_f 100 4 2 2
    ∷ table_refused text_g 50 5 4 5
    ∷ spread_refused text_g 100 5 4 5
    ∷ table_refused text_h 50 6 4 4
    ∷ spread_refused text_h 100 6 4 4
    -- the limits
    ∷ spread_gives text_32 40 0 (0 ∷ []) (0 ∷ 0 ∷ [])
    ∷ table_refused text_33 50 3 4 66
    ∷ spread_refused text_33 40 3 4 66
    ∷ spread_gives text_1000 1000 3 (3 ∷ []) (0 ∷ 0 ∷ [])
    ∷ table_refused text_1001 50 4 2 2
    ∷ spread_refused text_1001 1001 4 2 2
    -- between two rows
    ∷ table_gives text_between 44 table_between
    ∷ spread_gives text_between 2 2 (2 ∷ 0 ∷ []) (0 ∷ 1 ∷ 0 ∷ [])
    ∷ spread_gives text_between 3 2 (0 ∷ 2 ∷ []) (1 ∷ 0 ∷ 0 ∷ [])
    -- a number in an unused place
    ∷ trial_gives text_a 6 (0 ∷ []) (2 ∷ 0 ∷ []) true
    ∷ trial_gives text_a 6 (0 ∷ 1 ∷ []) (2 ∷ 0 ∷ []) false
    -- the rows of document 01, by the rule before P4, are not legal where they have tracks; nor is what totalled as much as B's row at 6
    ∷ trial_gives text_a 4 (2 ∷ []) (0 ∷ 0 ∷ []) false
    ∷ trial_gives text_a 5 (1 ∷ []) (1 ∷ 0 ∷ []) false
    ∷ trial_gives text_b 4 (2 ∷ 2 ∷ []) (0 ∷ 0 ∷ 0 ∷ []) false
    ∷ trial_gives text_b 6 (0 ∷ 2 ∷ []) (2 ∷ 0 ∷ 0 ∷ []) false
    ∷ trial_gives text_b 6 (1 ∷ 1 ∷ []) (2 ∷ 1 ∷ 0 ∷ []) false
    ∷ trial_gives text_d 1 (1 ∷ []) (0 ∷ 0 ∷ []) false
    -- separation 1 has the offsets of 0, from 3 on every offset serves
    ∷ trial_gives text_a 6 (1 ∷ []) (2 ∷ 0 ∷ []) true
    ∷ trial_gives text_a 6 (1 ∷ []) (1 ∷ 0 ∷ []) false
    ∷ trial_gives text_a 6 (2 ∷ []) (1 ∷ 0 ∷ []) true
    ∷ trial_gives text_a 6 (2 ∷ []) (0 ∷ 0 ∷ []) false
    ∷ trial_gives text_a 6 (3 ∷ []) (0 ∷ 2 ∷ []) true
    -- six rows
    ∷ table_gives text_six 120 table_six
    -- pages of A: paths to the right, and at spread 6 paths of one point
    ∷ page_gives text_a 4 1 276 page_a
    ∷ page_gives text_a 4 1 300 page_a
    ∷ page_gives text_a 5 1 207 page_a_5
    ∷ page_gives text_a 6 1 69 ("  0 ..o.o" ∷ [])
    ∷ page_gives text_a 63 1 69 ("  0 ..o.o" ∷ [])
    -- of B
    ∷ page_gives text_b 4 1 276 page_a
    ∷ page_gives text_b 4 2 276 page_a
    ∷ page_gives text_b 5 1 207 page_a_5
    ∷ page_gives text_b 5 2 276 page_a
    ∷ page_gives text_b 7 1 69 ("  0 ...o.o" ∷ [])
    ∷ page_gives text_b 7 2 207 page_a_5
    -- of C, without pairs
    ∷ page_gives text_c 5 1 69 ("  0 " ∷ [])
    ∷ page_gives text_c 63 1 70 ("  0 " ∷ [])
    -- of D: a path to the left, and one of one point
    ∷ page_gives text_d 1 1 207 ("  2 o" ∷ "  1 ++" ∷ "  0 .o" ∷ [])
    ∷ page_gives text_d 2 1 69 ("  0 .o" ∷ [])
    ∷ page_gives text_left 4 1 276 page_left
    -- the page's refusals, in their order
    ∷ page_refused text_e 4 0 300 2 1 0
    ∷ page_refused text_a 3 0 300 3 0 0
    ∷ page_refused text_a 64 2 300 3 0 0
    ∷ page_refused text_a 3 1 300 7 0 0
    ∷ page_refused text_1000 999 1 300 7 0 0
    ∷ page_refused text_1000 1000 1 0 9 0 0
    ∷ page_refused text_a 64 1 300 9 0 0
    ∷ page_refused text_a 4 1 275 8 0 0
    -- floors that raise a total: from spread 6 on, and at every spread; between two rows; and one that raises none
    ∷ table_gives text_a_1 50 table_a_1
    ∷ spread_gives text_a_1 7 1 (1 ∷ []) (2 ∷ 0 ∷ [])
    ∷ table_gives text_a_4 22 table_a_4
    ∷ table_refused text_a_4 21 8 0 0
    ∷ spread_gives text_a_4 4 4 (4 ∷ []) (0 ∷ 0 ∷ [])
    ∷ spread_gives text_a_4 100 4 (4 ∷ []) (0 ∷ 0 ∷ [])
    ∷ spread_refused text_a_4 3 7 0 0
    ∷ table_gives (with_lines text_a ("GAP 1 0" ∷ [])) 50 table_a
    ∷ table_gives text_b_1 98 table_b_1
    ∷ spread_gives text_b_1 9 1 (1 ∷ 0 ∷ []) (4 ∷ 2 ∷ 0 ∷ [])
    ∷ spread_gives text_b_3_5 9 8 (3 ∷ 5 ∷ []) (0 ∷ 0 ∷ 0 ∷ [])
    -- a channel without pairs, and the greatest floor
    ∷ table_gives text_c_3 22 ("TABLE 1" ∷ "ROW 5 3 3 0 0" ∷ [])
    ∷ spread_gives (with_lines text_c ("GAP 1 1" ∷ [])) 5 1 (1 ∷ []) (0 ∷ 0 ∷ [])
    ∷ spread_gives (with_lines text_a ("GAP 1 64" ∷ [])) 4 64 (64 ∷ []) (0 ∷ 0 ∷ [])
    -- trials at a floor, which is not a track less, and below it
    ∷ trial_gives text_a_4 4 (4 ∷ []) (0 ∷ 0 ∷ []) true
    ∷ trial_gives text_a_4 4 (3 ∷ []) (0 ∷ 0 ∷ []) false
    ∷ trial_gives text_c_3 5 (2 ∷ []) (0 ∷ 0 ∷ []) false
    ∷ trial_gives text_512 1 (64 ∷ 64 ∷ 64 ∷ 64 ∷ 64 ∷ 64 ∷ 64 ∷ 64 ∷ []) (replicate 9 0) true
    ∷ trial_gives text_512 1 (64 ∷ 64 ∷ 64 ∷ 64 ∷ 64 ∷ 64 ∷ 64 ∷ 63 ∷ []) (replicate 9 0) false
    -- pages
    ∷ page_gives text_a_1 6 1 138 page_a_1
    ∷ page_gives text_a_4 6 1 345 page_a_4
    ∷ page_gives text_c_3 5 1 276 ("  3 " ∷ "  2 " ∷ "  1 " ∷ "  0 " ∷ [])
    -- refusals of a GAP line, in their order
    ∷ table_refused (with_lines text_a ("GAP 1" ∷ [])) 50 11 5 3
    ∷ table_refused (with_lines text_a ("GAP 1 1 1" ∷ [])) 50 11 5 4
    ∷ table_refused (with_lines text_a ("GAP 0 065" ∷ [])) 50 12 5 3
    ∷ table_refused (with_lines text_a_1 ("NETS" ∷ [])) 50 2 6 0
    ∷ table_refused (with_lines text_a ("GAP 0 1" ∷ [])) 50 3 5 2
    ∷ table_refused (with_lines text_a ("GAP 2 65" ∷ [])) 50 3 5 2
    ∷ spread_refused (with_lines text_a ("GAP 1 65" ∷ [])) 3 3 5 3
    ∷ trial_refused (with_lines text_a ("GAP 1 65" ∷ [])) 4 (3 ∷ []) (0 ∷ 0 ∷ []) 3 5 3
    ∷ page_refused (with_lines text_a ("GAP 1 65" ∷ [])) 64 2 300 3 5 3
    ∷ table_refused (with_lines text_a_1 ("GAP 1 1" ∷ [])) 50 6 6 2
    ∷ table_refused (with_lines text_a_1 ("GAP 1 65" ∷ [])) 50 3 6 3
    ∷ table_refused (with_lines text_b ("GAP 2 1" ∷ "GAP 1 1" ∷ [])) 50 6 8 2
    -- stated totals of A: below the least one and above it, up to the greatest number; with a greater separation strips can be further left, but not with one track
    ∷ place_refused text_a 4 0 10 0 0
    ∷ place_refused text_a 4 2 10 0 0
    ∷ place_gives text_a 4 4 (4 ∷ []) (0 ∷ 0 ∷ [])
    ∷ place_gives text_a 4 4294967295 (4294967295 ∷ []) (0 ∷ 0 ∷ [])
    ∷ place_gives text_a 5 3 (3 ∷ []) (0 ∷ 0 ∷ [])
    ∷ place_gives text_a 6 1 (1 ∷ []) (2 ∷ 0 ∷ [])
    ∷ place_gives text_a 6 2 (2 ∷ []) (1 ∷ 0 ∷ [])
    ∷ place_gives text_a 100 7 (7 ∷ []) (0 ∷ 0 ∷ [])
    -- of B: all that can be is in the last channel
    ∷ place_refused text_b 5 4 10 0 0
    ∷ place_gives text_b 5 6 (2 ∷ 4 ∷ []) (1 ∷ 0 ∷ 0 ∷ [])
    ∷ place_gives text_b 5 7 (2 ∷ 5 ∷ []) (1 ∷ 0 ∷ 0 ∷ [])
    ∷ place_refused text_b 6 2 10 0 0
    ∷ place_gives text_b 6 3 (0 ∷ 3 ∷ []) (2 ∷ 0 ∷ 0 ∷ [])
    ∷ place_gives text_b 6 4 (0 ∷ 4 ∷ []) (2 ∷ 0 ∷ 0 ∷ [])
    ∷ place_gives text_b 6 6 (0 ∷ 6 ∷ []) (2 ∷ 0 ∷ 0 ∷ [])
    ∷ place_gives text_b 6 4294967295 (0 ∷ 4294967295 ∷ []) (2 ∷ 0 ∷ 0 ∷ [])
    ∷ place_gives text_b 7 3 (0 ∷ 3 ∷ []) (2 ∷ 0 ∷ 0 ∷ [])
    ∷ place_gives text_b 8 1 (0 ∷ 1 ∷ []) (4 ∷ 2 ∷ 0 ∷ [])
    -- of C, without pairs, and of D
    ∷ place_gives text_c 5 3 (3 ∷ []) (0 ∷ 0 ∷ [])
    ∷ place_refused text_d 1 1 10 0 0
    ∷ place_gives text_d 2 1 (1 ∷ []) (0 ∷ 1 ∷ [])
    ∷ place_gives text_d 2 2 (2 ∷ []) (0 ∷ 0 ∷ [])
    -- for a greater total strips move, or the first separation is smaller
    ∷ place_gives text_between 2 4 (2 ∷ 2 ∷ []) (0 ∷ 0 ∷ 0 ∷ [])
    ∷ spread_gives text_moved 2 2 (2 ∷ 0 ∷ []) (0 ∷ 1 ∷ 0 ∷ [])
    ∷ place_gives text_moved 2 3 (0 ∷ 3 ∷ []) (1 ∷ 0 ∷ 0 ∷ [])
    -- with floors; at a spread too broad for a page a total below the floor is 10
    ∷ place_refused text_a_4 4 3 10 0 0
    ∷ place_gives text_a_4 4 5 (5 ∷ []) (0 ∷ 0 ∷ [])
    ∷ place_refused text_a_4 100 3 10 0 0
    ∷ place_gives text_b_1 6 4 (1 ∷ 3 ∷ []) (2 ∷ 0 ∷ 0 ∷ [])
    ∷ place_refused text_b_3_5 9 7 10 0 0
    ∷ place_gives text_b_3_5 9 9 (3 ∷ 6 ∷ []) (0 ∷ 0 ∷ 0 ∷ [])
    -- the text's refusals, then 7, before 10
    ∷ place_refused text_e 100 0 2 1 0
    ∷ place_refused text_h 3 0 6 4 4
    ∷ place_refused text_a 3 0 7 0 0
    ∷ place_refused text_a 3 4294967295 7 0 0
    -- layout: the word, then the count of the fields, then each number from the left; a trailing tab makes one field more
    ∷ spread_refused (headed "STOCK 1 1") 100 2 1 0
    ∷ table_refused (headed "STACK") 50 11 1 2
    ∷ table_refused (headed "STACK 1 1") 50 11 1 3
    ∷ spread_refused (headed "STACK 01 1") 100 11 1 3
    ∷ table_refused (headed "STACK 01") 50 12 1 2
    ∷ table_refused (headed "STACK 9") 50 3 1 2
    ∷ table_refused (parted "PART") 50 11 2 2
    ∷ spread_refused (parted "PART 4 4 4 4 4 4") 100 11 2 5
    ∷ table_refused (parted "PART 4 ") 50 11 2 4
    ∷ table_refused (parted "PART ") 50 12 2 2
    ∷ table_refused (parted "PART 01001") 50 12 2 2
    ∷ table_refused (netted "NETS 0") 50 11 4 3
    ∷ spread_refused (netted "NETS 0 2 2") 100 11 4 5
    ∷ table_refused (netted "NETS ") 50 11 4 3
    ∷ table_refused text_65 50 11 4 67
    -- of two ill-formed numbers the left one; layout before overhang, 5, at a field further left
    ∷ table_refused (netted "NETS 9 2 x 0x") 50 12 4 4
    -- a line further up first: length, 4, before a count, and a count before a word
    ∷ table_refused ("STACK 1" ∷ "PART 0" ∷ "PART" ∷ []) 50 4 2 2
    ∷ table_refused ("STACK 1" ∷ "PART 4" ∷ "PART" ∷ "NOTS" ∷ []) 50 11 3 2
    -- of a GAP: the count before the numbers
    ∷ table_refused (with_lines text_a ("GAP x" ∷ [])) 50 11 5 3
    ∷ table_refused (with_lines text_a ("GAP x 65" ∷ [])) 50 12 5 2
    -- every entry gives them before its own refusals
    ∷ trial_refused (netted "NETS 0 2 2") 4 (3 ∷ []) (0 ∷ 0 ∷ []) 11 4 5
    ∷ trial_refused (netted "NETS 0 2 2 x") 4 (3 ∷ []) (0 ∷ 0 ∷ []) 12 4 5
    ∷ spread_refused (netted "NETS 0 2 2 x") 3 12 4 5
    ∷ page_refused (netted "NETS 0 2 2") 64 2 300 11 4 5
    ∷ page_refused (netted "NETS 0 2 2 x") 64 2 0 12 4 5
    -- sessions: one strip; any total but 0 is 10
    ∷ session_gives steps_one 4 0 [] (0 ∷ [])
    ∷ session_gives steps_one 9 0 [] (0 ∷ [])
    ∷ session_refused steps_one 3 7 0 0
    ∷ session_place_gives steps_one 5 0 [] (0 ∷ [])
    ∷ session_place_refused steps_one 4 1 10 0 0
    ∷ session_gives (beginning "PART 1000") 1000 0 [] (0 ∷ [])
    -- no step, so an empty session: every spread is 13, and every step but a beginning, before its own refusals
    ∷ session_refused [] 0 13 0 0
    ∷ session_refused [] 4 13 0 0
    ∷ session_refused [] 4294967295 13 0 0
    ∷ session_refused ("OFF" ∷ []) 4 13 0 0
    ∷ session_refused (adding [] "PART 4" "NETS 0 2 2 4") 4 13 0 0
    ∷ session_refused (adding [] "PART 1001" "NETS 0") 4 13 0 0
    -- a refused beginning, and the empty session behind it, whatever was held; a good one starts afresh
    ∷ session_refused (beginning "PART 0") 4 4 0 2
    ∷ session_refused (beginning "PART 1001") 1001 4 0 2
    ∷ session_refused (beginning "PART 9999") 3 4 0 2
    ∷ session_refused (adding (beginning "PART 0") "PART 4" "NETS 0 2 2 4") 4 13 0 0
    ∷ session_refused (with_lines (beginning "PART 0") ("OFF" ∷ [])) 4 13 0 0
    ∷ session_refused (with_lines steps_a (beginning "PART 1001")) 4 4 0 2
    ∷ session_refused (with_lines steps_a (with_lines (beginning "PART 1001") ("OFF" ∷ []))) 4 13 0 0
    ∷ session_refused (with_lines steps_a (adding (beginning "PART 1001") "PART 4" "NETS 0 2 2 4")) 4 13 0 0
    ∷ session_gives (with_lines steps_a (beginning "PART 5")) 5 0 [] (0 ∷ [])
    ∷ session_refused (with_lines steps_a (beginning "PART 5")) 4 7 0 0
    -- A, B and D, as of their texts
    ∷ session_refused steps_a 3 7 0 0
    ∷ session_gives steps_a 4 3 (3 ∷ []) (0 ∷ 0 ∷ [])
    ∷ session_gives steps_a 5 2 (2 ∷ []) (1 ∷ 0 ∷ [])
    ∷ session_gives steps_a 6 0 (0 ∷ []) (2 ∷ 0 ∷ [])
    ∷ session_gives steps_a 100 0 (0 ∷ []) (2 ∷ 0 ∷ [])
    ∷ session_place_refused steps_a 4 2 10 0 0
    ∷ session_place_gives steps_a 4 4 (4 ∷ []) (0 ∷ 0 ∷ [])
    ∷ session_place_gives steps_a 4 4294967295 (4294967295 ∷ []) (0 ∷ 0 ∷ [])
    ∷ session_place_gives steps_a 5 3 (3 ∷ []) (0 ∷ 0 ∷ [])
    ∷ session_place_gives steps_a 6 1 (1 ∷ []) (2 ∷ 0 ∷ [])
    ∷ session_refused steps_b 3 7 0 0
    ∷ session_gives steps_b 4 6 (3 ∷ 3 ∷ []) (0 ∷ 0 ∷ 0 ∷ [])
    ∷ session_gives steps_b 5 5 (2 ∷ 3 ∷ []) (1 ∷ 0 ∷ 0 ∷ [])
    ∷ session_gives steps_b 6 3 (0 ∷ 3 ∷ []) (2 ∷ 0 ∷ 0 ∷ [])
    ∷ session_gives steps_b 7 2 (0 ∷ 2 ∷ []) (3 ∷ 1 ∷ 0 ∷ [])
    ∷ session_gives steps_b 8 0 (0 ∷ 0 ∷ []) (4 ∷ 2 ∷ 0 ∷ [])
    ∷ session_place_refused steps_b 6 2 10 0 0
    ∷ session_place_gives steps_b 6 4 (0 ∷ 4 ∷ []) (2 ∷ 0 ∷ 0 ∷ [])
    ∷ session_refused steps_d 0 7 0 0
    ∷ session_gives steps_d 1 2 (2 ∷ []) (0 ∷ 0 ∷ [])
    ∷ session_gives steps_d 2 0 (0 ∷ []) (0 ∷ 1 ∷ [])
    ∷ session_gives steps_d 3 0 (0 ∷ []) (0 ∷ 1 ∷ [])
    ∷ session_place_refused steps_d 1 1 10 0 0
    ∷ session_place_gives steps_d 2 1 (1 ∷ []) (0 ∷ 1 ∷ [])
    ∷ session_place_gives steps_d 2 2 (2 ∷ []) (0 ∷ 0 ∷ [])
    -- OFF: of B it leaves A, of A one strip, which can't be taken off and stays; a step behind a refused one
    ∷ session_gives (with_lines steps_b ("OFF" ∷ [])) 5 2 (2 ∷ []) (1 ∷ 0 ∷ [])
    ∷ session_gives (with_lines steps_a ("OFF" ∷ [])) 4 0 [] (0 ∷ [])
    ∷ session_refused (with_lines steps_a ("OFF" ∷ [])) 3 7 0 0
    ∷ session_refused (with_lines steps_a ("OFF" ∷ "OFF" ∷ [])) 4 13 0 0
    ∷ session_gives (adding (with_lines steps_a ("OFF" ∷ "OFF" ∷ [])) "PART 4" "NETS 0 2 2 4") 5 2 (2 ∷ []) (1 ∷ 0 ∷ [])
    -- each refusal of an ADD: of its length, an odd list, 33 pairs, overhang below, above and of the second pair, crossing below and above
    ∷ session_refused (added "PART 1001" "NETS 0 2 2 4") 4 4 0 2
    ∷ session_refused (added "PART 0" "NETS") 4 4 0 2
    ∷ session_refused (added "PART 4" "NETS 0") 4 11 0 3
    ∷ session_refused (adding (beginning "PART 40") "PART 40" nets_33) 40 3 0 66
    ∷ session_refused (added "PART 5" "NETS 5 5") 5 5 0 2
    ∷ session_refused (added "PART 3" "NETS 4 4") 4 5 0 3
    ∷ session_refused (added "PART 4" "NETS 0 0 5 1") 4 5 0 4
    ∷ session_refused (added "PART 4" "NETS 2 0 2 1") 4 6 0 4
    ∷ session_refused (added "PART 4" "NETS 0 2 1 2") 4 6 0 5
    -- and behind each one A's ADD makes A, as without it; behind a strip of length 5 that is taken it does not
    ∷ session_gives (then_a "PART 1001" "NETS 0 2 2 4") 5 2 (2 ∷ []) (1 ∷ 0 ∷ [])
    ∷ session_gives (then_a "PART 4" "NETS 0") 5 2 (2 ∷ []) (1 ∷ 0 ∷ [])
    ∷ session_gives (then_a "PART 4" nets_33) 5 2 (2 ∷ []) (1 ∷ 0 ∷ [])
    ∷ session_gives (then_a "PART 5" "NETS 5 5") 5 2 (2 ∷ []) (1 ∷ 0 ∷ [])
    ∷ session_gives (then_a "PART 3" "NETS 4 4") 5 2 (2 ∷ []) (1 ∷ 0 ∷ [])
    ∷ session_gives (then_a "PART 4" "NETS 0 0 5 1") 5 2 (2 ∷ []) (1 ∷ 0 ∷ [])
    ∷ session_gives (then_a "PART 4" "NETS 2 0 2 1") 5 2 (2 ∷ []) (1 ∷ 0 ∷ [])
    ∷ session_gives (then_a "PART 4" "NETS 0 2 1 2") 5 2 (2 ∷ []) (1 ∷ 0 ∷ [])
    ∷ session_gives (then_a "PART 5" "NETS") 5 3 (0 ∷ 3 ∷ []) (0 ∷ 0 ∷ 0 ∷ [])
    -- their order: the length, an odd list, also of 67 terminals, 33 pairs, then overhang and crossing from the left (no terminal is both: what hangs over is above
    -- the terminal before); all of them before 7
    ∷ session_refused (added "PART 1001" "NETS 0") 4 4 0 2
    ∷ session_refused (added "PART 1001" "NETS 5 5") 4 4 0 2
    ∷ session_refused (added "PART 4" "NETS 5 5 5") 4 11 0 5
    ∷ session_refused (added "PART 4" nets_67) 4 11 0 69
    ∷ session_refused (added "PART 4" nets_33) 4 3 0 66
    ∷ session_refused (added "PART 4" "NETS 2 2 2 5") 4 6 0 4
    ∷ session_refused (added "PART 4" "NETS 2 2 5 2") 4 5 0 4
    ∷ session_refused (added "PART 4" "NETS 2 0 2 1") 3 6 0 4
    -- nine strips, the most: a tenth is 3 before its numbers count, and the nine stay, of which eight can be taken off
    ∷ session_gives nine_strips 1 0 (replicate 8 0) (replicate 9 0)
    ∷ session_refused (adding nine_strips "PART 1" "NETS") 1 3 0 0
    ∷ session_refused (adding nine_strips "PART 1001" "NETS") 1 3 0 0
    ∷ session_refused (adding nine_strips "PART 1" "NETS 0") 1 3 0 0
    ∷ session_gives nine_less_eight 1 0 [] (0 ∷ [])
    ∷ session_refused (with_lines nine_less_eight ("OFF" ∷ [])) 1 13 0 0
    -- texts that are no steps, 2 at the first line that is none or is missing: a word, a field behind it, PART and NETS, an ill-formed number; what stands behind it
    -- is not looked at, and a refused step before it does not count
    ∷ session_refused text_a 4 2 1 0
    ∷ session_refused (with_lines steps_one ("OPEN" ∷ [])) 4 2 3 0
    ∷ session_refused (with_lines steps_a ("OFF 1" ∷ [])) 4 2 6 0
    ∷ session_refused ("BEGIN 4" ∷ []) 4 2 1 0
    ∷ session_refused ("BEGIN" ∷ []) 4 2 2 0
    ∷ session_refused (with_lines steps_one ("ADD" ∷ "NETS" ∷ [])) 4 2 4 0
    ∷ session_refused (with_lines steps_one ("ADD" ∷ "PART 4" ∷ [])) 4 2 5 0
    ∷ session_refused (with_lines steps_one ("ADD" ∷ "PART 4" ∷ "OFF" ∷ [])) 4 2 5 0
    ∷ session_refused (beginning "PART 05") 4 2 2 0
    ∷ session_refused (added "PART 4" "NETS 0 x") 4 2 5 0
    ∷ session_refused (with_lines steps_one ("OPEN" ∷ "OFF" ∷ [])) 4 2 3 0
    ∷ session_refused (with_lines (beginning "PART 0") ("OPEN" ∷ [])) 4 2 3 0
    -- windows: the first row is at the greatest length plus least position, and narrow is below it
    ∷ table_gives text_held 50 table_held
    ∷ spread_refused text_held 4 7 0 0
    ∷ spread_gives text_held 5 2 (2 ∷ []) (1 ∷ 0 ∷ [])
    ∷ spread_gives text_held 100 0 (0 ∷ []) (2 ∷ 0 ∷ [])
    ∷ place_gives text_held 5 4 (4 ∷ []) (1 ∷ 0 ∷ [])
    ∷ place_refused text_held 5 1 10 0 0
    ∷ page_gives text_held 5 1 207 page_a_5
    ∷ page_refused text_held 4 1 207 7 0 0
    -- a trial inside and outside of the window; below the first spread nothing is legal
    ∷ trial_gives text_held 7 (3 ∷ []) (3 ∷ 0 ∷ []) true
    ∷ trial_gives text_held 8 (3 ∷ []) (4 ∷ 0 ∷ []) false
    ∷ trial_gives text_held 5 (3 ∷ []) (0 ∷ 0 ∷ []) false
    ∷ trial_gives text_held 4 (3 ∷ []) (1 ∷ 0 ∷ []) false
    -- one position, strips apart, rows past the lengths together, free strips beside one that is held, the last position of all
    ∷ table_gives text_fixed 50 ("TABLE 1" ∷ "ROW 4 3 3 0 0" ∷ [])
    ∷ table_gives text_apart 50 ("TABLE 1" ∷ "ROW 13 3 3 0 9" ∷ [])
    ∷ spread_gives text_apart 4294967295 3 (3 ∷ []) (0 ∷ 9 ∷ [])
    ∷ table_gives text_past 60 table_past
    ∷ spread_gives text_past 13 2 (2 ∷ []) (9 ∷ 8 ∷ [])
    ∷ table_gives text_between_free 70 table_between_free
    ∷ table_gives text_9999 50 ("TABLE 1" ∷ "ROW 10003 0 0 9999 9997" ∷ [])
    ∷ spread_refused text_9999 10002 7 0 0
    ∷ table_refused text_9999 31 8 0 0
    -- with a floor
    ∷ table_gives (with_lines text_held ("GAP 1 1" ∷ [])) 50 ("TABLE 1" ∷ "ROW 5 2 2 1 0" ∷ "ROW 6 1 1 2 0" ∷ [])
    -- PART: one or three numbers, then each number, then length, 4, then a least position above the greatest, 14
    ∷ table_refused (parted "PART 4 1") 50 11 2 4
    ∷ table_refused (parted "PART 4 x") 50 11 2 4
    ∷ table_refused (parted "PART 4 1 3 5") 50 11 2 5
    ∷ table_refused (parted "PART 4 x 02") 50 12 2 3
    ∷ table_refused (parted "PART 4 3 10000") 50 12 2 4
    ∷ spread_refused (parted "PART 0 3 2") 100 4 2 2
    ∷ table_refused (parted "PART 4 3 2") 50 14 2 4
    ∷ spread_refused (parted "PART 4 3 2") 1 14 2 4
    ∷ trial_refused (parted "PART 4 3 2") 4 (3 ∷ []) (0 ∷ 0 ∷ []) 14 2 4
    ∷ page_refused (parted "PART 4 3 2") 64 2 0 14 2 4
    -- a line further up first
    ∷ table_refused ("STACK 1" ∷ "PART 4 3 2" ∷ "PART" ∷ []) 50 14 2 4
    ∷ table_refused ("STACK 1" ∷ "PART 4" ∷ "PART 4 1 0" ∷ "NETS 0 2 2 5" ∷ []) 50 14 3 4
    -- a strip of a session has no window
    ∷ session_refused (beginning "PART 4 1 3") 10 2 2 0
    ∷ []

-- every one of them holds
unfoldable pub SpecimensRight : Type 0
SpecimensRight = AllHold specimens
