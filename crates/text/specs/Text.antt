-- TRUSTED. The stack's text: its kinds of line, the refusals 1 to 6, 11, 12 and 14 at their lines and fields, and the stack in a text.
-- Document 01, "Lines and tabs" and "Sent back at the counter"; document 02, P2, P5 and P7. Assumes nothing: these are definitions.
use Rattle.std.specs.Prelude.{Bool, true, false, ◌&&◌, not, cond, List, [], ◌∷◌, ◌++◌, map, ℕ, zero, suc, ◌+◌, ◌*◌, ◌-◌, ◌%◌, ltb, leb, eqb, length, get_or}
use Rattle.numbers.specs.Lists.{tabulate}
use Rattle.lines.specs.Lines.{Line, lines, line_at, number_fields, has_word, ill_formed, numbers_of}
use Rattle.stack.specs.Stack.{Stack, stack, Pair, pair, channel, Window, free, held, Strip, strip}

-- a REFUSAL carries its number, line and field; number 0 is none
pub record Refusal : Type 0 where
  pub number : ℕ
  pub line : ℕ
  pub field : ℕ

unfoldable pub refusal : (number line field : ℕ) → Refusal
refusal n l f = record { number = n; line = l; field = f }

unfoldable pub fine : Refusal
fine = refusal 0 0 0

-- the first that applies
unfoldable pub or_else : Refusal → Refusal → Refusal
or_else a b = cond (eqb a.number 0) b a

-- the words STACK, PART, NETS and GAP
unfoldable pub stack_word : List ℕ
stack_word = 83 ∷ 84 ∷ 65 ∷ 67 ∷ 75 ∷ []

unfoldable pub part_word : List ℕ
part_word = 80 ∷ 65 ∷ 82 ∷ 84 ∷ []

unfoldable pub nets_word : List ℕ
nets_word = 78 ∷ 69 ∷ 84 ∷ 83 ∷ []

unfoldable pub gap_word : List ℕ
gap_word = 71 ∷ 65 ∷ 80 ∷ []

-- an ENTRY: the numbers of a line, the line that supplies them, and by how many fields they are moved there
pub record Entry : Type 0 where
  pub origin : ℕ
  pub shift : ℕ
  pub numbers : List ℕ

unfoldable pub entry : (origin shift : ℕ) → List ℕ → Entry
entry n s xs = record { origin = n; shift = s; numbers = xs }

unfoldable pub first_of : Entry → ℕ
first_of e = get_or e.numbers 0 0

unfoldable pub second_of : Entry → ℕ
second_of e = get_or e.numbers 1 0

unfoldable pub third_of : Entry → ℕ
third_of e = get_or e.numbers 2 0

-- a fault at a field of an entry, where that field was supplied
unfoldable pub fault_at : Entry → (number field : ℕ) → Refusal
fault_at e m f = refusal m e.origin (e.shift + f)

-- a KIND of line: its word, the field at which a count of numbers is at fault (0 where the count is good), and what is refused of its numbers
pub record Kind : Type 0 where
  pub word : List ℕ
  pub fault : (count : ℕ) → ℕ
  pub content : Entry → Refusal

unfoldable pub kind : (word : List ℕ) → (fault : ℕ → ℕ) → (content : Entry → Refusal) → Kind
kind w f c = record { word = w; fault = f; content = c }

-- so many numbers are due, the first of them in field 2: the first field missing or extra
unfoldable pub exactly : (due count : ℕ) → ℕ
exactly m n = cond (ltb n m) (n + 2) (cond (ltb m n) (m + 2) 0)

-- one number is due, or three
unfoldable pub one_or_three : (count : ℕ) → ℕ
one_or_three n = cond (leb n 1) (exactly 1 n) (exactly 3 n)

-- numbers come in pairs: the missing partner of the last
unfoldable pub in_pairs : (count : ℕ) → ℕ
in_pairs n = cond (eqb (n % 2) 0) 0 (n + 2)

-- a fault of the layout of line n at a field, which is moved there by so many fields; none at field 0
unfoldable pub misplaced : (number n shift field : ℕ) → Refusal
misplaced m n s f = cond (eqb f 0) fine (refusal m n (s + f))

-- of the fields behind the word their count, 11, and the first that is no number, 12
unfoldable pub count_refusal : Kind → (n shift : ℕ) → List (List ℕ) → Refusal
count_refusal K n s fs = misplaced 11 n s (K.fault (length fs))

unfoldable pub number_refusal : (n shift : ℕ) → List (List ℕ) → Refusal
number_refusal n s fs = misplaced 12 n s (ill_formed 2 fs)

-- the LAYOUT of line n as a line of a kind: that it is there, ended and has its word, 2; then the count of its fields, 11; then each number, 12
unfoldable pub layout : Kind → (n : ℕ) → Line → Refusal
layout K n l =
    cond (has_word l K.word) (or_else (count_refusal K n 0 (number_fields l)) (number_refusal n 0 (number_fields l))) (refusal 2 n 0)

-- STACK: crowd, 3, at field 2
unfoldable pub stack_content : Entry → Refusal
stack_content e = cond (leb 1 (first_of e) && leb (first_of e) 8) fine (fault_at e 3 2)

-- PART: length, 4, at field 2; then a least position above the greatest, 14, at field 4. Without a window both are 0.
unfoldable pub part_content : Entry → Refusal
part_content e =
    cond (leb 1 (first_of e) && leb (first_of e) 1000) (cond (ltb (third_of e) (second_of e)) (fault_at e 14 4) fine) (fault_at e 4 2)

-- the fields of NETS from left to right, each for overhang, 5, and then crossing, 6
unfoldable pub terminals_refusal : (at : ℕ) → (first : Bool) → (before_p before_q lower upper : ℕ) → (lines_number : ℕ) → List ℕ → Refusal
terminals_refusal f b u v lo hi n [] = fine
terminals_refusal f b u v lo hi n (x ∷ []) = fine
terminals_refusal f b u v lo hi n (x ∷ y ∷ xs) =
    cond (ltb lo x) (refusal 5 n f)
    (cond (not b && leb x u) (refusal 6 n f)
    (cond (ltb hi y) (refusal 5 n (suc f))
    (cond (not b && leb y v) (refusal 6 n (suc f)) (terminals_refusal (f + 2) false x y lo hi n xs))))

-- NETS between strips of these lengths: crowd, 3, at field 66, then the terminals
unfoldable pub nets_content : (lower upper : ℕ) → Entry → Refusal
nets_content lo hi e =
    cond (ltb 64 (length e.numbers)) (fault_at e 3 66)
    (terminals_refusal (e.shift + 2) true 0 0 lo hi e.origin e.numbers)

-- GAP in a stack of k channels, behind a GAP of a channel, 0 for the first: crowd, 3, of the channel and then of the floor, then crossing, 6, of a channel that
-- does not rise
unfoldable pub gap_content : (k before : ℕ) → Entry → Refusal
gap_content k b e =
    cond (leb 1 (first_of e) && leb (first_of e) k)
    (cond (ltb 64 (second_of e)) (fault_at e 3 3)
    (cond (leb (first_of e) b) (fault_at e 6 2) fine))
    (fault_at e 3 2)

-- THE KINDS
unfoldable pub stack_kind : Kind
stack_kind = kind stack_word (λ n. exactly 1 n) (λ e. stack_content e)

unfoldable pub part_kind : Kind
part_kind = kind part_word (λ n. one_or_three n) (λ e. part_content e)

unfoldable pub nets_kind : (lower upper : ℕ) → Kind
nets_kind lo hi = kind nets_word (λ n. in_pairs n) (λ e. nets_content lo hi e)

unfoldable pub gap_kind : (k before : ℕ) → Kind
gap_kind k b = kind gap_word (λ n. exactly 2 n) (λ e. gap_content k b e)

-- THE CHECKS of a text, a pair for each line: its form and its content; a missing line has them too
pub record Check : Type 0 where
  pub form : Refusal
  pub content : Refusal

unfoldable pub check : (form content : Refusal) → Check
check a b = record { form = a; content = b }

-- line i + 1 as a line of a kind; it supplies its own numbers
unfoldable pub supplied : List Line → (i : ℕ) → Entry
supplied ls i = entry (suc i) 0 (numbers_of (line_at ls i))

unfoldable pub line_check : Kind → List Line → (i : ℕ) → Check
line_check K ls i = check (layout K (suc i) (line_at ls i)) (K.content (supplied ls i))

-- STACK at line 1: layout, then crowd; both are its form
unfoldable pub k_of : List Line → ℕ
k_of ls = get_or (numbers_of (line_at ls 0)) 0 0

unfoldable pub head_refusal : List Line → Refusal
head_refusal ls =
    let c = line_check stack_kind ls 0 in or_else c.form c.content

unfoldable pub head_check : List Line → Check
head_check ls = check (head_refusal ls) fine

-- PART of a strip
unfoldable pub part_check : List Line → (strip : ℕ) → Check
part_check ls j = line_check part_kind ls (suc j)

-- NETS of a channel
unfoldable pub length_at : List Line → (strip : ℕ) → ℕ
length_at ls j = first_of (supplied ls (suc j))

unfoldable pub nets_check : List Line → (channel : ℕ) → Check
nets_check ls c = line_check (nets_kind (length_at ls c) (length_at ls (suc c))) ls (k_of ls + 2 + c)

-- the lines behind the last NETS: where they begin, and how many they are
unfoldable pub tail_at : List Line → ℕ
tail_at ls = 2 * k_of ls + 2

unfoldable pub tail_count : List Line → ℕ
tail_count ls = length ls - tail_at ls

-- the channel of the line before line g of them, 0 for the first
unfoldable pub channel_before : List Line → (g : ℕ) → ℕ
channel_before ls zero = 0
channel_before ls (suc g) = first_of (supplied ls (tail_at ls + g))

-- each of them is a GAP: another one is an extra line, 2
unfoldable pub tail_check : List Line → (g : ℕ) → Check
tail_check ls g = line_check (gap_kind (k_of ls) (channel_before ls g)) ls (tail_at ls + g)

unfoldable pub checks : List Line → List Check
checks ls =
    head_check ls
    ∷ (tabulate (suc (k_of ls)) 0 (λ j. part_check ls j)
    ++ (tabulate (k_of ls) 0 (λ c. nets_check ls c) ++ tabulate (tail_count ls) 0 (λ g. tail_check ls g)))

-- line by line from the top
unfoldable pub in_turn : List Check → Refusal
in_turn [] = fine
in_turn (c ∷ cs) = or_else (or_else c.form c.content) (in_turn cs)

-- THE TEXT: overlong, 1; then its lines
unfoldable pub text_refusal : List ℕ → Refusal
text_refusal bs = cond (ltb 8192 (length bs)) (refusal 1 0 0) (in_turn (checks (lines bs)))

-- THE FILE in a text that is not refused: the numbers of its PART, NETS and GAP lines
pub record File : Type 0 where
  pub parts : List (List ℕ)
  pub nets : List (List ℕ)
  pub gaps : List (List ℕ)

unfoldable pub file : (parts nets gaps : List (List ℕ)) → File
file a b c = record { parts = a; nets = b; gaps = c }

unfoldable pub file_in : List ℕ → File
file_in bs =
    let ls = lines bs in
    file (tabulate (suc (k_of ls)) 1 (λ i. (supplied ls i).numbers)) (tabulate (k_of ls) (k_of ls + 2) (λ i. (supplied ls i).numbers))
    (tabulate (tail_count ls) (tail_at ls) (λ i. (supplied ls i).numbers))

-- THE STACK in a file, and in a text that is not refused; a strip is free without its two positions
unfoldable pub window_in : List ℕ → Window
window_in [] = free
window_in (l ∷ []) = free
window_in (l ∷ a ∷ []) = free
window_in (l ∷ a ∷ e ∷ ns) = held a e

unfoldable pub strip_in : List ℕ → Strip
strip_in ns = strip (get_or ns 0 0) (window_in ns)

unfoldable pub pairs_of : List ℕ → List Pair
pairs_of [] = []
pairs_of (x ∷ []) = []
pairs_of (x ∷ y ∷ xs) = pair x y ∷ pairs_of xs

-- the floor of a channel, counted from 1: that of the GAP line which names it, else 0
unfoldable pub floor_in : (gaps : List (List ℕ)) → (channel : ℕ) → ℕ
floor_in [] c = 0
floor_in (g ∷ gs) c = cond (eqb (get_or g 0 0) c) (get_or g 1 0) (floor_in gs c)

unfoldable pub stack_in_file : File → Stack
stack_in_file f =
    stack (map strip_in f.parts)
    (tabulate (length f.nets) 0 (λ c. channel (pairs_of (get_or f.nets c [])) (floor_in f.gaps (suc c))))

unfoldable pub stack_in : List ℕ → Stack
stack_in bs = stack_in_file (file_in bs)
