-- The file in the text of a file is that file, and the text is accepted where its lines' contents are. Line by line: each line of the text is found at its place.
-- Assumes nothing.
use mathlib.Core.Path.{◌≡◌, refl, ◌∙◌}
use mathlib.Core.Bool.{true}
use mathlib.Core.List.{List, [], ◌∷◌, ◌++◌, append_assoc, append-nil, map}
use Prim.Native.Nat.{ℕ, zero, suc, ◌+◌, ◌*◌, ◌≤◌, ◌<◌}
use native.Mathlib.Omega.{arith}
use lib.ListN.{length, get_or, length-map, length-append, get_or-append}
use lib.Seq.{get_or-append-add}
use borrow.Author.Tests.{le-leb, lt-ltb, le-ltb}
use Rattle.numbers.specs.Lists.{tabulate}
use Rattle.lines.specs.Lines.{Line, lines, no_line, line_at}
use Rattle.text.specs.Text.{refusal, fine, or_else, stack_word, part_word, nets_word, gap_word, entry, first_of, fault_at, kind, exactly, one_or_three, in_pairs, layout, stack_content, part_content, nets_content, gap_content, stack_kind, part_kind, nets_kind, gap_kind, Check, check, supplied, line_check, k_of, head_refusal, head_check, part_check, length_at, nets_check, tail_at, tail_count, channel_before, tail_check, checks, in_turn, text_refusal, File, file, file_in}
use Rattle.stack_text.specs.StackText.{lines_text, file_text}
use Rattle.stack_text.proofs.Cuts.{without}
use Rattle.stack_text.proofs.LineBack.{small, Small, line_made, numbers_back, layout_back, line_back, lines_back}

-- LISTS
pub get_or_map {ℓ κ} : {A : Type ℓ} {B : Type κ} (f : A → B) (xs : List A) (i : ℕ) (d : B) (e : A) → i < length xs → get_or (map f xs) i d ≡ f (get_or xs i e)
get_or_map f [] i d e h = absurd (omega arith)
get_or_map f (x ∷ xs) zero d e h = refl
get_or_map f (x ∷ xs) (suc i) d e h = get_or_map f xs i d e (omega arith)

-- a list by its elements
pub tabulate_back {ℓ} : {A : Type ℓ} (d : A) (g : ℕ → A) (xs : List A) (i : ℕ) → ((j : ℕ) → j < length xs → g (i + j) ≡ get_or xs j d) → tabulate (length xs) i g ≡ xs
unfolding tabulate
tabulate_back d g [] i h = refl
tabulate_back d g (x ∷ xs) i h =
    let here : i + 0 ≡ i = omega arith in
    let rest = tabulate_back d g xs (suc i) (λ j k. let s : suc i + j ≡ i + suc j = omega arith in rw s (h (suc j) (omega arith))) in
    rw (rest, ← here, h 0 (omega arith))

-- a file whose numbers have up to four digits
pub record Shaped (f : File) : Type 0 where
  pub strips : length f.parts ≡ suc (length f.nets)
  pub few : length f.nets < 10000
  pub parts : Small f.parts
  pub nets : Small f.nets
  pub gaps : Small f.gaps

abbrev lines_made : (word : List ℕ) → List (List ℕ) → List Line
lines_made w nss = map (λ ns. line_made w ns) nss

-- a line of a word behind others
run_line : (before rest : List Line) (w : List ℕ) (nss : List (List ℕ)) (c : ℕ) → c < length nss →
    line_at (before ++ (lines_made w nss ++ rest)) (length before + c) ≡ line_made w (get_or nss c [])
unfolding line_at
run_line before rest w nss c h =
    let within = rw (← length-map nss (λ ns. line_made w ns)) at h in
    get_or-append-add before (lines_made w nss ++ rest) c no_line
    ∙ (get_or-append (lines_made w nss) rest no_line c within ∙ get_or_map (λ ns. line_made w ns) nss c no_line [] h)

made_supplied : (ls : List Line) (i : ℕ) (w ns : List ℕ) → without 9 w ≡ true → small ns ≡ true → line_at ls i ≡ line_made w ns → supplied ls i ≡ entry (suc i) 0 ns
unfolding supplied
made_supplied ls i w ns h k e = rw (e, numbers_back w ns h k)

unfoldable file_lines : File → List Line
file_lines f =
    line_made stack_word (length f.nets ∷ [])
    ∷ (lines_made part_word f.parts ++ (lines_made nets_word f.nets ++ lines_made gap_word f.gaps))

module _ (f : File) (s : Shaped f) where
  head_small : small (length f.nets ∷ []) ≡ true
  unfolding small
  head_small = rw (lt-ltb (length f.nets) 10000 s.few)

  text_lines : lines (file_text f) ≡ file_lines f
  unfolding file_text file_lines stack_word part_word nets_word gap_word without lines
  text_lines =
      let gap_text = lines_text gap_word f.gaps in
      let net_text = lines_text nets_word f.nets in
      let gaps : lines gap_text ≡ lines_made gap_word f.gaps = rw (← append-nil gap_text, lines_back gap_word refl refl f.gaps [] s.gaps, append-nil) in
      let nets = lines_back nets_word refl refl f.nets gap_text s.nets in
      let parts = lines_back part_word refl refl f.parts (net_text ++ gap_text) s.parts in
      line_back stack_word refl refl (length f.nets ∷ []) (lines_text part_word f.parts ++ (net_text ++ gap_text)) head_small
      ∙ rw (parts, nets, gaps)

  k_back : k_of (file_lines f) ≡ length f.nets
  unfolding k_of line_at file_lines stack_word without
  k_back = rw (numbers_back stack_word (length f.nets ∷ []) refl head_small)

  parts_made : length (lines_made part_word f.parts) ≡ suc (length f.nets)
  parts_made = length-map f.parts (λ ns. line_made part_word ns) ∙ s.strips

  nets_made : length (lines_made nets_word f.nets) ≡ length f.nets
  nets_made = length-map f.nets (λ ns. line_made nets_word ns)

  -- the lines at their places
  part_line : (j : ℕ) → j < length f.parts → line_at (file_lines f) (suc j) ≡ line_made part_word (get_or f.parts j [])
  unfolding file_lines
  part_line j h =
      let head = line_made stack_word (length f.nets ∷ []) in
      let place : suc j ≡ 1 + j = omega arith in
      rw place (run_line (head ∷ []) (lines_made nets_word f.nets ++ lines_made gap_word f.gaps) part_word f.parts j h)

  nets_line : (c : ℕ) → c < length f.nets → line_at (file_lines f) (length f.nets + 2 + c) ≡ line_made nets_word (get_or f.nets c [])
  unfolding file_lines
  nets_line c h =
      let before = line_made stack_word (length f.nets ∷ []) ∷ lines_made part_word f.parts in
      let place : length f.nets + 2 + c ≡ length before + c = omega (arith, parts_made) in
      rw place (run_line before (lines_made gap_word f.gaps) nets_word f.nets c h)

  gap_line : (g : ℕ) → g < length f.gaps → line_at (file_lines f) (tail_at (file_lines f) + g) ≡ line_made gap_word (get_or f.gaps g [])
  unfolding tail_at file_lines
  gap_line g h =
      let ps = lines_made part_word f.parts in
      let ns = lines_made nets_word f.nets in
      let gs = lines_made gap_word f.gaps in
      let before = line_made stack_word (length f.nets ∷ []) ∷ (ps ++ ns) in
      let place : 2 * length f.nets + 2 + g ≡ length before + g = omega (arith, length-append ps ns, parts_made, nets_made) in
      rw (k_back, place, ← append_assoc ps ns gs, ← append-nil gs) (run_line before [] gap_word f.gaps g h)

  gaps_long : tail_count (file_lines f) ≡ length f.gaps
  unfolding tail_count tail_at file_lines
  gaps_long =
      let ps = lines_made part_word f.parts in
      let ns = lines_made nets_word f.nets in
      let gs = lines_made gap_word f.gaps in
      let gaps = length-map f.gaps (λ ns. line_made gap_word ns) in
      rw k_back (omega (arith, length-append ps (ns ++ gs), length-append ns gs, parts_made, nets_made, gaps))

  part_supplied : (j : ℕ) → j < length f.parts → supplied (file_lines f) (suc j) ≡ entry (suc (suc j)) 0 (get_or f.parts j [])
  unfolding part_word without
  part_supplied j h = made_supplied (file_lines f) (suc j) part_word (get_or f.parts j []) refl (s.parts j h) (part_line j h)

  nets_supplied : (c : ℕ) → c < length f.nets → supplied (file_lines f) (length f.nets + 2 + c) ≡ entry (suc (length f.nets + 2 + c)) 0 (get_or f.nets c [])
  unfolding nets_word without
  nets_supplied c h = made_supplied (file_lines f) (length f.nets + 2 + c) nets_word (get_or f.nets c []) refl (s.nets c h) (nets_line c h)

  gap_supplied : (g : ℕ) → g < length f.gaps →
      let i = tail_at (file_lines f) + g in
      supplied (file_lines f) i ≡ entry (suc i) 0 (get_or f.gaps g [])
  unfolding gap_word without
  gap_supplied g h = made_supplied (file_lines f) (tail_at (file_lines f) + g) gap_word (get_or f.gaps g []) refl (s.gaps g h) (gap_line g h)

  -- THE FILE IS READ BACK
  parts_back : tabulate (length f.parts) 1 (λ i. (supplied (file_lines f) i).numbers) ≡ f.parts
  unfolding entry
  parts_back =
      tabulate_back [] (λ i. (supplied (file_lines f) i).numbers) f.parts 1 (λ j h. let e : 1 + j ≡ suc j = omega arith in rw (e, part_supplied j h))

  nets_back : tabulate (length f.nets) (length f.nets + 2) (λ i. (supplied (file_lines f) i).numbers) ≡ f.nets
  unfolding entry
  nets_back = tabulate_back [] (λ i. (supplied (file_lines f) i).numbers) f.nets (length f.nets + 2) (λ c h. rw (nets_supplied c h))

  gaps_back : tabulate (length f.gaps) (tail_at (file_lines f)) (λ i. (supplied (file_lines f) i).numbers) ≡ f.gaps
  unfolding entry
  gaps_back = tabulate_back [] (λ i. (supplied (file_lines f) i).numbers) f.gaps (tail_at (file_lines f)) (λ g h. rw (gap_supplied g h))

  pub file_back : file_in (file_text f) ≡ f
  unfolding file_in file
  file_back = rw (text_lines, gaps_long, gaps_back, k_back, ← s.strips, parts_back, nets_back)

-- the channel of the GAP line before line g, b for the first
unfoldable pub gap_before : (b : ℕ) → List (List ℕ) → (g : ℕ) → ℕ
gap_before b gs zero = b
gap_before b gs (suc g) = get_or (get_or gs g []) 0 0

-- a file whose lines have their counts of numbers and nothing to refuse in their contents
pub record Contents (f : File) : Type 0 where
  pub some : 1 ≤ length f.nets
  pub most : length f.nets ≤ 8
  pub part_count : (j : ℕ) → j < length f.parts → one_or_three (length (get_or f.parts j [])) ≡ 0
  pub part_good : (j n : ℕ) → j < length f.parts → part_content (entry n 0 (get_or f.parts j [])) ≡ fine
  pub nets_count : (c : ℕ) → c < length f.nets → in_pairs (length (get_or f.nets c [])) ≡ 0
  pub nets_good : (c n : ℕ) → c < length f.nets →
      nets_content (get_or (get_or f.parts c []) 0 0) (get_or (get_or f.parts (suc c) []) 0 0) (entry n 0 (get_or f.nets c [])) ≡ fine
  pub gap_count : (g : ℕ) → g < length f.gaps → exactly 2 (length (get_or f.gaps g [])) ≡ 0
  pub gap_good : (g n : ℕ) → g < length f.gaps → gap_content (length f.nets) (gap_before 0 f.gaps g) (entry n 0 (get_or f.gaps g [])) ≡ fine
  pub short : length (file_text f) ≤ 8192

-- lines of which nothing is refused
in_turn_fine : (n i : ℕ) (g : ℕ → Check) (rest : List Check) → ((j : ℕ) → i ≤ j → j < i + n → g j ≡ check fine fine) → in_turn (tabulate n i g ++ rest) ≡ in_turn rest
unfolding tabulate in_turn or_else fine refusal check
in_turn_fine zero i g rest h = refl
in_turn_fine (suc n) i g rest h = rw (h i (omega arith) (omega arith)) (in_turn_fine n (suc i) g rest (λ j a b. h j (omega arith) (omega arith)))

module _ (f : File) (s : Shaped f) (o : Contents f) where
  head_fine : head_refusal (file_lines f) ≡ fine
  unfolding head_refusal line_check check supplied entry k_of first_of line_at file_lines stack_kind kind stack_content fault_at stack_word without or_else fine refusal exactly
  head_fine =
      let laid : layout stack_kind 1 (line_made stack_word (length f.nets ∷ [])) ≡ fine = layout_back stack_kind 1 (length f.nets ∷ []) refl (head_small f s) refl in
      rw (laid, k_back f s, le-leb 1 (length f.nets) o.some, le-leb (length f.nets) 8 o.most)

  part_fine : (j : ℕ) → j < length f.parts → part_check (file_lines f) j ≡ check fine fine
  unfolding part_check line_check part_kind kind part_word without
  part_fine j h =
      let laid = layout_back part_kind (suc (suc j)) (get_or f.parts j []) refl (s.parts j h) (o.part_count j h) in
      rw (part_line f s j h, laid, part_supplied f s j h, o.part_good j (suc (suc j)) h)

  lengths : (i : ℕ) → i < length f.parts → length_at (file_lines f) i ≡ get_or (get_or f.parts i []) 0 0
  unfolding length_at first_of entry
  lengths i h = rw (part_supplied f s i h)

  nets_fine : (c : ℕ) → c < length f.nets → nets_check (file_lines f) c ≡ check fine fine
  unfolding nets_check line_check nets_kind kind nets_word without
  nets_fine c h =
      let n = suc (length f.nets + 2 + c) in
      let laid = layout_back (nets_kind (get_or (get_or f.parts c []) 0 0) (get_or (get_or f.parts (suc c) []) 0 0)) n (get_or f.nets c []) refl (s.nets c h) (o.nets_count c h) in
      rw (k_back f s, lengths c (omega (arith, s.strips)), lengths (suc c) (omega (arith, s.strips)), nets_line f s c h, laid, nets_supplied f s c h, o.nets_good c n h)

  before_back : (g : ℕ) → g < length f.gaps → channel_before (file_lines f) g ≡ gap_before 0 f.gaps g
  unfolding channel_before gap_before first_of entry
  before_back zero h = refl
  before_back (suc g) h = rw (gap_supplied f s g (omega arith))

  gap_fine : (g : ℕ) → g < length f.gaps → tail_check (file_lines f) g ≡ check fine fine
  unfolding tail_check line_check gap_kind kind gap_word without
  gap_fine g h =
      let n = suc (tail_at (file_lines f) + g) in
      let laid = layout_back (gap_kind (k_of (file_lines f)) (channel_before (file_lines f) g)) n (get_or f.gaps g []) refl (s.gaps g h) (o.gap_count g h) in
      rw (gap_line f s g h, laid, gap_supplied f s g h, before_back g h, k_back f s, o.gap_good g n h)

  checks_fine : in_turn (checks (file_lines f)) ≡ fine
  unfolding checks in_turn head_check check or_else fine refusal
  checks_fine =
      let ls = file_lines f in
      let k = length f.nets in
      let gaps = tabulate (length f.gaps) 0 (λ g. tail_check ls g) in
      let nets = tabulate k 0 (λ c. nets_check ls c) in
      let parts_turn = in_turn_fine (suc k) 0 (λ j. part_check ls j) (nets ++ gaps) (λ j a b. part_fine j (omega (arith, s.strips))) in
      let nets_turn = in_turn_fine k 0 (λ c. nets_check ls c) gaps (λ c a b. nets_fine c (omega arith)) in
      let gaps_turn = in_turn_fine (length f.gaps) 0 (λ g. tail_check ls g) [] (λ g a b. gap_fine g (omega arith)) in
      rw (head_fine, k_back f s, gaps_long f s, parts_turn, nets_turn, ← append-nil gaps, gaps_turn)

  -- THE TEXT IS ACCEPTED
  pub file_accepted : text_refusal (file_text f) ≡ fine
  unfolding text_refusal
  file_accepted = rw (le-ltb 8192 (length (file_text f)) o.short, text_lines f s) checks_fine
