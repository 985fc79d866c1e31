-- A track's line over an output, and the lines of a page one behind the other; the page by its lines. Assumes nothing.
use mathlib.Core.Path.{◌≡◌, refl, sym, ap, ◌∙◌}
use mathlib.Core.Bool.{Bool, true, false, ◌&&◌, cond}
use mathlib.Core.List.{List, [], ◌∷◌, ◌++◌, append_assoc, append-nil}
use mathlib.Core.Logic.{◌⊎◌, inl, inr}
use Prim.Native.Nat.{ℕ, zero, suc, ◌+◌, ◌*◌, ◌-◌, ◌/◌, ◌%◌, ◌≤◌, ◌<◌}
use native.Mathlib.Numerals.{add-one}
use native.Mathlib.Omega.{arith}
use borrow.Author.Tests.{lt-ltb, le-ltb}
use lib.Dec.{ltb}
use lib.ListN.{length, get_or, set, take, drop, replicate, length-append, length-take, length-drop, drop_of_length-le}
use lib.Seq.{take_all, drop-cons, set_at, take_at, length-take-le, append_snoc}
use Rattle.numbers.specs.Lists.{tabulate}
use Rattle.numbers.proofs.Lists.{length_tabulate, get_or_tabulate, tabulate_same}
use Rattle.numbers.proofs.Orders.{le_or_lt}
use Rattle.stack.specs.Stack.{Pair}
use Rattle.routing.specs.Paths.{Point}
use Rattle.routing.specs.Wiring.{wiring}
use Rattle.writing.specs.TableText.{digits_from, digits}
use Rattle.writing.specs.Output.{over}
use Rattle.page.specs.Page.{character, in_three, line_of, track_line, page_text}
use Rattle.page.specs.Arrivals.{painted}
use Rattle.track.specs.Rows.{ColumnsShown}
use Rattle.std.proofs.lemmas.List.{get_or-take}
use Rattle.plot.specs.declared.Levels.{Levels}
use Rattle.plot.specs.Drawing.{place, reached, track_drawn, ArrivalsShown, lines_below, LinesPut, PagePut}
use Rattle.track.proofs.Rows.{painted_same}

-- A NUMBER IN THREE PLACES
pub place_digit : (u n : ℕ) → u ≤ n → place u n ≡ 48 + n / u % 10
unfolding place
place_digit u n l = rw (le-ltb n u l)

pub place_space : (u n : ℕ) → n < u → 1 < u → place u n ≡ 32
unfolding place
place_space u n l m = rw (lt-ltb n u l, lt-ltb 1 u m)

-- the last place has a digit
place_last : (n : ℕ) → place 1 n ≡ 48 + n % 10
unfolding place
place_last n = go (ltb n 1)
  where
    go : (b : Bool) → cond (b && ltb 1 1) 32 (48 + n / 1 % 10) ≡ 48 + n % 10
    go true = omega arith
    go false = omega arith

in_three_places : (n : ℕ) → n < 1000 → in_three n ≡ place 100 n ∷ place 10 n ∷ place 1 n ∷ []
unfolding in_three digits digits_from
in_three_places n l = rw place_last (go (le_or_lt 10 n) (le_or_lt 100 n))
  where
    go : (10 ≤ n) ⊎ (n < 10) → (100 ≤ n) ⊎ (n < 100) → replicate (3 - length (digits_from 20 n [])) 32 ++ digits_from 20 n [] ≡ place 100 n ∷ place 10 n ∷ (48 + n % 10) ∷ []
    go (inr h) k =
        let e : n % 10 ≡ n = omega arith in
        rw (lt-ltb n 10 h, place_space 100 n (omega arith) (omega arith), place_space 10 n h (omega arith), e)
    go (inl h) (inr k) =
        let e : n / 10 % 10 ≡ n / 10 = omega arith in
        rw (le-ltb n 10 h, lt-ltb (n / 10) 10 (omega arith), place_space 100 n k (omega arith), place_digit 10 n h, e)
    go (inl h) (inl k) =
        let e : n / 10 / 10 ≡ n / 100 % 10 = omega arith in
        rw (le-ltb n 10 h, le-ltb (n / 10) 10 (omega arith), lt-ltb (n / 10 / 10) 10 (omega arith), place_digit 100 n k, place_digit 10 n h, e)

-- A LINE
pub line_bytes : (y : ℕ) (f : ℕ → ℕ) → y < 1000 → line_of y f ≡ place 100 y ∷ place 10 y ∷ place 1 y ∷ 32 ∷ (tabulate 64 0 f ++ (10 ∷ []))
unfolding line_of
line_bytes y f l = rw (in_three_places y l)

pub line_long : (y : ℕ) (f : ℕ → ℕ) → y < 1000 → length (line_of y f) ≡ 69
line_long y f l = rw (line_bytes y f l, length-append, length_tabulate)

pub line_put : (y : ℕ) (f : ℕ → ℕ) (o row : List ℕ) (a b c : ℕ) → 69 ≤ length o → y < 1000 → a ≡ place 100 y → b ≡ place 10 y → c ≡ place 1 y → row ≡ tabulate 64 0 f
    → set (take 4 (set (set (set (set o 0 a) 1 b) 2 c) 3 32) ++ (row ++ drop 64 (drop 4 (set (set (set (set o 0 a) 1 b) 2 c) 3 32)))) 68 10 ≡ over (line_of y f) o
unfolding over
line_put y f [] row a b c l m p q r e = absurd (omega arith)
line_put y f (x ∷ []) row a b c l m p q r e = absurd (omega arith)
line_put y f (x ∷ w ∷ []) row a b c l m p q r e = absurd (omega arith)
line_put y f (x ∷ w ∷ z ∷ []) row a b c l m p q r e = absurd (omega arith)
line_put y f (x ∷ w ∷ z ∷ v ∷ os) row a b c l m p q r e =
    rw (line_long y f m, line_bytes y f m, p, q, r, e, drop-cons os 64 0 (omega arith), set_at (tabulate 64 0 f) (get_or os 64 0) (drop 65 os) 10 64 (length_tabulate 64 0 f))
    (ap (λ (r : List ℕ). place 100 y ∷ place 10 y ∷ place 1 y ∷ 32 ∷ r) (sym (append_snoc (tabulate 64 0 f) 10 (drop 65 os))))

line_same : (y : ℕ) (f g : ℕ → ℕ) → ((c : ℕ) → c < 64 → f c ≡ g c) → line_of y f ≡ line_of y g
unfolding line_of
line_same y f g h = rw (tabulate_same 64 0 f g (λ c l m. h c (omega arith)))

-- a line drawn by the arrivals on its track and the next
track_is : (levels : Levels) (starts ends : List ℕ) (t n : ℕ) → levels.count ≤ 32 → starts ≡ tabulate 32 0 (λ j. reached levels n j) → ends ≡ tabulate 32 0 (λ j. reached levels (suc n) j)
    → line_of n (λ c. painted (λ j. get_or (take levels.count starts) j 0) (λ j. get_or (take levels.count ends) j 0) (ltb n t) (ltb 0 n) (length (take levels.count starts)) c 46)
    ≡ line_of n (λ c. track_drawn levels t n c)
unfolding track_drawn
track_is levels starts ends t n l d e =
    let m = levels.count in
    let long : length (take m starts) ≡ m = rw (d, length-take-le m (tabulate 32 0 (λ j. reached levels n j)) (rw length_tabulate l)) in
    rw long
    (line_same n _ _
    (λ c k. painted_same (λ j. get_or (take m starts) j 0) (λ j. get_or (take m ends) j 0) (ltb n t) (ltb 0 n) (λ j. reached levels n j) (λ j. reached levels (suc n) j) m c 46
    (λ j i. (
      get_or-take m starts j 0 i ∙ rw d (get_or_tabulate 32 j (λ j. reached levels n j) 0 (omega arith)),
      get_or-take m ends j 0 i ∙ rw e (get_or_tabulate 32 j (λ j. reached levels (suc n) j) 0 (omega arith)),
    ))))

-- the arrivals worked out are on the page
pub rule_shown : (levels : Levels) (xs : List ℕ) (y : ℕ) → ArrivalsShown levels → levels.count ≤ 32 → y ≤ 65 → xs ≡ tabulate 32 0 (λ j. reached levels y j) →
    ColumnsShown (take levels.count xs)
unfolding ArrivalsShown
rule_shown levels xs y s l h e j i =
    let k : j < levels.count = omega (arith, length-take levels.count xs) in
    rw (get_or-take levels.count xs j 0 k, e, get_or_tabulate 32 j (λ j. reached levels y j) 0 (omega arith)) (s j y k h)

-- THE LINES OF A PAGE
lines_step : (f : ℕ → ℕ → ℕ) (t at y : ℕ) (before now part : List ℕ) → t < 1000 → 69 * suc t ≤ length before → LinesPut f t at (suc y) before now
    → part ≡ over (line_of y (f y)) (take (length now - at) (drop at now)) → LinesPut f t (at + 69) y before (take at now ++ (part ++ drop (length now - at) (drop at now)))
unfolding over lines_below
lines_step f t at y before now part small fits p e =
    let line = line_of y (f y) in
    let long : length line ≡ 69 = line_long y (f y) (omega (arith, p.place)) in
    let room : at + 69 ≤ length now = omega (arith, p.place, p.same_length) in
    let rest : length (drop at now) ≡ length now - at = length-drop at now in
    let all : take (length now - at) (drop at now) ≡ drop at now = take_all (length now - at) (drop at now) (omega arith) in
    let none : drop (length now - at) (drop at now) ≡ [] = drop_of_length-le (drop at now) {i = length now - at} (omega arith) in
    let front : length (take at now) ≡ at = length-take-le at now (omega arith) in
    let whole : take at now ++ (part ++ drop (length now - at) (drop at now)) ≡ (take at now ++ line) ++ drop 69 (drop at now) = rw (none, append-nil, e, all, long, append_assoc) in
    rw whole
    (record {
      place = omega (arith, p.place);
      same_length = rw (length-append, length-append, length-drop, length-drop, front, long) (omega (arith, p.same_length));
      stands = rw (take_at (take at now ++ line) (drop 69 (drop at now)) (at + 69) (rw (length-append, front, long)), append_assoc) p.stands;
    })

-- the next line, by the arrivals on its track and on the track above
pub track_step : (levels : Levels) (starts ends : List ℕ) (t at y : ℕ) (before now part : List ℕ) → levels.count ≤ 32 → t ≤ 64 → 69 * suc t ≤ length before
    → LinesPut (λ y c. track_drawn levels t y c) t at (y + 1) before now → starts ≡ tabulate 32 0 (λ j. reached levels y j)
    → ends ≡ tabulate 32 0 (λ j. reached levels (y + 1) j)
    → part ≡ over (line_of y (λ c. painted (λ j. get_or (take levels.count starts) j 0) (λ j. get_or (take levels.count ends) j 0) (ltb y t) (ltb 0 y) (length (take levels.count starts)) c 46)) (take (length now - at) (drop at now))
    → LinesPut (λ y c. track_drawn levels t y c) t (at + 69) y before (take at now ++ (part ++ drop (length now - at) (drop at now)))
track_step levels starts ends t at y before now part few small fits p d e h =
    lines_step (λ y c. track_drawn levels t y c) t at y before now part (omega arith) fits (rw add-one at p) (rw (track_is levels starts ends t y few d (rw add-one at e)) at h)

-- a list of 32 columns, of which the first are taken
pub taken_long : (f : ℕ → ℕ) (xs : List ℕ) (n : ℕ) → xs ≡ tabulate 32 0 f → n ≤ 32 → length (take n xs) ≡ n
taken_long f xs n e l = rw e (length-take-le n (tabulate 32 0 f) (rw length_tabulate l))

pub lines_end : (f : ℕ → ℕ → ℕ) (t at y : ℕ) (before now : List ℕ) → y ≤ 0 → LinesPut f t at y before now → take (69 * suc t) now ≡ lines_below f (suc t)
unfolding lines_below
lines_end f t at y before now l p =
    let none : y ≡ 0 = omega arith in
    let all : at ≡ 69 * suc t = omega (arith, p.place) in
    rw all at (done (rw none at p.stands))
  where
    done : take at now ++ lines_below f 0 ≡ lines_below f (suc t) → take at now ≡ lines_below f (suc t)
    done d = sym (append-nil (take at now)) ∙ d

-- THE PAGE
pub page_lines : (f : ℕ → ℕ → ℕ) (ws : List (List Point)) (t : ℕ) → ((y c : ℕ) → y ≤ t → f y c ≡ character c y ws) → lines_below f (suc t) ≡ page_text t ws
unfolding lines_below page_text track_line line_of
page_lines f ws zero h = rw (append-nil, tabulate_same 64 0 (f 0) (λ c. character c 0 ws) (λ c l m. h 0 c (omega arith)))
page_lines f ws (suc t) h =
    rw (← page_lines f ws t (λ y c l. h y c (omega arith)), tabulate_same 64 0 (f (suc t)) (λ c. character c (suc t) ws) (λ c l m. h (suc t) c (omega arith)))

pub page_long : (ws : List (List Point)) (t : ℕ) → t < 1000 → length (page_text t ws) ≡ 69 * suc t
unfolding page_text track_line
page_long ws zero l = line_long 0 (λ c. character c 0 ws) l
page_long ws (suc t) l = rw (length-append, line_long (suc t) (λ c. character c (suc t) ws) l, page_long ws t (omega arith)) (omega arith)

-- THE PAGE PUT, where there is no space for it and where there is
module _ (c : List Pair) (t a b : ℕ) (small : t < 1000) where
  pub page_left_out : (o : List ℕ) → length o < 69 * (t + 1) → PagePut c t a b o o (69 * (t + 1))
  page_left_out o h =
      let long = page_long (wiring c t a b) t small in
      record { counted = omega arith; written = record { stands = λ k. absurd (omega arith); same_length = refl } }

  pub page_whole : (before after : List ℕ) (f : ℕ → ℕ → ℕ) → ((y x : ℕ) → y ≤ t → f y x ≡ character x y (wiring c t a b)) → length after ≡ length before
      → take (69 * suc t) after ≡ lines_below f (suc t) → PagePut c t a b before after (69 * (t + 1))
  page_whole before after f h s d =
      let long = page_long (wiring c t a b) t small in
      record { counted = omega arith; written = record { stands = λ l. rw long (d ∙ page_lines f (wiring c t a b) t h); same_length = s } }
