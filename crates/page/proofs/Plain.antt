-- No page of pairs that can be drawn has a #: the paths drawn are nowhere twice, since column and track together only grow along a path; so no point has three arms. Assumes nothing.
use mathlib.Core.Path.{◌≡◌, refl, ap}
use mathlib.Core.Bool.{Bool, true, false, not, cond}
use mathlib.Core.List.{List, [], ◌∷◌, ◌++◌}
use mathlib.Core.Logic.{⊎_elim}
use Prim.Native.Nat.{ℕ, zero, suc, ◌+◌, ◌-◌, ◌/◌, ◌%◌, ◌≤◌, ◌<◌}
use native.Mathlib.Omega.{arith}
use native.Mathlib.Decide.{dec_lt}
use borrow.Author.Tests.{ne_eqb}
use lib.Dec.{ltb, eqb}
use lib.IntN.{ℤ, pos, negsuc}
use lib.ListN.{length, replicate}
use Rattle.numbers.specs.Lists.{tabulate}
use Rattle.numbers.proofs.Bools.{and_left, and_right, and_both, or_either, impossible}
use Rattle.stack.specs.Stack.{Pair, p_at, q_at, edge_clear}
use Rattle.stack.specs.Limits.{rising}
use Rattle.routing.specs.Paths.{Point, point, same_point, on_path, none_meet}
use Rattle.routing.specs.Wiring.{riser, rest, staircase, drawn_path, wiring, listed, right_track, left_track}
use Rattle.routing.proofs.Points.{same_point_equal, path_at}
use Rattle.routing.proofs.Staircase.{Course}
use Rattle.routing.proofs.Sufficiency.{Goes, rightward, leftward, goes, right_course, left_course, wiring_clear}
use Rattle.routing.proofs.Runs.{wiring_at}
use Rattle.writing.specs.TableText.{digits_from, digits}
use Rattle.page.specs.Page.{joined, on_some, before, arm_left, arm_right, arm_up, arm_down, how_many, arms_character, character, in_three, line_of, track_line, page_text, lacks}
use Rattle.page.specs.Promise.{once}
use Rattle.page.proofs.Arms.{two_arms}

-- A PATH THAT CLIMBS: a number of its points grows from each to the next
Climbs : (f : Point → ℕ) → Point → List Point → Type 0
Climbs f a [] = Unit
Climbs f a (b ∷ bs) = (f a < f b) × Climbs f b bs

climbs_above : (f : Point → ℕ) (a z : Point) (ws : List Point) → Climbs f a ws → on_path z ws ≡ true → f a < f z
unfolding Climbs on_path
climbs_above f a z [] c o = impossible o
climbs_above f a z (b ∷ bs) (l, c) o =
    ⊎_elim (λ h. let e = ap f (same_point_equal z b h) in omega arith) (λ h. let k = climbs_above f b z bs c h in omega arith) (or_either (same_point z b) (on_path z bs) o)

climbs_later : (f : Point → ℕ) (a b : Point) (bs : List Point) → Climbs f a (b ∷ bs) → Climbs f b bs
unfolding Climbs
climbs_later f a b bs (l, c) = c

climbs_once : (f : Point → ℕ) (a : Point) (ws : List Point) → Climbs f a ws → once (a ∷ ws) ≡ true
unfolding once on_path
climbs_once f a [] c = refl
climbs_once f a (b ∷ bs) c = and_both (not (on_path a (b ∷ bs))) (once (b ∷ bs)) (go (on_path a (b ∷ bs)) refl) (climbs_once f b bs (climbs_later f a b bs c))
  where
    go : (v : Bool) → on_path a (b ∷ bs) ≡ v → not v ≡ true
    go true e = let k = climbs_above f a a (b ∷ bs) c e in absurd (omega arith)
    go false e = refl

-- the staircase: g of the column, and the track
column_of : ℤ → ℕ
column_of (pos n) = n
column_of (negsuc n) = 0

height : (g : ℕ → ℕ) → Point → ℕ
height g z = g (column_of z.column) + z.track

riser_climbs : (g : ℕ → ℕ) (x y n z : ℕ) (ws : List Point) → y + n ≡ z → Climbs (height g) (point (pos x) z) ws → Climbs (height g) (point (pos x) y) (riser x y n ws)
unfolding riser Climbs height column_of point
riser_climbs g x y zero z ws e c = let d : y ≡ z = omega arith in rw d c
riser_climbs g x y (suc n) z ws e c = (omega arith, riser_climbs g x (suc y) n z ws (omega arith) c)

rest_climbs : (g x h : ℕ → ℕ) (t w : ℕ) → ((k : ℕ) → h k ≤ h (suc k)) → ((k : ℕ) → k < w → h k < t) → ((k : ℕ) → k < w → g (x k) < g (x (suc k))) → (n k y : ℕ) → k + n ≡ w → y ≤ t → y ≤ h k
    → Climbs (height g) (point (pos (x k)) y) (rest x h t n k y)
unfolding rest Climbs height column_of point
rest_climbs g x h t w r b u zero k y e l m = riser_climbs g (x k) y (t - y) t [] (omega arith) tt
rest_climbs g x h t w r b u (suc n) k y e l m =
    let i = u k (omega arith) in
    let j = b k (omega arith) in
    riser_climbs g (x k) y (h k - y) (h k) (point (pos (x (suc k))) (h k) ∷ rest x h t n (suc k) (h k)) (omega arith)
    (omega arith, rest_climbs g x h t w r b u n (suc k) (h k) (omega arith) (omega arith) (r k))

staircase_once : (g x h : ℕ → ℕ) (t w : ℕ) → Course x h t w → ((k : ℕ) → k < w → g (x k) < g (x (suc k))) → once (staircase x h t w) ≡ true
unfolding staircase
staircase_once g x h t w c u =
    climbs_once (height g) (point (pos (x 0)) 0) (rest x h t w 0 0) (rest_climbs g x h t w c.rises c.below u w 0 0 (omega arith) (omega arith) (omega arith))

pub path_once : (c : List Pair) (t a b j : ℕ) → rising c ≡ true → edge_clear c t a b ≡ true → j < length c → once (drawn_path c t a b j) ≡ true
path_once c t a b j r f l = go (goes c t a b r f j l)
  where
    go : Goes c t a b j → once (drawn_path c t a b j) ≡ true
    go (rightward u e) =
        let p = a + p_at c j in
        let q = b + q_at c j in
        rw e (staircase_once (λ n. n) (λ k. p + k) (λ k. suc (right_track c a j (p + k))) t (q - p) (right_course c t a b r f j p q l refl refl) (λ k m. omega arith))
    go (leftward u e) =
        let p = a + p_at c j in
        let q = b + q_at c j in
        rw e (staircase_once (λ n. p - n) (λ k. p - k) (λ k. suc (left_track c a j (p - k))) t (p - q) (left_course c t a b r f j p q l refl refl) (λ k m. omega arith))

none_once : once [] ≡ true
unfolding once
none_once = refl

past_listed : (f : ℕ → List Point) (n i : ℕ) → n ≤ i → path_at (listed f n) i ≡ []
unfolding listed path_at
past_listed f zero i l = refl
past_listed f (suc n) zero l = absurd (omega arith)
past_listed f (suc n) (suc i) l = past_listed (λ i. f (suc i)) n i (omega arith)

past : (c : List Pair) (t a b i : ℕ) → length c ≤ i → path_at (wiring c t a b) i ≡ []
unfolding wiring
past c t a b i l = past_listed (λ j. drawn_path c t a b j) (length c) i l

wiring_once : (c : List Pair) (t a b : ℕ) → rising c ≡ true → edge_clear c t a b ≡ true → (i : ℕ) → once (path_at (wiring c t a b) i) ≡ true
wiring_once c t a b r f i = go (dec_lt i (length c))
  where
    go : Dec (i < length c) → once (path_at (wiring c t a b) i) ≡ true
    go (yes l) = rw (wiring_at c t a b i l) (path_once c t a b i r f l)
    go (no l) = rw (past c t a b i (omega arith)) none_once

-- NO THREE ARMS: the four neighbours of a point are four points
record Few (l r u d : Bool) : Type 0 where
  no_lru : l ≡ true → r ≡ true → u ≡ true → ⊥
  no_lrd : l ≡ true → r ≡ true → d ≡ true → ⊥
  no_lud : l ≡ true → u ≡ true → d ≡ true → ⊥
  no_rud : r ≡ true → u ≡ true → d ≡ true → ⊥

plain : (l r u d : Bool) → Few l r u d → eqb (arms_character l r u d) 35 ≡ false
unfolding how_many arms_character
plain false false false false f = refl
plain true false false false f = refl
plain false true false false f = refl
plain true true false false f = refl
plain false false true false f = refl
plain true false true false f = refl
plain false true true false f = refl
plain true true true d f = absurd (f.no_lru refl refl refl)
plain false false false true f = refl
plain true false false true f = refl
plain false true false true f = refl
plain true true false true f = absurd (f.no_lrd refl refl refl)
plain false false true true f = refl
plain true false true true f = absurd (f.no_lud refl refl refl)
plain false true true true f = absurd (f.no_rud refl refl refl)

columns_differ : (u v : Point) → (u.column ≡ v.column → ⊥) → u ≡ v → ⊥
columns_differ u v n e = n (ap (λ (p : Point). p.column) e)

tracks_differ : (u v : Point) → (u.track ≡ v.track → ⊥) → u ≡ v → ⊥
tracks_differ u v n e = n (ap (λ (p : Point). p.track) e)

before_not : (c m : ℕ) → before c ≡ pos m → c ≡ suc m
unfolding before column_of
before_not zero m e = cc
before_not (suc c) m e = let d : c ≡ m = ap column_of e in omega arith

module _ (ws : List (List Point)) (n : none_meet ws ≡ true) (o : (i : ℕ) → once (path_at ws i) ≡ true) (c y : ℕ) where
  three : (z u v s : Point) → (u ≡ v → ⊥) → (u ≡ s → ⊥) → (v ≡ s → ⊥) → joined z u ws ≡ true → joined z v ws ≡ true → joined z s ws ≡ true → ⊥
  three z u v s a b d e f g = ⊎_elim a (λ q. ⊎_elim b d q) (two_arms z u v s ws n o e f g)

  left_right : point (before c) y ≡ point (pos (suc c)) y → ⊥
  unfolding point
  left_right = columns_differ (point (before c) y) (point (pos (suc c)) y) (λ e. let k = before_not c (suc c) e in omega arith)

  left_up : (x : ℤ) → point x y ≡ point (pos c) (suc y) → ⊥
  unfolding point
  left_up x = tracks_differ (point x y) (point (pos c) (suc y)) (λ e. omega arith)

  beside_down : (x : ℤ) (m : ℕ) → suc m ≡ y → point x y ≡ point (pos c) m → ⊥
  unfolding point
  beside_down x m q = tracks_differ (point x y) (point (pos c) m) (λ e. omega arith)

  up_down : (m : ℕ) → suc m ≡ y → point (pos c) (suc y) ≡ point (pos c) m → ⊥
  unfolding point
  up_down m q = tracks_differ (point (pos c) (suc y)) (point (pos c) m) (λ e. omega arith)

few_at : (ws : List (List Point)) → none_meet ws ≡ true → ((i : ℕ) → once (path_at ws i) ≡ true) → (c y : ℕ) → Few (arm_left c y ws) (arm_right c y ws) (arm_up c y ws) (arm_down c y ws)
unfolding arm_left arm_right arm_up arm_down
few_at ws n o c zero = record {
  no_lru = λ a b d. three ws n o c 0 (point (pos c) 0) (point (before c) 0) (point (pos (suc c)) 0) (point (pos c) 1) (left_right ws n o c 0) (left_up ws n o c 0 (before c)) (left_up ws n o c 0 (pos (suc c))) a b d;
  no_lrd = λ a b d. impossible d;
  no_lud = λ a b d. impossible d;
  no_rud = λ a b d. impossible d;
}
few_at ws n o c (suc m) = record {
  no_lru = λ a b d. three ws n o c y z left right up (left_right ws n o c y) (left_up ws n o c y (before c)) (left_up ws n o c y (pos (suc c))) a b d;
  no_lrd = λ a b d. three ws n o c y z left right down (left_right ws n o c y) (beside_down ws n o c y (before c) m refl) (beside_down ws n o c y (pos (suc c)) m refl) a b d;
  no_lud = λ a b d. three ws n o c y z left up down (left_up ws n o c y (before c)) (beside_down ws n o c y (before c) m refl) (up_down ws n o c y m refl) a b d;
  no_rud = λ a b d. three ws n o c y z right up down (left_up ws n o c y (pos (suc c))) (beside_down ws n o c y (pos (suc c)) m refl) (up_down ws n o c y m refl) a b d;
}
  where
    y : ℕ
    y = suc m

    z : Point
    z = point (pos c) (suc m)

    left : Point
    left = point (before c) (suc m)

    right : Point
    right = point (pos (suc c)) (suc m)

    up : Point
    up = point (pos c) (suc (suc m))

    down : Point
    down = point (pos c) m

character_plain : (ws : List (List Point)) → none_meet ws ≡ true → ((i : ℕ) → once (path_at ws i) ≡ true) → (c y : ℕ) → eqb (character c y ws) 35 ≡ false
unfolding character
character_plain ws n o c y = go (on_some (point (pos c) y) ws) (plain (arm_left c y ws) (arm_right c y ws) (arm_up c y ws) (arm_down c y ws) (few_at ws n o c y))
  where
    go : (v : Bool) → eqb (arms_character (arm_left c y ws) (arm_right c y ws) (arm_up c y ws) (arm_down c y ws)) 35 ≡ false
        → eqb (cond v (arms_character (arm_left c y ws) (arm_right c y ws) (arm_up c y ws) (arm_down c y ws)) 46) 35 ≡ false
    go true e = e
    go false e = refl

-- THE BYTES of a page
pub lacks_both : (v : ℕ) (xs ys : List ℕ) → lacks v xs ≡ true → lacks v ys ≡ true → lacks v (xs ++ ys) ≡ true
unfolding lacks
lacks_both v [] ys e f = f
lacks_both v (x ∷ xs) ys e f = and_both (not (eqb x v)) (lacks v (xs ++ ys)) (and_left (not (eqb x v)) (lacks v xs) e) (lacks_both v xs ys (and_right (not (eqb x v)) (lacks v xs) e) f)

lacks_tabulate : (v n i : ℕ) (f : ℕ → ℕ) → ((j : ℕ) → eqb (f j) v ≡ false) → lacks v (tabulate n i f) ≡ true
unfolding lacks tabulate
lacks_tabulate v zero i f h = refl
lacks_tabulate v (suc n) i f h = rw (h i) (lacks_tabulate v n (suc i) f h)

pub lacks_copies : (v x n : ℕ) → eqb x v ≡ false → lacks v (replicate n x) ≡ true
unfolding lacks
lacks_copies v x zero h = refl
lacks_copies v x (suc n) h = rw h (lacks_copies v x n h)

digit_lacks : (d : ℕ) (got : List ℕ) → lacks 35 got ≡ true → lacks 35 ((48 + d) ∷ got) ≡ true
unfolding lacks
digit_lacks d got e = let n : eqb (48 + d) 35 ≡ false = ne_eqb (48 + d) 35 (omega arith) in rw n e

lacks_digits : (k v : ℕ) (got : List ℕ) → lacks 35 got ≡ true → lacks 35 (digits_from k v got) ≡ true
unfolding digits_from lacks
lacks_digits zero v got e = e
lacks_digits (suc k) v got e = go (ltb v 10) (lacks_digits k (v / 10) ((48 + v % 10) ∷ got) (digit_lacks (v % 10) got e))
  where
    go : (b : Bool) → lacks 35 (digits_from k (v / 10) ((48 + v % 10) ∷ got)) ≡ true → lacks 35 (cond b ((48 + v) ∷ got) (digits_from k (v / 10) ((48 + v % 10) ∷ got))) ≡ true
    go true h = digit_lacks v got e
    go false h = h

none_lack : lacks 35 [] ≡ true
unfolding lacks
none_lack = refl

space_lacks : lacks 35 (32 ∷ []) ≡ true
unfolding lacks
space_lacks = refl

feed_lacks : lacks 35 (10 ∷ []) ≡ true
unfolding lacks
feed_lacks = refl

line_lacks : (ws : List (List Point)) → none_meet ws ≡ true → ((i : ℕ) → once (path_at ws i) ≡ true) → (y : ℕ) → lacks 35 (track_line y ws) ≡ true
unfolding track_line line_of in_three digits
line_lacks ws n o y =
    let number = replicate (3 - length (digits_from 20 y [])) 32 ++ digits_from 20 y [] in
    let row = tabulate 64 0 (λ c. character c y ws) in
    lacks_both 35 ((number ++ (32 ∷ [])) ++ row) (10 ∷ [])
    (lacks_both 35 (number ++ (32 ∷ [])) row
    (lacks_both 35 number (32 ∷ [])
    (lacks_both 35 (replicate (3 - length (digits_from 20 y [])) 32) (digits_from 20 y []) (lacks_copies 35 32 (3 - length (digits_from 20 y [])) refl) (lacks_digits 20 y [] none_lack)) space_lacks)
    (lacks_tabulate 35 64 0 (λ c. character c y ws) (λ c. character_plain ws n o c y))) feed_lacks

pub page_lacks : (ws : List (List Point)) → none_meet ws ≡ true → ((i : ℕ) → once (path_at ws i) ≡ true) → (t : ℕ) → lacks 35 (page_text t ws) ≡ true
unfolding page_text
page_lacks ws n o zero = line_lacks ws n o 0
page_lacks ws n o (suc t) = lacks_both 35 (track_line (suc t) ws) (page_text t ws) (line_lacks ws n o (suc t)) (page_lacks ws n o t)

-- the page of pairs that can be drawn has no #
pub wiring_page_lacks : (c : List Pair) (t a b : ℕ) → rising c ≡ true → edge_clear c t a b ≡ true → lacks 35 (page_text t (wiring c t a b)) ≡ true
wiring_page_lacks c t a b r f = page_lacks (wiring c t a b) (wiring_clear c t a b r f) (wiring_once c t a b r f) t
