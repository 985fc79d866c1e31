-- A path that starts on one side of a cut and ends on the other has a point on the cut: a discrete intermediate value. A CUT stands at one column on each
-- track and moves by at most one column from a track to the next, and not at all from track 0 to track 1 and from track t - 1 to track t. A unit step changes the
-- distance to the cut by at most one, so the path cannot jump over it; and it meets the cut between the edges, on tracks 1 to t - 1, since the tracks at the edges
-- are entered and left upright. Assumes nothing.
use mathlib.Core.Path.{◌≡◌, refl, sym, ap, ◌∙◌}
use mathlib.Core.Bool.{Bool, true, ◌&&◌, ◌||◌}
use mathlib.Core.List.{List, [], ◌∷◌}
use mathlib.Core.Logic.{⊎_elim}
use Prim.Native.Nat.{ℕ, zero, suc, ◌+◌, ◌≤◌, ◌<◌}
use lib.Dec.{leb, eqb}
use lib.IntN.{ℤ, pos, negsuc}
use native.Mathlib.Decide.{ℕ_discrete, dec_lt}
use native.Mathlib.Omega.{arith}
use borrow.Author.Tests.{ltb-true, leb-true, eqb-true}
use Rattle.numbers.proofs.Bools.{ands, and_right, or_either, or_right, impossible}
use Rattle.routing.specs.Paths.{Point, point, next, same_column, same_point, is_step, chain, is_path, on_path}
use Rattle.routing.proofs.Points.{same_column_equal, same_point_equal, same_point_self}

-- a column as a natural number: column 0 is 1, and all columns left of it are 0. A unit step changes it by at most one
far : ℤ → ℕ
far (pos n) = suc n
far (negsuc n) = 0

far_pos : (x : ℤ) (n : ℕ) → far x ≡ suc n → x ≡ pos n
unfolding far
far_pos (pos m) n e = let d : m ≡ n = omega arith in rw d
far_pos (negsuc m) n e = absurd (omega arith)

next_far : (x y : ℤ) → same_column (next x) y ≡ true → (far x ≤ suc (far y)) × (far y ≤ suc (far x))
unfolding far next
next_far (pos n) y e = rw (← same_column_equal (pos (suc n)) y e) (omega arith)
next_far (negsuc zero) y e = rw (← same_column_equal (pos 0) y e) (omega arith)
next_far (negsuc (suc n)) y e = rw (← same_column_equal (negsuc n) y e) (omega arith)

-- the test of a step passes in one of four ways
by_way : {A : Type 0} (w c u d f r l : Bool) → (w && ((c && (u || d)) || (f && (r || l)))) ≡ true → (w ≡ true → c ≡ true → u ≡ true → A)
    → (w ≡ true → c ≡ true → d ≡ true → A) → (f ≡ true → r ≡ true → A) → (f ≡ true → l ≡ true → A) → A
by_way {A} w c u d f r l e rises falls right left =
    ⊎_elim upright along (or_either (c && (u || d)) (f && (r || l)) (and_right w ((c && (u || d)) || (f && (r || l))) e))
  where
    upright : (c && (u || d)) ≡ true → A
    upright h = ⊎_elim (rises (search ands) (search ands)) (falls (search ands) (search ands)) (or_either u d (and_right c (u || d) h))

    along : (f && (r || l)) ≡ true → A
    along h = ⊎_elim (right (search ands)) (left (search ands)) (or_either r l (and_right f (r || l) h))

-- a CUT: its column on each track
pub record Cut (t : ℕ) (c : ℕ → ℕ) : Type 0 where
  pub left : (y z : ℕ) → suc y ≡ z → c y ≤ suc (c z)
  pub right : (y z : ℕ) → suc y ≡ z → c z ≤ suc (c y)
  pub top : (y z : ℕ) → suc y ≡ z → z ≡ t → c y ≡ c z
  pub bottom : (y z : ℕ) → suc y ≡ z → y ≡ 0 → c y ≡ c z

column_of : Point → ℕ
column_of z = far z.column

cut_at : (ℕ → ℕ) → Point → ℕ
cut_at c z = suc (c z.track)

-- a track between the edges
abbrev pub Inner : (t y : ℕ) → Type 0
Inner t y = (0 < y) × (y < t)

-- from one point to another the distance of f and g changes by at most one, and neither changes where the track of an edge is entered; from track 0 it is a
-- step to track 1, and neither changes
record Slow (t : ℕ) (f g : Point → ℕ) (a b : Point) : Type 0 where
  within : b.track ≤ t
  nearer : f a + g b ≤ suc (f b + g a)
  further : f b + g a ≤ suc (f a + g b)
  top : b.track ≡ t → (f a ≡ f b) × (g a ≡ g b)
  bottom : b.track ≡ 0 → (f a ≡ f b) × (g a ≡ g b)
  first : a.track ≡ 0 → (f a ≡ f b) × (g a ≡ g b) × (b.track ≡ 1)

module _ (t : ℕ) (c : ℕ → ℕ) (k : Cut t c) (a b : Point) where
  up_slow : a.column ≡ b.column → suc a.track ≡ b.track → b.track ≤ t → Slow t column_of (cut_at c) a b
  unfolding column_of cut_at
  up_slow x y l =
      let e = ap far x in
      let i = k.left a.track b.track y in
      let j = k.right a.track b.track y in
      record {
        within = l;
        nearer = omega arith;
        further = omega arith;
        top = λ u. (e, ap suc (k.top a.track b.track y u));
        bottom = λ u. absurd (omega arith);
        first = λ u. (e, ap suc (k.bottom a.track b.track y u), omega arith);
      }

  down_slow : a.column ≡ b.column → suc b.track ≡ a.track → a.track ≤ t → Slow t column_of (cut_at c) a b
  unfolding column_of cut_at
  down_slow x y l =
      let e = ap far x in
      let i = k.left b.track a.track y in
      let j = k.right b.track a.track y in
      record {
        within = omega arith;
        nearer = omega arith;
        further = omega arith;
        top = λ u. absurd (omega arith);
        bottom = λ u. (e, ap suc (sym (k.bottom b.track a.track y u)));
        first = λ u. absurd (omega arith);
      }

  along_slow : a.track ≡ b.track → 0 < a.track → a.track < t → far a.column ≤ suc (far b.column) → far b.column ≤ suc (far a.column)
      → Slow t column_of (cut_at c) a b
  unfolding column_of cut_at
  along_slow y o l i j = let e = ap c y in omega arith

  step_slow : is_step t a b ≡ true → Slow t column_of (cut_at c) a b
  unfolding is_step
  step_slow s =
      by_way (leb a.track t && leb b.track t) (same_column a.column b.column) (eqb (suc a.track) b.track) _
      (eqb a.track b.track && _) _ _ s
      (λ w e u. up_slow (search same_column_equal) (search eqb-true) (search (ands, leb-true)))
      (λ w e d. down_slow (search same_column_equal) (search eqb-true) (search (ands, leb-true)))
      (λ f r. let e = next_far a.column b.column r in along_slow (search (ands, eqb-true)) (search (ands, ltb-true)) (search (ands, ltb-true)) e.0 e.1)
      (λ f l. let e = next_far b.column a.column l in along_slow (search (ands, eqb-true)) (search (ands, ltb-true)) (search (ands, ltb-true)) e.1 e.0)

-- a point of the path at which f and g agree, between the edges
record Met (t : ℕ) (f g : Point → ℕ) (ws : List Point) : Type 0 where
  at : Point
  on : on_path at ws ≡ true
  level : f at ≡ g at
  inner : Inner t at.track

met_first : (t : ℕ) (f g : Point → ℕ) (a : Point) (bs : List Point) → f a ≡ g a → Inner t a.track → Met t f g (a ∷ bs)
unfolding on_path
met_first t f g a bs e l = record { at = a; on = rw (same_point_self a); level = e; inner = l }

met_later : (t : ℕ) (f g : Point → ℕ) (a : Point) (bs : List Point) → Met t f g bs → Met t f g (a ∷ bs)
unfolding on_path
met_later t f g a bs m = record { at = m.at; on = or_right (same_point m.at a) (on_path m.at bs) m.on; level = m.level; inner = m.inner }

-- where f and g come to agree, it is between the edges
slow_inner : (t : ℕ) (f g : Point → ℕ) (a b : Point) → Slow t f g a b → g a < f a → f b ≡ g b → Inner t b.track
slow_inner t f g a b s l e = (above (dec_lt 0 b.track), below (dec_lt b.track t))
  where
    above : Dec (0 < b.track) → 0 < b.track
    above (yes d) = d
    above (no d) = let k = s.bottom (omega arith) in omega arith

    below : Dec (b.track < t) → b.track < t
    below (yes d) = d
    below (no d) = let k = s.top (omega arith) in omega arith

slow_swap : (t : ℕ) (f g : Point → ℕ) (a b : Point) → Slow t f g a b → Slow t g f a b
slow_swap t f g a b s =
    record {
      within = s.within;
      nearer = omega arith;
      further = omega arith;
      top = λ e. ((s.top e).1, (s.top e).0);
      bottom = λ e. ((s.bottom e).1, (s.bottom e).0);
      first = λ e. ((s.first e).1, (s.first e).0, (s.first e).2);
    }

-- a chain that begins where g is at most f and ends where f is at most g: at each point f is still greater, or the two agree between the edges
meets : (t : ℕ) (f g : Point → ℕ) → ((a b : Point) → is_step t a b ≡ true → Slow t f g a b)
    → (goal : Point) → f goal ≤ g goal → (a : Point) (bs : List Point) → chain t goal a bs ≡ true → g a ≤ f a → (f a ≡ g a → Inner t a.track)
    → Met t f g (a ∷ bs)
unfolding chain
meets t f g steps goal e a [] h l z = go (ℕ_discrete (f a) (g a))
  where
    go : Dec (f a ≡ g a) → Met t f g (a ∷ [])
    go (yes d) = met_first t f g a [] d (z d)
    go (no d) = let q : a ≡ goal = search (ands, same_point_equal) in absurd (omega (arith, ap f q, ap g q))
meets t f g steps goal e a (b ∷ bs) h l z =
    go (ℕ_discrete (f a) (g a)) (λ x y. met_later t f g a (b ∷ bs) (meets t f g steps goal e b bs (search ands) x y))
  where
    go : Dec (f a ≡ g a) → (g b ≤ f b → (f b ≡ g b → Inner t b.track) → Met t f g (a ∷ b ∷ bs)) → Met t f g (a ∷ b ∷ bs)
    go (yes d) m = met_first t f g a (b ∷ bs) d (z d)
    go (no d) m = let s = steps a b (search ands) in m (omega arith) (slow_inner t f g a b s (omega arith))

-- a path has a point on the cut between the edges
pub record Crosses (t : ℕ) (c : ℕ → ℕ) (ws : List Point) : Type 0 where
  pub track : ℕ
  pub inner : Inner t track
  pub on : on_path (point (pos (c track)) track) ws ≡ true

on_cut : (t : ℕ) (c : ℕ → ℕ) (ws : List Point) (z : Point) → on_path z ws ≡ true → column_of z ≡ cut_at c z → Inner t z.track → Crosses t c ws
unfolding column_of cut_at point
on_cut t c ws z o e l =
    let x = far_pos z.column (c z.track) e in
    record { track = z.track; inner = l; on = rw x at o }

-- both sides: f and g are the path's column and the cut's, in either order. The second point is on track 1, at the first one's column
crosses : (t : ℕ) (c : ℕ → ℕ) (f g : Point → ℕ) → ((a b : Point) → is_step t a b ≡ true → Slow t f g a b)
    → ((z : Point) → f z ≡ g z → column_of z ≡ cut_at c z) → (start goal : Point) (ws : List Point) → is_path t start goal ws ≡ true
    → start.track ≡ 0 → goal.track ≡ t → g start ≤ f start → (f start ≡ g start → 1 < t) → f goal ≤ g goal → Crosses t c ws
unfolding is_path chain
crosses t c f g steps levels start goal [] h o u l z e = impossible h
crosses t c f g steps levels start goal (b ∷ []) h o u l z e =
    let q : start ≡ b = search (ands, same_point_equal) in
    let r : b ≡ goal = search (ands, same_point_equal) in
    let y : start.track ≡ goal.track = ap (λ (p : Point). p.track) q ∙ ap (λ (p : Point). p.track) r in
    let k = z (omega (arith, ap f q, ap g q, ap f r, ap g r)) in
    absurd (omega arith)
crosses t c f g steps levels start goal (b ∷ a ∷ bs) h o u l z e =
    let q : start ≡ b = search (ands, same_point_equal) in
    let y = (steps b a (search ands)).first (rw q at o) in
    let m = meets t f g steps goal e a bs (search ands) (omega (arith, ap f q, ap g q)) (λ d. let w = z (omega (arith, ap f q, ap g q)) in omega arith) in
    let n = met_later t f g b (a ∷ bs) m in
    on_cut t c (b ∷ a ∷ bs) n.at n.on (levels n.at n.level) n.inner

-- a path from column x to column w, where the cut is not right of x on track 0 and not left of w on track t
pub crosses_left : (t : ℕ) (c : ℕ → ℕ) → Cut t c → (x w : ℕ) (ws : List Point) → is_path t (point (pos x) 0) (point (pos w) t) ws ≡ true
    → c 0 ≤ x → (x ≡ c 0 → 1 < t) → w ≤ c t → Crosses t c ws
unfolding column_of cut_at far point
crosses_left t c k x w ws h l z e =
    crosses t c column_of (cut_at c) (step_slow t c k) (λ z d. d) (point (pos x) 0) (point (pos w) t) ws h refl refl (omega arith) (λ d. z (omega arith)) (omega arith)

-- and where it is not left of x and not right of w
pub crosses_right : (t : ℕ) (c : ℕ → ℕ) → Cut t c → (x w : ℕ) (ws : List Point) → is_path t (point (pos x) 0) (point (pos w) t) ws ≡ true
    → x ≤ c 0 → (x ≡ c 0 → 1 < t) → c t ≤ w → Crosses t c ws
unfolding column_of cut_at far point
crosses_right t c k x w ws h l z e =
    crosses t c (cut_at c) column_of (λ a b s. slow_swap t column_of (cut_at c) a b (step_slow t c k a b s)) (λ z d. sym d)
    (point (pos x) 0) (point (pos w) t) ws h refl refl (omega arith) (λ d. z (omega arith)) (omega arith)
