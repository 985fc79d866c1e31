-- A track's row of characters: the table's characters, one character put in several columns, a path's run, and paths one by one. A row is 64 columns by a rule, and each store
-- changes the rule at one column. Assumes nothing.
use mathlib.Core.Path.{◌≡◌, refl, ap, sym, ◌∙◌}
use mathlib.Core.Bool.{Bool, true, false, ◌&&◌, not, cond}
use mathlib.Core.List.{List, [], ◌∷◌, ◌++◌}
use mathlib.Core.Logic.{◌⊎◌, inl, inr}
use Prim.Native.Nat.{ℕ, zero, suc, ◌+◌, ◌*◌, ◌/◌, ◌-◌, ◌≤◌, ◌<◌, min, max}
use native.Mathlib.Numerals.{add-one}
use native.Mathlib.Omega.{arith}
use native.Mathlib.Nat.{zero-mul, suc-mul}
use borrow.Author.Tests.{le-leb, lt-leb, lt-ltb, le-ltb, eq-eqb, ne_eqb}
use lib.Dec.{ltb, leb, eqb}
use lib.ListN.{length, get_or, set, take, drop, replicate, length-append, length-take, length-drop, length-replicate, get_or-replicate}
use lib.Seq.{length-take-le, ext_get_or}
use Rattle.numbers.specs.Lists.{tabulate}
use Rattle.numbers.proofs.Lists.{length_tabulate, get_or_tabulate, tabulate_same, tabulate_constant, tabulate_set}
use Rattle.numbers.proofs.Orders.{le_or_lt, eq_or_not}
use Rattle.page.specs.Page.{how_many, arms_character}
use Rattle.page.specs.Arrivals.{drawn, painted}
use Rattle.std.specs.Int.{from_bool}
use Rattle.std.specs.Simd.{first_chunks}
use Rattle.std.proofs.lemmas.List.{drop-drop, get_or_append_left, get_or-append_right, get_or-take, get_or-drop}
use Rattle.track.specs.Rows.{RowAsks, filled_to, marked}

-- THE TABLE is the rule
unfoldable pub table : List ℕ
table = 111 ∷ 111 ∷ 111 ∷ 45 ∷ 111 ∷ 43 ∷ 43 ∷ 35 ∷ 111 ∷ 43 ∷ 43 ∷ 35 ∷ 124 ∷ 35 ∷ 35 ∷ 35 ∷ []

in_table : (l r u d : Bool) → get_or table (from_bool l + 2 * from_bool r + 4 * from_bool u + 8 * from_bool d) 0 ≡ arms_character l r u d
unfolding table how_many arms_character
in_table false false false false = refl
in_table true false false false = refl
in_table false true false false = refl
in_table true true false false = refl
in_table false false true false = refl
in_table true false true false = refl
in_table false true true false = refl
in_table true true true false = refl
in_table false false false true = refl
in_table true false false true = refl
in_table false true false true = refl
in_table true true false true = refl
in_table false false true true = refl
in_table true false true true = refl
in_table false true true true = refl
in_table true true true true = refl

pub table_right : (l r u d : Bool) (a b c e : ℕ) → a ≡ from_bool l → b ≡ from_bool r → c ≡ from_bool u → e ≡ from_bool d → get_or table (a + 2 * b + 4 * c + 8 * e) 0 ≡ arms_character l r u d
table_right l r u d a b c e f g h i = rw (f, g, h, i) (in_table l r u d)

-- A ROW BY A RULE
row_rule : (row : List ℕ) → length row ≡ 64 → row ≡ tabulate 64 0 (λ c. get_or row c 0)
row_rule row l =
    ext_get_or 0 row (tabulate 64 0 (λ c. get_or row c 0)) (l ∙ sym (length_tabulate 64 0 (λ c. get_or row c 0)))
    (λ i h. sym (get_or_tabulate 64 i (λ c. get_or row c 0) 0 (omega arith)))

pub rule_long : {row : List ℕ} (f : ℕ → ℕ) → row ≡ tabulate 64 0 f → length row ≡ 64
rule_long f e = rw e (length_tabulate 64 0 f)

pub rule_same : {row : List ℕ} (f g : ℕ → ℕ) → ((c : ℕ) → c < 64 → f c ≡ g c) → row ≡ tabulate 64 0 f → row ≡ tabulate 64 0 g
rule_same f g h e = e ∙ tabulate_same 64 0 f g (λ c l m. h c (omega arith))

rule_stored : {row : List ℕ} (f g : ℕ → ℕ) (c v : ℕ) → g c ≡ v → ((j : ℕ) → (j ≡ c → ⊥) → g j ≡ f j) → row ≡ tabulate 64 0 f → set row c v ≡ tabulate 64 0 g
rule_stored f g c v h k e = rw e (sym (tabulate_set 64 c f g v h k))

-- ONE CHARACTER in several columns
filled_in : (from upto v c old : ℕ) → from ≤ c → c < upto → filled_to from upto v c old ≡ v
unfolding filled_to
filled_in from upto v c old l m = rw (le-leb from c l, lt-ltb c upto m)

filled_out : (from upto v c old : ℕ) → (c < from) ⊎ (upto ≤ c) → filled_to from upto v c old ≡ old
unfolding filled_to
filled_out from upto v c old (inl l) = rw (lt-leb from c l)
filled_out from upto v c old (inr l) = go (leb from c)
  where
    go : (b : Bool) → cond (b && ltb c upto) v old ≡ old
    go true = rw (le-ltb c upto l)
    go false = refl

module _ (from upto v : ℕ) (row : List ℕ) (l : from ≤ upto) (m : upto ≤ 64) (long : length row ≡ 64) where
  part_filled : List ℕ
  part_filled = take from row ++ (replicate (upto - from) v ++ drop (upto - from) (drop from row))

  part_long : length part_filled ≡ 64
  unfolding part_filled
  part_long = rw (length-append, length-append, length-take-le from row (omega arith), length-replicate, length-drop, length-drop) (omega arith)

  part_at : (c : ℕ) → (from ≤ c) ⊎ (c < from) → (upto ≤ c) ⊎ (c < upto) → get_or part_filled c 0 ≡ filled_to from upto v c (get_or row c 0)
  unfolding part_filled
  part_at c (inr k) n = get_or_append_left (take from row) _ 0 c (rw (length-take-le from row (omega arith)) k) ∙ get_or-take from row c 0 k ∙ sym (filled_out from upto v c (get_or row c 0) (inl k))
  part_at c (inl k) (inr n) =
      get_or-append_right (take from row) _ from c 0 (length-take-le from row (omega arith)) k
      ∙ get_or_append_left (replicate (upto - from) v) _ 0 (c - from) (rw length-replicate (omega arith))
      ∙ get_or-replicate (upto - from) (c - from) v 0 (omega arith) ∙ sym (filled_in from upto v c (get_or row c 0) k n)
  part_at c (inl k) (inl n) =
      let i : from + (upto - from + (c - from - (upto - from))) ≡ c = omega arith in
      get_or-append_right (take from row) _ from c 0 (length-take-le from row (omega arith)) k
      ∙ get_or-append_right (replicate (upto - from) v) _ (upto - from) (c - from) 0 (length-replicate {A = ℕ} (upto - from) v) (omega arith)
      ∙ get_or-drop (upto - from) (drop from row) (c - from - (upto - from)) 0 ∙ get_or-drop from row _ 0 ∙ rw i (sym (filled_out from upto v c (get_or row c 0) (inr n)))

  pub filled_part : (part : List ℕ) → part ≡ replicate (upto - from) v → take from row ++ (part ++ drop (upto - from) (drop from row)) ≡ tabulate 64 0 (λ c. filled_to from upto v c (get_or row c 0))
  unfolding part_filled
  filled_part part e =
      rw e
      (ext_get_or 0 part_filled (tabulate 64 0 (λ c. filled_to from upto v c (get_or row c 0))) (part_long ∙ sym (length_tabulate 64 0 (λ c. filled_to from upto v c (get_or row c 0))))
      (λ c h. part_at c (le_or_lt from c) (le_or_lt upto c) ∙ sym (get_or_tabulate 64 c (λ c. filled_to from upto v c (get_or row c 0)) 0 (omega (arith, part_long)))))

-- the same, where the bounds are worked out
pub dashes_filled : (s e a b v : ℕ) (row part : List ℕ) → a ≡ min s e → b ≡ max s e → (s ≡ e → ⊥) → s < 64 → e < 64 → length row ≡ 64 → part ≡ replicate (b - (a + 1)) v →
    take (a + 1) row ++ (part ++ drop (b - (a + 1)) (drop (a + 1) row)) ≡ tabulate 64 0 (λ c. filled_to (min s e + 1) (max s e) v c (get_or row c 0))
dashes_filled s e a b v row part f g n l m long h = rw (f, g) (filled_part (min s e + 1) (max s e) v row (omega arith) (omega arith) long part (rw (f, g) at h))

-- A RUN
module _ (s e : ℕ) (u d : Bool) where
  drawn_off : (c old : ℕ) → (c < min s e) ⊎ (max s e < c) → drawn s e u d c old ≡ old
  unfolding drawn
  drawn_off c old (inl l) = rw (lt-leb (min s e) c l)
  drawn_off c old (inr l) = go (leb (min s e) c)
    where
      go : (b : Bool) → cond (b && leb c (max s e)) (arms_character (ltb (min s e) c) (ltb c (max s e)) (eqb c e && u) (eqb c s && d)) old ≡ old
      go true = rw (lt-leb c (max s e) l)
      go false = refl

  drawn_on : (c old : ℕ) → min s e ≤ c → c ≤ max s e → drawn s e u d c old ≡ arms_character (ltb (min s e) c) (ltb c (max s e)) (eqb c e && u) (eqb c s && d)
  unfolding drawn
  drawn_on c old l m = rw (le-leb (min s e) c l, le-leb c (max s e) m)

  pub point_drawn : (row : List ℕ) (v : ℕ) → length row ≡ 64 → s ≡ e → v ≡ arms_character false false u d → set row s v ≡ tabulate 64 0 (λ c. drawn s e u d c (get_or row c 0))
  point_drawn row v l h k =
      rule_stored (λ c. get_or row c 0) (λ c. drawn s e u d c (get_or row c 0)) s v
      (drawn_on s (get_or row s 0) (omega arith) (omega arith)
      ∙ rw (le-ltb (min s e) s (omega arith), le-ltb s (max s e) (omega arith), eq-eqb s e h, eq-eqb s s refl) (sym k))
      (λ j n. drawn_off j (get_or row j 0) (beside j n (le_or_lt s j))) (row_rule row l)
    where
      beside : (j : ℕ) → (j ≡ s → ⊥) → (s ≤ j) ⊎ (j < s) → (j < min s e) ⊎ (max s e < j)
      beside j n (inl m) = inr (omega arith)
      beside j n (inr m) = inl (omega arith)

  -- the dashes between, then both ends
  module _ (row now : List ℕ) (a b v : ℕ) (n : s ≡ e → ⊥) (dash : v ≡ arms_character true true false false)
      (first : a ≡ arms_character (ltb e s) (ltb s e) false d) (last : b ≡ arms_character (ltb s e) (ltb e s) u false)
      (h : now ≡ tabulate 64 0 (λ c. filled_to (min s e + 1) (max s e) v c (get_or row c 0))) where
    between : ℕ → ℕ
    between c = filled_to (min s e + 1) (max s e) v c (get_or row c 0)

    begun : ℕ → ℕ
    begun c = cond (eqb c s) a (between c)

    begun_put : set now s a ≡ tabulate 64 0 begun
    unfolding begun between
    begun_put = rule_stored between begun s a (rw (eq-eqb s s refl)) (λ j m. rw (ne_eqb j s m)) h

    at_end : drawn s e u d e (get_or row e 0) ≡ b
    at_end = drawn_on e (get_or row e 0) (omega arith) (omega arith) ∙ rw (last, eq-eqb e e refl, ne_eqb e s (λ m. n (sym m))) (go (le_or_lt s e))
      where
        go : (s ≤ e) ⊎ (e < s) → arms_character (ltb (min s e) e) (ltb e (max s e)) (true && u) (false && d) ≡ arms_character (ltb s e) (ltb e s) u false
        go (inl l) = rw (lt-ltb (min s e) e (omega arith), le-ltb e (max s e) (omega arith), lt-ltb s e (omega arith), le-ltb e s l)
        go (inr l) = rw (le-ltb (min s e) e (omega arith), lt-ltb e (max s e) (omega arith), le-ltb s e (omega arith), lt-ltb e s l)

    at_start : drawn s e u d s (get_or row s 0) ≡ a
    at_start = drawn_on s (get_or row s 0) (omega arith) (omega arith) ∙ rw (first, ne_eqb s e n, eq-eqb s s refl) (go (le_or_lt s e))
      where
        go : (s ≤ e) ⊎ (e < s) → arms_character (ltb (min s e) s) (ltb s (max s e)) (false && u) (true && d) ≡ arms_character (ltb e s) (ltb s e) false d
        go (inl l) = rw (le-ltb (min s e) s (omega arith), lt-ltb s (max s e) (omega arith), le-ltb e s l, lt-ltb s e (omega arith))
        go (inr l) = rw (lt-ltb (min s e) s (omega arith), le-ltb s (max s e) (omega arith), lt-ltb e s l, le-ltb s e (omega arith))

    elsewhere : (j : ℕ) → (j ≡ s → ⊥) → (j ≡ e → ⊥) → drawn s e u d j (get_or row j 0) ≡ between j
    unfolding between
    elsewhere j m k = go (le_or_lt (min s e + 1) j) (le_or_lt (max s e) j)
      where
        go : (min s e + 1 ≤ j) ⊎ (j < min s e + 1) → (max s e ≤ j) ⊎ (j < max s e) → drawn s e u d j (get_or row j 0) ≡ filled_to (min s e + 1) (max s e) v j (get_or row j 0)
        go (inl x) (inr y) =
            drawn_on j (get_or row j 0) (omega arith) (omega arith)
            ∙ rw (lt-ltb (min s e) j (omega arith), lt-ltb j (max s e) y, ne_eqb j e k, ne_eqb j s m) (sym dash) ∙ sym (filled_in (min s e + 1) (max s e) v j (get_or row j 0) x y)
        go (inr x) y = drawn_off j (get_or row j 0) (inl (omega arith)) ∙ sym (filled_out (min s e + 1) (max s e) v j (get_or row j 0) (inl x))
        go (inl x) (inl y) = drawn_off j (get_or row j 0) (inr (omega arith)) ∙ sym (filled_out (min s e + 1) (max s e) v j (get_or row j 0) (inr y))

    pub run_drawn : set (set now s a) e b ≡ tabulate 64 0 (λ c. drawn s e u d c (get_or row c 0))
    unfolding begun
    run_drawn = rule_stored begun (λ c. drawn s e u d c (get_or row c 0)) e b at_end (λ j m. go j m (eq_or_not j s)) begun_put
      where
        go : (j : ℕ) → (j ≡ e → ⊥) → (j ≡ s) ⊎ (j ≡ s → ⊥) → drawn s e u d j (get_or row j 0) ≡ cond (eqb j s) a (between j)
        go j m (inl k) = rw (k, eq-eqb s s refl) at_start
        go j m (inr k) = rw (ne_eqb j s k) (elsewhere j k m)

-- a run that does not go right goes left
pub other_way : (s e : ℕ) (r : Bool) → r ≡ ltb s e → (s ≡ e → ⊥) → not r ≡ ltb e s
other_way s e r h n = rw h (go (le_or_lt s e))
  where
    go : (s ≤ e) ⊎ (e < s) → not (ltb s e) ≡ ltb e s
    go (inl l) = rw (lt-ltb s e (omega arith), le-ltb e s l)
    go (inr l) = rw (le-ltb s e (omega arith), lt-ltb e s l)

-- a path that only passes upward is one character
drawn_point : (s : ℕ) (u d : Bool) (c old : ℕ) → drawn s s u d c old ≡ cond (eqb c s) (arms_character false false u d) old
drawn_point s u d c old = go (eq_or_not c s)
  where
    beside : (c ≡ s → ⊥) → (s ≤ c) ⊎ (c < s) → (c < min s s) ⊎ (max s s < c)
    beside n (inl m) = inr (omega arith)
    beside n (inr m) = inl (omega arith)

    go : (c ≡ s) ⊎ (c ≡ s → ⊥) → drawn s s u d c old ≡ cond (eqb c s) (arms_character false false u d) old
    go (inl e) =
        rw (e, eq-eqb s s refl)
        (drawn_on s s u d s old (omega arith) (omega arith) ∙ rw (le-ltb (min s s) s (omega arith), le-ltb s (max s s) (omega arith), eq-eqb s s refl))
    go (inr n) = rw (ne_eqb c s n) (drawn_off s s u d c old (beside n (le_or_lt s c)))

-- PATHS drawn one by one
module _ (s e : ℕ → ℕ) (u d : Bool) where
  -- first some, then the next
  painted_append : (n k c old : ℕ) → painted (λ j. s (n + j)) (λ j. e (n + j)) u d k c (painted s e u d n c old) ≡ painted s e u d (n + k) c old
  unfolding painted
  painted_append n zero c old = let z : n + 0 ≡ n = omega arith in rw z
  painted_append n (suc k) c old =
      let z : n + suc k ≡ suc (n + k) = omega arith in
      rw (z, painted_append n k c old)

  pub painted_same : (f g : ℕ → ℕ) (n c old : ℕ) → ((j : ℕ) → j < n → (s j ≡ f j) × (e j ≡ g j)) → painted s e u d n c old ≡ painted f g u d n c old
  unfolding painted
  painted_same f g zero c old h = refl
  painted_same f g (suc n) c old h =
      let k = h n (omega arith) in
      rw (k.0, k.1, painted_same f g n c old (λ j l. h j (omega arith)))

  -- where none of them runs, each is one character
  marked_painted : (v n c old : ℕ) → v ≡ arms_character false false u d → ((i : ℕ) → i < n → s i ≡ e i) → marked e v n c old ≡ painted s e u d n c old
  unfolding marked painted
  marked_painted v zero c old h k = refl
  marked_painted v (suc n) c old h k =
      let same = k n (omega arith) in
      rw (marked_painted v n c old h (λ i l. k i (omega arith)), same, drawn_point (e n) u d c (painted s e u d n c old), h)

  -- A ROW, path by path
  pub runs_start : (row : List ℕ) → length row ≡ 64 → row ≡ tabulate 64 0 (λ c. painted s e u d 0 c (get_or row c 0))
  unfolding painted
  runs_start row l = row_rule row l

  pub runs_step : (j : ℕ) (before row next : List ℕ) → row ≡ tabulate 64 0 (λ c. painted s e u d j c (get_or before c 0))
      → next ≡ tabulate 64 0 (λ c. drawn (s j) (e j) u d c (get_or row c 0)) → next ≡ tabulate 64 0 (λ c. painted s e u d (j + 1) c (get_or before c 0))
  unfolding painted
  runs_step j before row next h k =
      rw (add-one j)
      (rule_same (λ c. drawn (s j) (e j) u d c (get_or row c 0)) (λ c. painted s e u d (suc j) c (get_or before c 0))
      (λ c m. rw (h, get_or_tabulate 64 c (λ c. painted s e u d j c (get_or before c 0)) 0 m)) k)

  pub row_starts : (row : List ℕ) → row ≡ replicate 64 46 → row ≡ tabulate 64 0 (λ c. painted s e u d 0 c 46)
  unfolding painted
  row_starts row h = h ∙ sym (tabulate_constant 64 0 46)

  pub eight_marked : (v : ℕ) (before row : List ℕ) → v ≡ arms_character false false u d → ((i : ℕ) → i < 8 → s i ≡ e i)
      → row ≡ tabulate 64 0 (λ c. marked e v 8 c (get_or before c 0)) → row ≡ tabulate 64 0 (λ c. painted s e u d 8 c (get_or before c 0))
  eight_marked v before row h k m =
      rule_same (λ c. marked e v 8 c (get_or before c 0)) (λ c. painted s e u d 8 c (get_or before c 0)) (λ c l. marked_painted v 8 c (get_or before c 0) h k) m

-- the next n paths, by columns of their own
pub row_joins : (s e : ℕ → ℕ) (u d : Bool) (j n m : ℕ) (f g : ℕ → ℕ) (row next : List ℕ) → j + n ≡ m → ((i : ℕ) → i < n → (f i ≡ s (j + i)) × (g i ≡ e (j + i)))
    → row ≡ tabulate 64 0 (λ c. painted s e u d j c 46) → next ≡ tabulate 64 0 (λ c. painted f g u d n c (get_or row c 0)) → next ≡ tabulate 64 0 (λ c. painted s e u d m c 46)
row_joins s e u d j n m f g row next l same h k =
    rw (← l)
    (rule_same (λ c. painted f g u d n c (get_or row c 0)) (λ c. painted s e u d (j + n) c 46)
    (λ c m. rw (h, get_or_tabulate 64 c (λ c. painted s e u d j c 46) 0 m)
    (painted_same f g u d (λ i. s (j + i)) (λ i. e (j + i)) n c (painted s e u d j c 46) same ∙ painted_append s e u d j n c 46)) k)

-- EIGHT AT A TIME
chunk_at : (n k : ℕ) (xs : List ℕ) (i : ℕ) (d : List ℕ) → i < k → get_or (first_chunks n k xs) i d ≡ take n (drop (i * n) xs)
chunk_at n zero xs i d h = absurd (omega arith)
chunk_at n (suc k) xs zero d h = rw zero-mul
chunk_at n (suc k) xs (suc i) d h =
    let e : n + i * n ≡ suc i * n = rw suc-mul (omega arith) in
    chunk_at n k (drop n xs) i d (omega arith) ∙ ap (take n) (drop-drop (i * n) n xs ∙ rw e)

-- eight columns are columns of the whole
pub eight_of : (xs eight : List ℕ) (i : ℕ) → i < length xs / 8 → ((d : List ℕ) → eight ≡ get_or (first_chunks 8 (length xs / 8) xs) i d)
    → (length eight ≡ 8) × ((j : ℕ) → j < 8 → get_or eight j 0 ≡ get_or xs (8 * i + j) 0)
eight_of xs eight i h e =
    let at : eight ≡ take 8 (drop (i * 8) xs) = e [] ∙ chunk_at 8 (length xs / 8) xs i [] h in (
      rw (at, length-take, length-drop) (omega arith),
      λ j k.
          let z : i * 8 + j ≡ 8 * i + j = omega arith in
          rw at (get_or-take 8 (drop (i * 8) xs) j 0 k ∙ get_or-drop (i * 8) xs j 0 ∙ rw z),
    )

pub eight_asks : (starts ends before row s e : List ℕ) (i : ℕ) → RowAsks before starts ends → length row ≡ 64 → i < length starts / 8
    → ((d : List ℕ) → s ≡ get_or (first_chunks 8 (length starts / 8) starts) i d) → ((d : List ℕ) → e ≡ get_or (first_chunks 8 (length ends / 8) ends) i d) → RowAsks row s e
eight_asks starts ends before row s e i asks long h f g =
    let k = asks.same_count in
    let p = eight_of starts s i h f in
    let q = eight_of ends e i (rw k h) g in
    record {
      columns = long;
      same_count = q.0 ∙ sym p.0;
      starts_shown = λ j l. let m : j < 8 = omega (arith, p.0) in rw (p.1 j m) (asks.starts_shown (8 * i + j) (omega arith));
      ends_shown = λ j l. let m : j < 8 = omega (arith, q.0) in rw (q.1 j m) (asks.ends_shown (8 * i + j) (omega arith));
    }

-- the next eight
pub eight_joins : (starts ends s e : List ℕ) (u d : Bool) (i : ℕ) (row next : List ℕ) → length ends ≡ length starts → i < length starts / 8
    → ((d : List ℕ) → s ≡ get_or (first_chunks 8 (length starts / 8) starts) i d) → ((d : List ℕ) → e ≡ get_or (first_chunks 8 (length ends / 8) ends) i d)
    → row ≡ tabulate 64 0 (λ c. painted (λ j. get_or starts j 0) (λ j. get_or ends j 0) u d (8 * i) c 46)
    → next ≡ tabulate 64 0 (λ c. painted (λ j. get_or s j 0) (λ j. get_or e j 0) u d 8 c (get_or row c 0))
    → next ≡ tabulate 64 0 (λ c. painted (λ j. get_or starts j 0) (λ j. get_or ends j 0) u d (8 * (i + 1)) c 46)
eight_joins starts ends s e u d i row next k h f g m n =
    let p = eight_of starts s i h f in
    let q = eight_of ends e i (rw k h) g in
    row_joins (λ j. get_or starts j 0) (λ j. get_or ends j 0) u d (8 * i) 8 (8 * (i + 1)) (λ j. get_or s j 0) (λ j. get_or e j 0) row next (omega arith) (λ j l. (p.1 j l, q.1 j l)) m n

-- the rest
pub rest_joins : (starts ends s e : List ℕ) (u d : Bool) (i : ℕ) (row next : List ℕ) → length ends ≡ length starts → i ≡ length starts / 8
    → s ≡ drop (length starts / 8 * 8) starts → e ≡ drop (length ends / 8 * 8) ends
    → row ≡ tabulate 64 0 (λ c. painted (λ j. get_or starts j 0) (λ j. get_or ends j 0) u d (8 * i) c 46)
    → next ≡ tabulate 64 0 (λ c. painted (λ j. get_or s j 0) (λ j. get_or e j 0) u d (length s) c (get_or row c 0))
    → next ≡ tabulate 64 0 (λ c. painted (λ j. get_or starts j 0) (λ j. get_or ends j 0) u d (length starts) c 46)
rest_joins starts ends s e u d i row next k h f g m n =
    let z : length starts / 8 * 8 ≡ 8 * i = omega arith in
    let long : 8 * i + length s ≡ length starts = rw (f, length-drop) (omega arith) in
    row_joins (λ j. get_or starts j 0) (λ j. get_or ends j 0) u d (8 * i) (length s) (length starts) (λ j. get_or s j 0) (λ j. get_or e j 0) row next long
    (λ j l. (rw (f, z) (get_or-drop (8 * i) starts j 0), rw (g, k, z) (get_or-drop (8 * i) ends j 0))) m n

-- ONE CHARACTER AT SEVERAL COLUMNS
module _ (e : ℕ → ℕ) (v : ℕ) where
  pub marks_start : (row : List ℕ) → length row ≡ 64 → row ≡ tabulate 64 0 (λ c. marked e v 0 c (get_or row c 0))
  unfolding marked
  marks_start row l = row_rule row l

  pub marks_step : (i : ℕ) (before row : List ℕ) → row ≡ tabulate 64 0 (λ c. marked e v i c (get_or before c 0))
      → set row (e i) v ≡ tabulate 64 0 (λ c. marked e v (i + 1) c (get_or before c 0))
  unfolding marked
  marks_step i before row h =
      rw (add-one i)
      (rule_stored (λ c. marked e v i c (get_or before c 0)) (λ c. marked e v (suc i) c (get_or before c 0)) (e i) v (rw (eq-eqb (e i) (e i) refl))
      (λ j n. rw (ne_eqb j (e i) n)) h)

-- A LIST FILLED by a rule from its front
pub front_end : (f : ℕ → ℕ) (xs : List ℕ) (n k : ℕ) → n ≤ k → length xs ≡ n → ((j : ℕ) → j < k → get_or xs j 0 ≡ f j) → xs ≡ tabulate n 0 f
front_end f xs n k l e h = ext_get_or 0 xs (tabulate n 0 f) (e ∙ sym (length_tabulate n 0 f)) (λ i m. h i (omega arith) ∙ sym (get_or_tabulate n i f 0 (omega arith)))
