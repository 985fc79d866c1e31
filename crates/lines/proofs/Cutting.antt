-- Where a line and a field end: the first field goes up to the first tab, the others are those from there on, and all of them are what std's split gives; the first line goes up to the first line feed and the other lines are
-- those behind it. By induction on the bytes. Then what std's search for a place finds. Assumes nothing.
use mathlib.Core.Path.{◌≡◌, refl, ap, sym, ◌∙◌}
use mathlib.Core.Bool.{Bool, true, false, cond}
use mathlib.Core.List.{List, [], ◌∷◌}
use Prim.Native.Nat.{ℕ, suc, ◌+◌, ◌≤◌, ◌<◌}
use native.Mathlib.Omega.{arith}
use lib.Dec.{ltb, eqb, leb-suc-suc}
use lib.ListN.{length, get_or, take, drop}
use borrow.Author.Tests.{lt-ltb, ltb-false}
use Rattle.std.specs.List.{position_or_len, onto_first, slice_split}
use Rattle.std.specs.Prelude.{Option, None, Some, unwrap_or}
use Rattle.std.proofs.lemmas.List.Recursion.{is_position_or_len}
use Rattle.lines.specs.Lines.{Line, line, to_front, lines, no_line, line_at, into_field, fields}
use Rattle.lines.specs.Cut.{run}

pub run_below : (b : ℕ) (xs : List ℕ) → run b xs ≤ length xs
unfolding run
run_below b [] = omega arith
run_below b (x ∷ xs) = go (eqb x b) (run_below b xs)
  where
    go : (v : Bool) → run b xs ≤ length xs → cond v 0 (suc (run b xs)) ≤ suc (length xs)
    go true h = omega arith
    go false h = omega arith

-- std's parts between tabs are the fields
onto_field : (x : ℕ) (fs : List (List ℕ)) → onto_first x fs ≡ into_field x fs
unfolding into_field
onto_field x [] = refl
onto_field x (f ∷ fs) = refl

pub split_fields : (xs : List ℕ) → slice_split (λ x. eqb x 9) xs ≡ fields xs
unfolding fields
split_fields [] = refl
split_fields (x ∷ xs) = rw (split_fields xs, onto_field x (fields xs))

front_field : (x : ℕ) (fs : List (List ℕ)) → get_or (into_field x fs) 0 [] ≡ x ∷ get_or fs 0 []
unfolding into_field
front_field x [] = refl
front_field x (f ∷ fs) = refl

pub first_field : (xs : List ℕ) → get_or (fields xs) 0 [] ≡ take (run 9 xs) xs
unfolding fields run
first_field [] = refl
first_field (x ∷ xs) = go (eqb x 9) (first_field xs)
  where
    go : (v : Bool) → get_or (fields xs) 0 [] ≡ take (run 9 xs) xs → get_or (cond v ([] ∷ fields xs) (into_field x (fields xs))) 0 [] ≡ take (cond v 0 (suc (run 9 xs))) (x ∷ xs)
    go true e = refl
    go false e = front_field x (fields xs) ∙ ap (λ r. x ∷ r) e

rest_field : (x : ℕ) (fs : List (List ℕ)) → drop 1 (into_field x fs) ≡ drop 1 fs
unfolding into_field
rest_field x [] = refl
rest_field x (f ∷ fs) = refl

-- the other fields are those from the first tab on
pub other_fields : (xs : List ℕ) → drop 1 (fields (drop (run 9 xs) xs)) ≡ drop 1 (fields xs)
unfolding fields run
other_fields [] = refl
other_fields (x ∷ xs) = go (eqb x 9) refl (other_fields xs)
  where
    go : (v : Bool) → eqb x 9 ≡ v → drop 1 (fields (drop (run 9 xs) xs)) ≡ drop 1 (fields xs) →
        drop 1 (fields (drop (cond v 0 (suc (run 9 xs))) (x ∷ xs))) ≡ drop 1 (cond v ([] ∷ fields xs) (into_field x (fields xs)))
    go true e h = rw e
    go false e h = h ∙ sym (rest_field x (fields xs))

front_first : (x : ℕ) (ls : List Line) → line_at (to_front x ls) 0 ≡ line (x ∷ (line_at ls 0).bytes) (line_at ls 0).ended
unfolding line_at to_front line no_line
front_first x [] = refl
front_first x (l ∷ ls) = refl

front_rest : (x : ℕ) (ls : List Line) → drop 1 (to_front x ls) ≡ drop 1 ls
unfolding to_front
front_rest x [] = refl
front_rest x (l ∷ ls) = refl

pub first_line : (xs : List ℕ) → line_at (lines xs) 0 ≡ line (take (run 10 xs) xs) (ltb (run 10 xs) (length xs))
unfolding lines run line_at line no_line
first_line [] = refl
first_line (x ∷ xs) = go (eqb x 10) (first_line xs)
  where
    go : (v : Bool) → line_at (lines xs) 0 ≡ line (take (run 10 xs) xs) (ltb (run 10 xs) (length xs)) →
        line_at (cond v (line [] true ∷ lines xs) (to_front x (lines xs))) 0
        ≡ line (take (cond v 0 (suc (run 10 xs))) (x ∷ xs)) (ltb (cond v 0 (suc (run 10 xs))) (suc (length xs)))
    go true e = rw (lt-ltb 0 (suc (length xs)) (omega arith))
    go false e = front_first x (lines xs) ∙ rw (e, leb-suc-suc (suc (run 10 xs)) (length xs))

pub other_lines : (xs : List ℕ) → drop 1 (lines xs) ≡ lines (drop (suc (run 10 xs)) xs)
unfolding lines run
other_lines [] = refl
other_lines (x ∷ xs) = go (eqb x 10) (other_lines xs)
  where
    go : (v : Bool) → drop 1 (lines xs) ≡ lines (drop (suc (run 10 xs)) xs) →
        drop 1 (cond v (line [] true ∷ lines xs) (to_front x (lines xs))) ≡ lines (drop (cond v 0 (suc (run 10 xs))) xs)
    go true e = refl
    go false e = front_rest x (lines xs) ∙ e

front_some : (x : ℕ) (ls : List Line) → 0 < length (to_front x ls)
unfolding to_front
front_some x [] = omega arith
front_some x (l ∷ ls) = omega arith

-- there is a line where there is a byte
pub lines_some : (xs : List ℕ) → 0 < length xs → 0 < length (lines xs)
unfolding lines
lines_some [] h = absurd (omega arith)
lines_some (x ∷ xs) h = go (eqb x 10)
  where
    go : (v : Bool) → 0 < length (cond v (line [] true ∷ lines xs) (to_front x (lines xs)))
    go true = omega arith
    go false = front_some x (lines xs)

-- run is what std's search for a place finds
pub run_position : (b : ℕ) (xs : List ℕ) → run b xs ≡ position_or_len (λ x. eqb x b) xs
unfolding run
run_position b xs =
    is_position_or_len (λ ys. run b ys) (λ x. eqb x b) refl
    (λ x ys. let e : suc (run b ys) ≡ 1 + run b ys = omega arith in ap (λ n. cond (eqb x b) 0 n) e)
    xs

-- that place where there is one, and else the length
pub place_run : (b : ℕ) (xs : List ℕ) (o : Option ℕ) → o ≡ cond (ltb (position_or_len (λ x. eqb x b) xs) (length xs)) (Some (position_or_len (λ x. eqb x b) xs)) None → unwrap_or o (length xs) ≡ run b xs
place_run b xs o e = rw (e, ← run_position b xs) (go (ltb (run b xs) (length xs)) refl)
  where
    go : (v : Bool) → ltb (run b xs) (length xs) ≡ v → unwrap_or (cond v (Some (run b xs)) None) (length xs) ≡ run b xs
    go true h = refl
    go false h = omega (arith, ltb-false (run b xs) (length xs) h, run_below b xs)
