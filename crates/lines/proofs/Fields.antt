-- The numbers of a line: the numbers kept grow with each field, and the loop over the fields has its start, step and end; then a line that begins with a word.
-- By the law that the first field goes up to the first tab. Assumes nothing.
use mathlib.Core.Path.{◌≡◌, refl, ap, sym, ◌∙◌}
use mathlib.Core.Bool.{Bool, true, false, ◌&&◌, cond}
use mathlib.Core.List.{List, [], ◌∷◌, ◌++◌}
use Prim.Native.Nat.{ℕ, zero, suc, ◌+◌, ◌-◌, ◌≤◌, ◌<◌}
use native.Mathlib.Nat.{zero-add}
use native.Mathlib.Omega.{arith}
use lib.Dec.{eqb}
use lib.ListN.{length, get_or, set, take, drop, replicate, length-append, length-drop}
use lib.Seq.{take_all}
use borrow.Author.Tests.{eqb-true, ne_eqb}
use Rattle.lines.specs.Lines.{Line, line, into_field, fields, word_of, number_fields, same_bytes, has_word, is_number, ill_formed, value, values, numbers_of}
use Rattle.lines.specs.Cut.{run}
use Rattle.std.specs.Prelude.{Option, None, Some}
use Rattle.std.specs.Option.{option_or}
use Rattle.lines.specs.Numbers.{field_read, number_in, numbers_in, in_places, field_if_any, NumbersRead, IsLineRead}
use Rattle.lines.specs.declared.Numbers.{Numbers}
use Rattle.lines.proofs.Cutting.{first_field, other_fields}

set_in_places : (n : ℕ) (vs : List ℕ) (v : ℕ) → set (in_places n vs) (length vs) v ≡ in_places n (vs ++ (v ∷ []))
unfolding in_places
set_in_places zero [] v = refl
set_in_places zero (x ∷ vs) v = refl
set_in_places (suc n) [] v = refl
set_in_places (suc n) (x ∷ vs) v = ap (λ r. x ∷ r) (set_in_places n vs v)

pub getD_in_places : (n i : ℕ) (vs : List ℕ) → i < n → get_or (in_places n vs) i 0 ≡ get_or vs i 0
unfolding in_places
getD_in_places zero i vs h = absurd (omega arith)
getD_in_places (suc n) zero [] h = refl
getD_in_places (suc n) zero (x ∷ vs) h = refl
getD_in_places (suc n) (suc i) [] h = getD_in_places n i [] (omega arith)
getD_in_places (suc n) (suc i) (x ∷ vs) h = getD_in_places n i vs (omega arith)

numbers_more : (fs : List (List ℕ)) (f : List ℕ) → numbers_in (fs ++ (f ∷ [])) ≡ numbers_in fs ++ (number_in f ∷ [])
unfolding numbers_in
numbers_more [] f = refl
numbers_more (g ∷ fs) f = ap (λ r. number_in g ∷ r) (numbers_more fs f)

numbers_length : (fs : List (List ℕ)) → length (numbers_in fs) ≡ length fs
unfolding numbers_in
numbers_length [] = refl
numbers_length (f ∷ fs) = ap suc (numbers_length fs)

-- the first ill-formed field, where one more is looked at
ill_more : (k : ℕ) (fs : List (List ℕ)) (f : List ℕ) →
    field_if_any (ill_formed (suc k) (fs ++ (f ∷ []))) ≡ option_or (field_if_any (ill_formed (suc k) fs)) (cond (is_number f) None (Some (length fs + suc k)))
unfolding ill_formed
ill_more k [] f = rw (zero-add (suc k)) (go (is_number f))
  where
    go : (v : Bool) → field_if_any (cond v 0 (suc k)) ≡ cond v None (Some (suc k))
    go true = refl
    go false = rw (ne_eqb (suc k) 0 (omega arith))
ill_more k (g ∷ fs) f = go (is_number g) (ill_more (suc k) fs f)
  where
    go : (v : Bool) →
        field_if_any (ill_formed (suc (suc k)) (fs ++ (f ∷ []))) ≡ option_or (field_if_any (ill_formed (suc (suc k)) fs)) (cond (is_number f) None (Some (length fs + suc (suc k)))) →
        field_if_any (cond v (ill_formed (suc (suc k)) (fs ++ (f ∷ []))) (suc k))
        ≡ option_or (field_if_any (cond v (ill_formed (suc (suc k)) fs) (suc k))) (cond (is_number f) None (Some (suc (length fs) + suc k)))
    go true e =
        let place : suc (length fs) + suc k ≡ length fs + suc (suc k) = omega arith in
        rw place e
    go false e = rw (ne_eqb (suc k) 0 (omega arith))

-- a zero more changes no place
zero_in_places : (n : ℕ) (vs : List ℕ) → in_places n (vs ++ (0 ∷ [])) ≡ in_places n vs
unfolding in_places
zero_in_places zero vs = refl
zero_in_places (suc n) [] = ap (λ r. 0 ∷ r) (none n)
  where
    none : (n : ℕ) → in_places n [] ≡ in_places n []
    none n = refl
zero_in_places (suc n) (x ∷ vs) = ap (λ r. x ∷ r) (zero_in_places n vs)

-- one field more: a number, or an ill-formed field
option_or_none : {A : Type 0} (o : Option A) → o ≡ option_or o None
option_or_none None = refl
option_or_none (Some x) = refl

module _ (f : List ℕ) (n : Numbers) (before : List ℕ) (fs : List (List ℕ)) (m : NumbersRead fs n before) where
  pub number_more : (x : ℕ) (values : List ℕ) → Some x ≡ field_read f → values ≡ set before n.count x → NumbersRead (fs ++ (f ∷ [])) (record { ill = n.ill; count = n.count + 1 }) values
  unfolding field_read number_in
  number_more x values read put = go (is_number f) refl read
    where
      go : (v : Bool) → is_number f ≡ v → Some x ≡ cond v (Some (value f)) None → NumbersRead (fs ++ (f ∷ [])) (record { ill = n.ill; count = n.count + 1 }) values
      go true e q =
          let is : x ≡ value f = cc in
          record {
            ill = m.ill ∙ sym (ill_more 1 fs f ∙ rw e (sym (option_or_none (field_if_any (ill_formed 2 fs)))));
            count = rw (m.count, length-append fs (f ∷ []));
            kept = put ∙ rw (is, m.kept, m.count, ← numbers_length fs, set_in_places 64 (numbers_in fs) (value f), numbers_more fs f, e);
          }
      go false e q = cc

  pub ill_formed_more : None ≡ field_read f → NumbersRead (fs ++ (f ∷ [])) (record { ill = option_or n.ill (Some (n.count + 2)); count = n.count + 1 }) before
  unfolding field_read number_in
  ill_formed_more read = go (is_number f) refl read
    where
      go : (v : Bool) → is_number f ≡ v → None ≡ cond v (Some (value f)) None → NumbersRead (fs ++ (f ∷ [])) (record { ill = option_or n.ill (Some (n.count + 2)); count = n.count + 1 }) before
      go true e q = cc
      go false e q = record {
        ill = sym (ill_more 1 fs f ∙ rw (e, m.ill, m.count));
        count = rw (m.count, length-append fs (f ∷ []));
        kept = m.kept ∙ rw (numbers_more fs f, e, zero_in_places 64 (numbers_in fs));
      }

-- the bytes of a part up to the end
pub rest_of : (xs : List ℕ) (at : ℕ) → take (length xs - at) (drop at xs) ≡ drop at xs
rest_of xs at = take_all (length xs - at) (drop at xs) (omega (arith, length-drop at xs))

pub none_read : (values : List ℕ) → values ≡ replicate 64 0 → NumbersRead [] (record { ill = None; count = 0 }) values
unfolding ill_formed numbers_in in_places
none_read values e = record { ill = refl; count = refl; kept = e }

-- while fields are read, the numbers kept have their places
places_length : (n : ℕ) (vs : List ℕ) → length (in_places n vs) ≡ n
unfolding in_places
places_length zero vs = refl
places_length (suc n) [] = ap suc (places_length n [])
places_length (suc n) (v ∷ vs) = ap suc (places_length n vs)

pub read_long : (fs : List (List ℕ)) (n : Numbers) (values : List ℕ) → NumbersRead fs n values → length values ≡ 64
read_long fs n values m = rw m.kept (places_length 64 (numbers_in fs))

-- where none is ill-formed, the numbers kept are the numbers
numbers_are : (k : ℕ) (fs : List (List ℕ)) → ill_formed (suc k) fs ≡ 0 → numbers_in fs ≡ values fs
unfolding ill_formed numbers_in number_in values
numbers_are k [] h = refl
numbers_are k (f ∷ fs) h = go (is_number f) (λ z. numbers_are (suc k) fs z) h
  where
    go : (v : Bool) → (ill_formed (suc (suc k)) fs ≡ 0 → numbers_in fs ≡ values fs) → cond v (ill_formed (suc (suc k)) fs) (suc k) ≡ 0 →
        cond v (value f) 0 ∷ numbers_in fs ≡ value f ∷ values fs
    go true e h = ap (λ r. value f ∷ r) (e h)
    go false e h = absurd (omega arith)

values_length : (fs : List (List ℕ)) → length (values fs) ≡ length fs
unfolding values
values_length [] = refl
values_length (f ∷ fs) = ap suc (values_length fs)

pub numbers_count : (l : Line) → length (numbers_of l) ≡ length (number_fields l)
unfolding numbers_of
numbers_count l = values_length (number_fields l)

-- there are no more fields than bytes behind the word
into_length : (x : ℕ) (fs : List (List ℕ)) → length (into_field x fs) ≤ suc (length fs)
unfolding into_field
into_length x [] = omega arith
into_length x (f ∷ fs) = omega arith

fields_few : (xs : List ℕ) → length (fields xs) ≤ suc (length xs)
unfolding fields
fields_few [] = omega arith
fields_few (x ∷ xs) = go (eqb x 9) (fields_few xs)
  where
    go : (v : Bool) → length (fields xs) ≤ suc (length xs) → length (cond v ([] ∷ fields xs) (into_field x (fields xs))) ≤ suc (suc (length xs))
    go true h = omega arith
    go false h = omega (arith, into_length x (fields xs))

pub numbers_few : (xs : List ℕ) (b : Bool) → length (number_fields (line xs b)) ≤ length xs
unfolding number_fields line
numbers_few xs b = omega (arith, length-drop 1 (fields xs), fields_few xs)

-- the first ill-formed field is one of them
pub ill_few : (f : ℕ) (fs : List (List ℕ)) → ill_formed f fs ≤ f + length fs
unfolding ill_formed
ill_few f [] = omega arith
ill_few f (x ∷ xs) = go (is_number x) (ill_few (suc f) xs)
  where
    go : (v : Bool) → ill_formed (suc f) xs ≤ suc f + length xs → cond v (ill_formed (suc f) xs) f ≤ f + suc (length xs)
    go true h = omega arith
    go false h = omega arith

no_field : (f : ℕ) → field_if_any f ≡ None → f ≡ 0
no_field f h = go (eqb f 0) refl h
  where
    go : (v : Bool) → eqb f 0 ≡ v → cond v None (Some f) ≡ None → f ≡ 0
    go true e h = eqb-true f 0 e
    go false e h = cc

-- the numbers are read from the end of the word on
pub read_behind : (xs : List ℕ) (r : ℕ) (n : Numbers) (values : List ℕ) → r ≡ run 9 xs → NumbersRead (drop 1 (fields (take (length xs - r) (drop r xs)))) n values → NumbersRead (drop 1 (fields xs)) n values
read_behind xs r n values e m = rw (rest_of xs r, e, other_fields xs) at m

-- A LINE whose word ends at r
pub line_reads : (xs w : List ℕ) (b v : Bool) (r : ℕ) (n : Numbers) (values : List ℕ) → r ≡ run 9 xs → NumbersRead (drop 1 (fields xs)) n values →
    v ≡ (b && same_bytes (take r xs) w) → IsLineRead (line xs b) w (record { worded = v; ill = n.ill; count = n.count }) values
unfolding has_word word_of number_fields numbers_of line
line_reads xs w b v r n values e m g =
    record {
      worded = rw (first_field xs, ← e) g;
      ill = m.ill;
      count = m.count;
      kept = λ z. m.kept ∙ ap (λ v. in_places 64 v) (numbers_are 1 (drop 1 (fields xs)) (no_field _ (sym m.ill ∙ z)));
    }
