-- A row's numbers, part by part, and those behind tabs one by one. Assumes nothing.
use mathlib.Core.Path.{◌≡◌, refl, sym, ◌∙◌}
use mathlib.Core.List.{List, [], ◌∷◌, ◌++◌, map, append_assoc, append-nil}
use Prim.Native.Nat.{ℕ, ◌+◌, ◌<◌}
use native.Mathlib.Omega.{arith}
use lib.ListN.{length, get_or, take, length-map, length-append}
use lib.Seq.{take-suc}
use native.Mathlib.Numerals.{add-one}
use denote.Param.Members.{Mut, Called}
use Rattle.std.specs.Array.{IsMapOf}
use Rattle.std.proofs.lemmas.List.{same_lists, get_or-map}
use Rattle.stack.specs.Value.{tracks_of, columns_of}
use Rattle.stack.specs.Stack.{row, total}
use Rattle.stack.specs.declared.Tracks.{Tracks}
use Rattle.stack.specs.declared.Columns.{Columns}
use Rattle.writing.specs.TableText.{digits, tabbed, row_text, total_text, refusal_text}
use Rattle.writing.specs.Output.{row_of, RowAsks}
use Rattle.writing.proofs.Digits.{tabbed_one, tabbed_append}

pub row_numbers : (s t : ℕ) (ts xs : List ℕ) → tabbed ((s ∷ t ∷ ts) ++ xs) ≡ tabbed (s ∷ []) ++ (tabbed (t ∷ []) ++ (tabbed ts ++ tabbed xs))
row_numbers s t ts xs = rw (tabbed_append (s ∷ []) (t ∷ (ts ++ xs)), tabbed_append (t ∷ []) (ts ++ xs), tabbed_append ts xs)

-- none and one number more behind tabs
pub tabbed_none : (xs : List ℕ) → xs ≡ xs ++ tabbed []
unfolding tabbed
tabbed_none xs = sym (append-nil xs)

tabbed_more : (vs : List ℕ) (i : ℕ) → i < length vs → tabbed (take (i + 1) vs) ≡ tabbed (take i vs) ++ (9 ∷ digits (get_or vs i 0))
tabbed_more vs i h = rw (add-one i, take-suc vs i 0 h, tabbed_append (take i vs) (get_or vs i 0 ∷ []), tabbed_one (get_or vs i 0))

pub tabbed_added : (xs vs : List ℕ) (i : ℕ) → i < length vs → xs ++ tabbed (take (i + 1) vs) ≡ ((xs ++ tabbed (take i vs)) ++ (9 ∷ [])) ++ digits (get_or vs i 0)
tabbed_added xs vs i h = rw (tabbed_more vs i h) (simp append_assoc)

pub none_short : length (tabbed []) ≡ 0
unfolding tabbed
none_short = refl

pub tabbed_longer : (vs : List ℕ) (i : ℕ) → i < length vs → length (tabbed (take (i + 1) vs)) ≡ length (tabbed (take i vs)) + 1 + length (digits (get_or vs i 0))
tabbed_longer vs i h = rw (tabbed_more vs i h, length-append) (omega arith)

-- what a closure that computes h makes of an array's elements
pub array_mapped : {F A B : Type 0} (g : Mut F (A × Unit {0}) B) (h : A → B) (a : A) {f : F} {xs : List A} {ys : List B} {n : ℕ} → length xs ≡ n →
    ((p : F) (x : A) (r : B) (q : F) → Called g p (x, tt) r q → r ≡ h x) → IsMapOf g f xs ys n → ys ≡ map h xs
array_mapped g h a {xs = xs} {ys = ys} l gives m =
    same_lists ys (map h xs) (m.long ∙ rw length-map (sym l)) (λ i d k.
    let call = m.at i a d (omega (arith, m.long)) in
    gives call.0 (get_or xs i a) (get_or ys i d) call.1 call.2 ∙ sym (get_or-map h xs i a d (omega (arith, m.long))))

-- the word, the numbers and the line feed are the row
pub row_made : (k s t : ℕ) (ts : List Tracks) (xs : List Columns) {us vs a b c d e f : List ℕ} → RowAsks k t ts → us ≡ tracks_of ts → vs ≡ columns_of xs → a ≡ [] →
    b ≡ a ++ (82 ∷ 79 ∷ 87 ∷ []) → c ≡ b ++ tabbed (s ∷ t ∷ []) → d ≡ c ++ tabbed (take k us) → e ≡ d ++ tabbed (take (k + 1) vs) → f ≡ e ++ (10 ∷ []) →
    f ≡ row_text (row_of k s ts xs)
unfolding row_text row_of row total
row_made k s t ts xs asks us vs a b c d e f =
    let numbers = row_numbers s t (take k (tracks_of ts)) (take (k + 1) (columns_of xs)) in
    rw (f, e, d, c, b, a, us, vs, ← asks.added, ← add-one k) (rw (numbers, tabbed_append (s ∷ []) (t ∷ [])) (simp append_assoc))

-- a number and a line feed that are added to an empty line are a total's; a number, two behind tabs and a line feed are a refusal's
pub total_made : (v : ℕ) {a b c : List ℕ} → a ≡ [] → b ≡ a ++ digits v → c ≡ b ++ (10 ∷ []) → c ≡ total_text v
unfolding total_text
total_made v a b c = rw (c, b, a)

pub refusal_made : (number line field : ℕ) {a b c d : List ℕ} → a ≡ [] → b ≡ a ++ digits number → c ≡ b ++ tabbed (line ∷ field ∷ []) → d ≡ c ++ (10 ∷ []) →
    d ≡ refusal_text number line field
unfolding refusal_text
refusal_made number line field a b c d = rw (d, c, b, a) (simp append_assoc)
