-- PART: what the reader answers is what documents 01 and 02 say of the line, case by case of what a strip's constructor answers. A number has at most four digits, so no
-- greatest position of a line is above the limit. Assumes nothing.
use mathlib.Core.Path.{◌≡◌, refl, ap, sym, ◌∙◌}
use mathlib.Core.Bool.{Bool, true, false, ◌&&◌, cond}
use mathlib.Core.List.{List, [], ◌∷◌}
use Prim.Native.Nat.{ℕ, ◌+◌, ◌<◌}
use native.Mathlib.Omega.{arith}
use lib.Dec.{ltb, leb}
use lib.ListN.{length, get_or}
use borrow.Author.Tests.{leb-true, leb-false, ltb-false, le-leb, lt-ltb, le-ltb}
use Rattle.std.specs.Prelude.{Result, Ok, Err}
use Rattle.lines.specs.Lines.{Line, numbers_of}
use Rattle.stack.specs.Stack.{Window, free, held, strip}
use Rattle.stack.specs.Limits.{window_within, strip_within}
use Rattle.stack.specs.Value.{window_of, strip_of}
use Rattle.stack.specs.Made.{strip_with, strip_made}
use Rattle.stack.specs.declared.Strip.{Strip as StripStruct}
use Rattle.stack.specs.declared.StripFault.TheVariants.{Length, Inverted}
use Rattle.text.specs.Text.{refusal, fine, part_word, entry, first_of, second_of, third_of, fault_at, kind, layout, exactly, one_or_three, part_content, part_kind, window_in, strip_in}
use Rattle.text.specs.Kinds.{IsKindRead}
use Rattle.text.specs.declared.Refused.{Refused}
use Rattle.kinds.specs.Readers.{part_made, PartContent, IsPartRead}
use Rattle.text.proofs.Layouts.{numbers_below, layout_fine, layout_refused, layout_then, number_kept}

-- WHAT A STRIP'S CONSTRUCTOR ANSWERS
strip_back : (v : ℕ) (w : Window) → strip_of (strip_with v w) ≡ strip v w
unfolding strip_with window_of
strip_back v free = refl
strip_back v (held a e) = refl

-- numbers of which the constructor's refusal is the documents'
module _ (n : ℕ) (ns : List ℕ) (v : ℕ) (w : Window) (same : strip_in ns ≡ strip v w)
    (says : part_content (entry n 0 ns) ≡ cond (leb 1 v && leb v 1000) (cond (window_within w) fine (refusal 14 n 4)) (refusal 4 n 2)) where
  content_made : PartContent n ns (part_made n (strip_made v w))
  unfolding strip_made strip_within
  content_made = go (leb 1 v && leb v 1000) (window_within w) refl refl
    where
      go : (b c : Bool) → (leb 1 v && leb v 1000) ≡ b → window_within w ≡ c → PartContent n ns (part_made n (cond b (cond c (Ok (strip_with v w)) (Err Inverted)) (Err Length)))
      go true true p q = record { outcome = sym (says ∙ rw (p, q)); strip = strip_back v w ∙ sym same; within = ap (λ l. strip_within l) (strip_back v w) ∙ rw (p, q) }
      go true false p q = record { outcome = sym (says ∙ rw (p, q)); strip = tt; within = tt }
      go false c p q = record { outcome = sym (says ∙ rw p); strip = tt; within = tt }

pub one_made : (n v : ℕ) → PartContent n (v ∷ []) (part_made n (strip_made v free))
unfolding part_content first_of second_of third_of entry fault_at strip_in window_in window_within
one_made n v = content_made n (v ∷ []) v free refl refl

three_made : (n v a e : ℕ) → e < 10000 → PartContent n (v ∷ a ∷ e ∷ []) (part_made n (strip_made v (held a e)))
unfolding part_content first_of second_of third_of entry fault_at strip_in window_in window_within
three_made n v a e few = content_made n (v ∷ a ∷ e ∷ []) v (held a e) refl (go (leb a e) refl)
  where
    go : (b : Bool) → leb a e ≡ b →
        cond (leb 1 v && leb v 1000) (cond (ltb e a) (refusal 14 n 4) fine) (refusal 4 n 2)
        ≡ cond (leb 1 v && leb v 1000) (cond (b && leb e 9999) fine (refusal 14 n 4)) (refusal 4 n 2)
    go true h = rw (le-ltb e a (leb-true a e h), le-leb e 9999 (omega arith))
    go false h = rw (lt-ltb e a (leb-false a e h))

-- THE LINE has one number or three
exactly_only : (m n : ℕ) → exactly m n ≡ 0 → n ≡ m
unfolding exactly
exactly_only m n h = go (ltb n m) (ltb m n) refl refl h
  where
    go : (v w : Bool) → ltb n m ≡ v → ltb m n ≡ w → cond v (n + 2) (cond w (m + 2) 0) ≡ 0 → n ≡ m
    go true w a b h = absurd (omega arith)
    go false true a b h = absurd (omega arith)
    go false false a b h = omega (arith, ltb-false n m a, ltb-false m n b)

three_due : (n : ℕ) → one_or_three n ≡ 0 → (n ≡ 1 → ⊥) → n ≡ 3
unfolding one_or_three
three_due n h more = go (leb n 1) h
  where
    go : (v : Bool) → cond v (exactly 1 n) (exactly 3 n) ≡ 0 → n ≡ 3
    go true h = absurd (more (exactly_only 1 n h))
    go false h = exactly_only 3 n h

one_number : (ns : List ℕ) → length ns ≡ 1 → ns ≡ get_or ns 0 0 ∷ []
one_number [] h = absurd (omega arith)
one_number (x ∷ []) h = refl
one_number (x ∷ y ∷ ns) h = absurd (omega arith)

three_numbers : (ns : List ℕ) → length ns ≡ 3 → ns ≡ get_or ns 0 0 ∷ get_or ns 1 0 ∷ get_or ns 2 0 ∷ []
three_numbers [] h = absurd (omega arith)
three_numbers (x ∷ []) h = absurd (omega arith)
three_numbers (x ∷ y ∷ []) h = absurd (omega arith)
three_numbers (x ∷ y ∷ z ∷ []) h = refl
three_numbers (x ∷ y ∷ z ∷ u ∷ ns) h = absurd (omega arith)

module _ (n : ℕ) (l : Line) (vs : List ℕ) where
  pub part_ill : (x : Refused) → IsKindRead part_word (λ n. one_or_three n) n l (Err x) vs → IsPartRead n l (Err x)
  unfolding part_kind kind
  part_ill x m = record { outcome = layout_refused part_kind n l vs x m; strip = tt; within = tt }

  module _ (count : ℕ) (m : IsKindRead part_word (λ n. one_or_three n) n l (Ok count) vs) (q : Result StripStruct Refused) where
    kept : (i : ℕ) → i < 64 → get_or vs i 0 ≡ get_or (numbers_of l) i 0
    unfolding part_kind kind
    kept i h = number_kept part_kind n l vs count m i h

    there : PartContent n (numbers_of l) q → IsPartRead n l q
    unfolding part_kind kind
    there h = record { outcome = h.outcome ∙ sym (layout_then part_kind n l vs count m); strip = h.strip; within = h.within }

    pub part_free : count ≡ 1 → PartContent n (get_or vs 0 0 ∷ []) q → IsPartRead n l q
    part_free one h =
        let all : numbers_of l ≡ get_or vs 0 0 ∷ [] = one_number (numbers_of l) (sym m.count ∙ one) ∙ rw (kept 0 (omega arith)) in
        there (rw all h)

    pub part_held : (count ≡ 1 → ⊥) → q ≡ part_made n (strip_made (get_or vs 0 0) (held (get_or vs 1 0) (get_or vs 2 0))) → IsPartRead n l q
    unfolding part_kind kind fine refusal
    part_held more e =
        let three : length (numbers_of l) ≡ 3 = sym m.count ∙ three_due count m.fault more in
        let all : numbers_of l ≡ get_or vs 0 0 ∷ get_or vs 1 0 ∷ get_or vs 2 0 ∷ [] =
        three_numbers (numbers_of l) three ∙ rw (kept 0 (omega arith), kept 1 (omega arith), kept 2 (omega arith)) in
        let good : (layout part_kind n l).number ≡ 0 = rw (layout_fine part_kind n l vs count m) in
        let few : get_or vs 2 0 < 10000 = rw (kept 2 (omega arith)) (numbers_below part_kind n l good 2) in
        there (rw (all, e) (three_made n (get_or vs 0 0) (get_or vs 1 0) (get_or vs 2 0) few))
