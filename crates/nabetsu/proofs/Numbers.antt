-- The numbers of a placement, and the laws of the entries for callers in other languages. Assumes nothing.
use mathlib.Core.Path.{◌≡◌, sym, ap, ◌∙◌}
use mathlib.Core.Bool.{Bool, true, false}
use mathlib.Core.List.{List, ◌∷◌, ◌++◌}
use Prim.Native.Nat.{ℕ, zero, suc, ◌+◌, ◌-◌, ◌≤◌, ◌<◌, min}
use native.Mathlib.Omega.{arith}
use lib.Dec.{leb}
use lib.ListN.{length, get_or, take, drop, replicate, length-take, length-drop}
use lib.Seq.{get_or-append-add}
use borrow.Author.Tests.{le-leb, lt-leb, ne_eqb, eq-eqb}
use denote.Param.Members.{Mut, Called}
use Rattle.std.specs.Array.{IsMapOf}
use Rattle.std.specs.Prelude.{Ok, Err}
use Rattle.std.proofs.lemmas.List.{append-nil, map-id, ext_get_or, take_all, take_min, drop-replicate}
use Rattle.std.proofs.lemmas.Simd.{map-map}
use Rattle.numbers.specs.Lists.{tabulate, padded}
use Rattle.numbers.proofs.Lists.{length_tabulate, get_or_tabulate, tabulate_same, tabulate_constant, zeros_at}
use Rattle.stack.specs.Value.{tracks, columns, tracks_of, columns_of}
use Rattle.stack.specs.declared.Tracks.{Tracks}
use Rattle.stack.specs.declared.Columns.{Columns}
use Rattle.writing.proofs.Rows.{array_mapped}
use Rattle.stack.proofs.Values.{column_at, tracks_long}
use Rattle.text.specs.Text.{Refusal, refusal, fine, or_else, text_refusal, stack_in}
use Rattle.text.specs.Outcome.{number_of, refused}
use Rattle.text.specs.declared.Refused.{Refused}
use Rattle.text.specs.declared.Refusal.TheVariants.{ShortSpace}
use Rattle.text.proofs.Refusals.{word_not_fine, fine_number, or_else_refused}
use Rattle.stack.specs.declared.Placement.{Placement}
use Rattle.reply.specs.Told.{zeros}
use Rattle.nabetsu.specs.Entry.{TrialResult, code, numbers_placed, numbers, numbers_in, NumbersPut, verdict, is_legal_numbers, TrialSays}
use Rattle.nabetsu.specs.Parts.{NumbersTried}

-- NUMBERS with zeros behind them
-- the first of the numbers over zeros
pub padded_first : (n : ℕ) (ns xs : List ℕ) (given : ℕ) → given ≡ min (length ns) n → xs ≡ take given ns → xs ++ drop given (replicate n 0) ≡ padded n (take n ns)
unfolding padded
padded_first n ns xs given e p =
    let least : given ≡ min n (length ns) = omega (arith, e) in
    let first : take given ns ≡ take n ns = ap (λ g. take g ns) least ∙ take_min n ns in
    let left : n - given ≡ n - length (take n ns) = omega (arith, e, length-take n ns) in
    rw (p ∙ first, drop-replicate {X = ℕ} given n 0, left)

-- as many as there are places
padded_whole : (n : ℕ) (ns : List ℕ) → length ns ≡ n → padded n ns ≡ ns
unfolding padded
padded_whole n ns e = let none : n - length ns ≡ 0 = omega arith in rw none (append-nil ns)

-- as many as there are places, of which the first so many are all
padded_part : (n : ℕ) (ns : List ℕ) → length ns ≡ n → padded n (take n ns) ≡ ns
padded_part n ns e = ap (padded n) (take_all n ns (omega arith)) ∙ padded_whole n ns e

-- numbers made separations or positions, one by one
pub tracks_mapped : {F : Type 0} (g : Mut F (ℕ × Unit {0}) Tracks) {f : F} {ns : List ℕ} {ts : List Tracks} (n : ℕ) → IsMapOf g f ns ts n → length ns ≡ n →
    ((p : F) (x : ℕ) (r : Tracks) (q : F) → Called g p (x, tt) r q → r ≡ tracks x) → tracks_of ts ≡ ns
tracks_mapped g {ns = ns} n m l gives = ap tracks_of (array_mapped g tracks 0 l gives m) ∙ map-map (λ (t : Tracks). t.0) tracks ns ∙ map-id ns

pub columns_mapped : {F : Type 0} (g : Mut F (ℕ × Unit {0}) Columns) {f : F} {ns : List ℕ} {xs : List Columns} (n : ℕ) → IsMapOf g f ns xs n → length ns ≡ n →
    ((p : F) (x : ℕ) (r : Columns) (q : F) → Called g p (x, tt) r q → r ≡ columns x) → columns_of xs ≡ ns
columns_mapped g {ns = ns} n m l gives = ap columns_of (array_mapped g columns 0 l gives m) ∙ map-map (λ (x : Columns). x.0) columns ns ∙ map-id ns

-- THE EIGHTEEN NUMBERS of a placement, place by place
module _ (v : ℕ) (ts : List Tracks) (xs : List Columns) (sized : length ts ≡ 8) where
  pub number_column : (i : ℕ) → 8 < i → (get_or xs (i - 8 - 1) (record { 0 = 0 })).0 ≡ get_or (v ∷ (tracks_of ts ++ columns_of xs)) i 0
  number_column zero h = absurd (omega arith)
  number_column (suc j) h =
      let n = suc j - 8 - 1 in
      let e : j ≡ length (tracks_of ts) + n = omega (arith, tracks_long ts 8 sized) in
      let r : get_or (tracks_of ts ++ columns_of xs) j 0 ≡ get_or (columns_of xs) n 0 = ap (λ i. get_or (tracks_of ts ++ columns_of xs) i 0) e ∙ get_or-append-add (tracks_of ts) (columns_of xs) n 0 in
      sym (column_at xs n) ∙ sym r

-- put one by one into an output
pub numbers_put : (p : Placement) (n : ℕ) (o : List ℕ) → length o ≡ n → ((j : ℕ) → j < n → get_or o j 0 ≡ get_or (numbers_placed p) j 0) → o ≡ numbers_in n (Ok p)
unfolding numbers_in numbers
numbers_put p n o l h =
    let at : ℕ → ℕ = λ i. get_or (numbers_placed p) i 0 in
    ext_get_or 0 o (tabulate n 0 at) (l ∙ sym (length_tabulate n 0 at)) (λ j k. let m : j < n = omega (arith, l) in h j m ∙ sym (get_or_tabulate n j at 0 m))

-- SHORT SPACE after every other refusal
-- a refusal's numbers are zeros
unfoldable nothing : List ℕ
nothing = replicate 18 0

zeros_there : (n : ℕ) (e : Refused) → numbers_in n (Err e) ≡ replicate n 0
unfolding numbers_in numbers nothing
zeros_there n e =
    tabulate_same n 0 (λ i. get_or nothing i 0) (λ i. 0) (λ i l m. zeros_at 18 i) ∙ tabulate_constant n 0 0

module _ (o x : List ℕ) (r : ℕ) where
  pub placement_short : (p : Placement) (e : Refused) → length o < 18 → e ≡ refused ShortSpace 0 0 → r ≡ code (refusal (number_of e.why) e.line e.field) 0 → x ≡ zeros o →
      NumbersPut (leb 18 (length o)) (Ok p) r o x
  unfolding NumbersPut or_else fine refusal
  placement_short p e h s c z = rw (lt-leb 18 (length o) h) (rw s at c, z)

  pub placement_put : (p : Placement) → 18 ≤ length o → r ≡ 0 → x ≡ numbers_in (length o) (Ok p) → NumbersPut (leb 18 (length o)) (Ok p) r o x
  unfolding NumbersPut code fine refusal
  placement_put p h c e = rw (le-leb 18 (length o) h) (c, e)

  pub placement_refused : (e : Refused) → r ≡ code (refusal (number_of e.why) e.line e.field) 0 → x ≡ zeros o → NumbersPut (leb 18 (length o)) (Err e) r o x
  unfolding NumbersPut zeros
  placement_refused e c z = go (leb 18 (length o))
    where
      go : (v : Bool) → NumbersPut v (Err e) r o x
      go true = (c, z ∙ sym (zeros_there (length o) e))
      go false = (c ∙ ap (λ (f : Refusal). code f 0) (sym (or_else_refused _ (refusal 8 0 0) (word_not_fine e))), z)

-- THE TRIAL of numbers
module _ (bs : List ℕ) (s : ℕ) (ns : List ℕ) where
  pub numbers_refused : (e : Refused) → refusal (number_of e.why) e.line e.field ≡ text_refusal bs → (length ns ≡ 17 → ⊥) → NumbersTried bs s ns (Err e)
  unfolding is_legal_numbers
  numbers_refused e q h = record { refused = q; legal_is = λ z. rw (ne_eqb (length ns) 17 h) }

  pub numbers_other : fine ≡ text_refusal bs → (length ns ≡ 17 → ⊥) → NumbersTried bs s ns (Ok false)
  unfolding is_legal_numbers
  numbers_other q h = record { refused = q; legal_is = λ z. rw (ne_eqb (length ns) 17 h) }

  pub numbers_tried : (r : TrialResult) (ts xs : List ℕ) → length ns ≡ 17 → (us ys : List ℕ) → ts ≡ padded 8 (take 8 us) → xs ≡ padded 9 (take 9 ys) → us ≡ take 8 ns → ys ≡ drop 8 ns → TrialSays bs s ts xs r →
      NumbersTried bs s ns r
  unfolding TrialSays is_legal_numbers
  numbers_tried r ts xs h us ys e f p q t =
      let tracks_long : length us ≡ 8 = rw p (omega (arith, length-take 8 ns)) in
      let columns_long : length ys ≡ 9 = rw q (omega (arith, length-drop 8 ns)) in
      let tracks_are : ts ≡ take 8 ns = e ∙ padded_part 8 us tracks_long ∙ p in
      let columns_are : xs ≡ drop 8 ns = f ∙ padded_part 9 ys columns_long ∙ q in
      record { refused = t.0; legal_is = λ z. t.1 ∙ rw (tracks_are, columns_are, z, eq-eqb (length ns) 17 h) }

pub verdict_coded : (bs : List ℕ) (s : ℕ) (ns : List ℕ) (v w : Bool) → NumbersTried bs s ns (Ok v) → v ≡ w → verdict w ≡ code (text_refusal bs) (verdict (is_legal_numbers (stack_in bs) s ns))
unfolding code fine refusal
verdict_coded bs s ns v w t e = rw (← t.refused, ← t.legal_is (fine_number (text_refusal bs) t.refused), e)
