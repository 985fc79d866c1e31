-- A text that is not refused has a stack within the limits: each test that refuses is a limit. By induction on the terminals of a line and on the lines of a
-- kind. Assumes nothing.
use mathlib.Core.Path.{◌≡◌, refl, ap, ◌∙◌}
use mathlib.Core.Bool.{Bool, true, false, ◌&&◌, cond}
use mathlib.Core.List.{List, [], ◌++◌, map}
use Prim.Native.Nat.{ℕ, zero, suc, ◌+◌, ◌≤◌, ◌<◌}
use native.Mathlib.Nat.{add-zero}
use native.Mathlib.Omega.{arith}
use lib.Dec.{ltb, leb, eqb}
use lib.ListN.{length, get_or}
use borrow.Author.Tests.{le-leb}
use Rattle.numbers.specs.Lists.{tabulate}
use Rattle.numbers.proofs.Lists.{length_tabulate, get_or_tabulate, tabulate_same}
use Rattle.lines.specs.Lines.{Line, lines, line_at}
use Rattle.stack.specs.Stack.{Channel, channel, stack}
use Rattle.stack.specs.Limits.{channel_within, channels_within, strips_within, within_limits}
use Rattle.text.specs.Text.{fine, or_else, entry, first_of, second_of, fault_at, kind, layout, stack_content, stack_kind, part_kind, nets_kind, gap_kind, Check, check, supplied, line_check, k_of, head_refusal, head_check, part_check, length_at, nets_check, tail_at, tail_count, channel_before, tail_check, checks, in_turn, text_refusal, file, file_in, pairs_of, strip_in, floor_in, stack_in_file, stack_in}
use Rattle.text.specs.Kinds.{line_refusal}
use Rattle.reading.specs.Driver.{upto_head, strip_read, upto_parts, nets_pairs, upto_nets, floor_read, gaps_read, upto_gaps}
use Rattle.text.proofs.Refusals.{or_else_fine, when_fine, only_fine, or_else_assoc, in_turn_append}
use Rattle.text.proofs.Layouts.{numbers_below}
use Rattle.kinds.proofs.Contents.{strip_fine, pairs_fine}
use Rattle.reading.proofs.Floors.{gap_says}

-- LINES of a kind
record CheckFine (c : Check) : Type 0 where
  pub form : c.form.number ≡ 0
  pub content : c.content.number ≡ 0

line_fine : (n i : ℕ) (f : ℕ → Check) → (in_turn (tabulate (suc n) i f)).number ≡ 0 → CheckFine (f i) × ((in_turn (tabulate n (suc i) f)).number ≡ 0)
unfolding in_turn tabulate
line_fine n i f h =
    let u = or_else_fine (line_refusal (f i)) (in_turn (tabulate n (suc i) f)) h in
    let c = or_else_fine (f i).form (f i).content u.0 in
    (record { form = c.0; content = c.1 }, u.1)

strips_fine : (n i : ℕ) (ls : List Line) → (in_turn (tabulate n i (λ j. part_check ls j))).number ≡ 0 → strips_within (tabulate n i (λ j. strip_read ls j)) ≡ true
unfolding tabulate strips_within part_check line_check check part_kind kind supplied entry
strips_fine zero i ls h = refl
strips_fine (suc n) i ls h =
    let u = line_fine n i (λ j. part_check ls j) h in
    let few = numbers_below part_kind (suc (suc i)) (line_at ls (suc i)) u.0.form 2 in
    rw (strip_fine (supplied ls (suc i)) u.0.content few) (strips_fine n (suc i) ls u.1)

channels_fine : (n c : ℕ) (ls : List Line) (floors : ℕ → ℕ) → (in_turn (tabulate n c (λ j. nets_check ls j))).number ≡ 0 → ((j : ℕ) → floors j ≤ 64) →
    channels_within (tabulate (suc n) c (λ j. strip_read ls j)) (tabulate n c (λ j. channel (nets_pairs ls j) (floors j))) ≡ true
unfolding tabulate channels_within channel_within nets_check line_check check nets_kind kind length_at first_of strip_in
channels_fine zero c ls floors h small = refl
channels_fine (suc n) c ls floors h small =
    let u = line_fine n c (λ j. nets_check ls j) h in
    let pairs = pairs_fine (length_at ls c) (length_at ls (suc c)) (supplied ls (k_of ls + 2 + c)) u.0.content in
    rw (le-leb (floors c) 64 (small c), pairs) (channels_fine n (suc c) ls floors u.1 small)

-- from GAP line g on no floor is above 64
floors_fine : (n g : ℕ) (ls : List Line) → (in_turn (tabulate n g (λ j. tail_check ls j))).number ≡ 0 → (c : ℕ) →
    floor_in (tabulate n (tail_at ls + g) (λ i. (supplied ls i).numbers)) c ≤ 64
unfolding tabulate floor_in tail_check line_check check gap_kind kind second_of
floors_fine zero g ls h c = omega arith
floors_fine (suc n) g ls h c =
    let i = tail_at ls + g in
    let u = line_fine n g (λ j. tail_check ls j) h in
    let s = gap_says (k_of ls) (channel_before ls g) (supplied ls i) u.0.content in
    let next : tail_at ls + suc g ≡ suc i = omega arith in
    go (eqb (get_or (supplied ls i).numbers 0 0) c) s.small (rw next at (floors_fine n (suc g) ls u.1 c))
  where
    go : (v : Bool) {x y : ℕ} → x ≤ 64 → y ≤ 64 → cond v x y ≤ 64
    go true a b = a
    go false a b = b

-- STACK
pub record HeadSays (ls : List Line) : Type 0 where
  pub layout : (layout stack_kind 1 (line_at ls 0)).number ≡ 0
  pub within : (leb 1 (k_of ls) && leb (k_of ls) 8) ≡ true

pub head_says : (ls : List Line) → (head_refusal ls).number ≡ 0 → HeadSays ls
unfolding head_refusal line_check check stack_kind kind stack_content first_of supplied entry fault_at k_of
head_says ls h =
    let u = or_else_fine (layout stack_kind 1 (line_at ls 0)) _ h in
    record { layout = u.0; within = only_fine (leb 1 (k_of ls) && leb (k_of ls) 8) 2 1 2 u.1 }

-- THE TEXT: what is refused of its lines, kind by kind
pub checks_in_turn : (bs : List ℕ) → in_turn (checks (lines bs)) ≡ upto_gaps bs
unfolding checks in_turn
checks_in_turn bs =
    let ls = lines bs in
    let parts = tabulate (suc (k_of ls)) 0 (λ j. part_check ls j) in
    let nets = tabulate (k_of ls) 0 (λ c. nets_check ls c) in
    let tail = tabulate (tail_count ls) 0 (λ g. tail_check ls g) in
    ap (λ r. or_else (upto_head bs) r) (in_turn_append parts (nets ++ tail) ∙ ap (λ r. or_else (in_turn parts) r) (in_turn_append nets tail))
    ∙ (or_else_assoc (upto_head bs) (in_turn parts) (or_else (in_turn nets) (in_turn tail)) ∙ or_else_assoc (upto_parts bs) (in_turn nets) (in_turn tail))

-- a list by a rule, which begins at another place, and a map of it
tabulate_from : {A : Type 0} (f h : ℕ → A) (s : ℕ) → ((j : ℕ) → f (s + j) ≡ h j) → (n m i : ℕ) → m ≡ s + i → tabulate n m f ≡ tabulate n i h
unfolding tabulate
tabulate_from f h s same zero m i e = refl
tabulate_from f h s same (suc n) m i e =
    let next : suc m ≡ s + suc i = omega arith in
    rw (tabulate_from f h s same n (suc m) (suc i) next, e, same i)

map_tabulate : {A B : Type 0} (g : A → B) (f : ℕ → A) (n i : ℕ) → map g (tabulate n i f) ≡ tabulate n i (λ j. g (f j))
unfolding tabulate
map_tabulate g f zero i = refl
map_tabulate g f (suc n) i = rw (map_tabulate g f n (suc i))

-- the stack in a text, line by line
module _ (ls : List Line) where
  strips_by_lines : (n : ℕ) → map strip_in (tabulate n 1 (λ i. (supplied ls i).numbers)) ≡ tabulate n 0 (λ j. strip_read ls j)
  strips_by_lines n =
      let numbers : ℕ → List ℕ = λ i. (supplied ls i).numbers in
      let next : (j : ℕ) → 1 + j ≡ suc j = λ j. omega arith in
      map_tabulate strip_in numbers n 1
      ∙ tabulate_from (λ i. strip_in (numbers i)) (λ j. strip_read ls j) 1 (λ j. rw (next j)) n 1 0 (omega arith)

  nets_by_lines : (s n c : ℕ) → c < n → get_or (tabulate n s (λ i. (supplied ls i).numbers)) c [] ≡ (supplied ls (s + c)).numbers
  nets_by_lines s n c h =
      let numbers : ℕ → List ℕ = λ i. (supplied ls i).numbers in
      rw (tabulate_from numbers (λ c. numbers (s + c)) s (λ j. refl) n s 0 (omega arith)) (get_or_tabulate n c (λ c. numbers (s + c)) [] h)

pub stack_by_lines : (bs : List ℕ) → stack_in bs ≡ gaps_read (lines bs) (tail_count (lines bs))
unfolding stack_in stack_in_file file_in file
stack_by_lines bs =
    let ls = lines bs in
    let k = k_of ls in
    let nets : List (List ℕ) = tabulate k (k + 2) (λ i. (supplied ls i).numbers) in
    let floor : ℕ → ℕ = λ c. floor_read ls (tail_count ls) c in
    rw (strips_by_lines ls (suc k), length_tabulate k (k + 2) (λ i. (supplied ls i).numbers))
    (ap (λ (cs : List Channel). stack (tabulate (suc k) 0 (λ j. strip_read ls j)) cs)
    (tabulate_same k 0 (λ c. channel (pairs_of (get_or nets c [])) (floor c)) (λ c. channel (nets_pairs ls c) (floor c))
    (λ c a b. rw (nets_by_lines ls (k + 2) k c (omega arith)))))

pub accepted_within : (bs : List ℕ) → (text_refusal bs).number ≡ 0 → within_limits (stack_in bs) ≡ true
unfolding within_limits stack text_refusal head_check check
accepted_within bs h =
    let ls = lines bs in
    let k = k_of ls in
    let a = (when_fine (ltb 8192 (length bs)) 0 0 0 (in_turn (checks ls)) h).1 in
    let t = or_else_fine (upto_nets bs) _ (rw (checks_in_turn bs) at a) in
    let floor : ℕ → ℕ = λ c. floor_read ls (tail_count ls) c in
    let small : (c : ℕ) → floor c ≤ 64 = λ c. rw add-zero at (floors_fine (tail_count ls) 0 ls t.1 (suc c)) in
    let n = or_else_fine (upto_parts bs) _ t.0 in
    let p = or_else_fine (upto_head bs) _ n.0 in
    let few = (head_says ls (or_else_fine (head_refusal ls) fine p.0).0).within in
    let long = length_tabulate k 0 (λ c. channel (nets_pairs ls c) (floor c)) in
    rw (stack_by_lines bs, long, few, strips_fine (suc k) 0 ls p.1) (channels_fine k 0 ls floor n.1 small)
