-- What a session's struct holds, part by part: the number of strips, one strip more, one less, free strips, and the same stack. Assumes nothing.
use mathlib.Core.Path.{◌≡◌, refl, ap, ap₂, sym, ◌∙◌}
use mathlib.Core.List.{List, [], ◌∷◌, ◌++◌}
use Prim.Native.Nat.{ℕ, zero, suc, ◌+◌, ◌-◌, ◌≤◌, ◌<◌}
use native.Mathlib.Nat.{zero-add}
use native.Mathlib.Omega.{arith}
use lib.Dec.{leb, eqb}
use lib.ListN.{length, get_or, set, take, replicate, length-map, get_or-map}
use lib.Seq.{get_or-set_same, get_or-set_other, take_at}
use borrow.Author.Tests.{eqb-false, leb-false, ne_eqb, le-leb, lt-leb}
use Rattle.numbers.specs.Lists.{tabulate}
use Rattle.numbers.proofs.Lists.{length_tabulate, get_or_tabulate, tabulate_same, tabulate_snoc}
use Rattle.stack.specs.Stack.{free, Strip, strip, no_strip, stack, channel}
use Rattle.stack.specs.Value.{columns, tracks, free_strip, window_of, strip_of, no_terminals, channel_of, stack_of}
use Rattle.stack.specs.declared.Columns.{Columns}
use Rattle.stack.specs.declared.Strip.{Strip as StripStruct}
use Rattle.stack.specs.declared.Terminals.{Terminals}
use Rattle.stack.specs.declared.Stack.{Stack as StackStruct}
use Rattle.stack_text.proofs.FileBack.{tabulate_back}
use Rattle.text.specs.Text.{refusal, fine}
use Rattle.text.proofs.Refusals.{when_fine, fine_number}
use Rattle.session.specs.Session.{off, room_refusal, top_length, step_refusal, taken}
use Rattle.session.specs.Value.{strip_at, channel_at, held_of}
use Rattle.session.specs.Parts.{free_strips, topped}
use Rattle.session.specs.declared.Session.{Session}

-- one more at the place behind the last, and one less
longer : {A : Type 0} (n : ℕ) (f g : ℕ → A) (x : A) → ((j : ℕ) → j < n → g j ≡ f j) → g n ≡ x → tabulate (suc n) 0 g ≡ tabulate n 0 f ++ (x ∷ [])
longer n f g x e q =
    let s : tabulate n 0 g ≡ tabulate n 0 f = tabulate_same n 0 g f (λ j a b. e j (omega (arith, zero-add n))) in
    rw (tabulate_snoc n 0 g, zero-add n, s, q)

shorter : {A : Type 0} (n : ℕ) (f : ℕ → A) → take (n - 1) (tabulate n 0 f) ≡ tabulate (n - 1) 0 f
unfolding tabulate
shorter zero f = refl
shorter (suc n) f =
    let e : suc n - 1 ≡ n = omega arith in
    rw (e, tabulate_snoc n 0 f) (take_at (tabulate n 0 f) (f (0 + n) ∷ []) n (length_tabulate n 0 f))

module _ (s : Session) where
  pub strips_long : length (held_of s).strips ≡ s.count
  unfolding held_of stack
  strips_long = length_tabulate s.count 0 (λ i. strip_at s i)

  pub channels_long : length (held_of s).channels ≡ s.count - 1
  unfolding held_of stack
  channels_long = length_tabulate (s.count - 1) 0 (λ i. channel_at s i)

  -- ROOM
  pub none_held : s.count ≡ 0 → refusal 13 0 0 ≡ room_refusal (held_of s)
  unfolding room_refusal
  none_held e = rw (strips_long, e)

  pub nine_held : (s.count ≡ 0 → ⊥) → 9 ≤ s.count → refusal 3 0 0 ≡ room_refusal (held_of s)
  unfolding room_refusal
  nine_held z n = rw (strips_long, ne_eqb s.count 0 z, le-leb 9 s.count n)

  pub room_there : (s.count ≡ 0 → ⊥) → s.count < 9 → fine ≡ room_refusal (held_of s)
  unfolding room_refusal
  room_there z n = rw (strips_long, ne_eqb s.count 0 z, lt-leb 9 s.count n)

  -- where there is room
  pub record Roomy : Type 0 where
    pub some : 1 ≤ s.count
    pub few : s.count < 9

  pub roomy : fine ≡ room_refusal (held_of s) → Roomy
  unfolding room_refusal
  roomy q =
      let e = fine_number (room_refusal (held_of s)) q in
      let n = length (held_of s).strips in
      let a = when_fine (eqb (length (held_of s).strips) 0) 12 0 0 _ e in
      let b = when_fine (leb 9 (length (held_of s).strips)) 2 0 0 fine a.1 in
      let some = eqb-false (length (held_of s).strips) 0 a.0 in
      let few = leb-false 9 (length (held_of s).strips) b.0 in
      record { some = omega (arith, some, strips_long); few = omega (arith, few, strips_long) }

  -- THE TOP STRIP
  pub top_there : 1 ≤ s.count → (strip_at s (s.count - 1)).length ≡ top_length (held_of s)
  unfolding top_length held_of stack
  top_there h =
      let top = get_or_tabulate s.count (s.count - 1) (λ i. strip_at s i) no_strip (omega arith) in
      sym (ap (λ n. (get_or (held_of s).strips (n - 1) no_strip).length) strips_long ∙ ap (λ (l : Strip). l.length) top)

  -- ONE STRIP MORE
  module _ (x : Columns) (t : Terminals) (some : 1 ≤ s.count) (few : s.count < 9) (nine : length s.lengths ≡ 9) (eight : length s.channels ≡ 8) where
    ls : List Columns
    ls = set s.lengths s.count x

    cs : List Terminals
    cs = set s.channels (s.count - 1) t

    strips_longer : tabulate (suc s.count) 0 (λ i. strip (get_or ls i (columns 0)).0 free) ≡ tabulate s.count 0 (λ i. strip_at s i) ++ (strip x.0 free ∷ [])
    unfolding ls
    strips_longer =
        longer s.count (λ i. strip_at s i) (λ i. strip (get_or ls i (columns 0)).0 free) (strip x.0 free)
        (λ j h. rw (get_or-set_other s.lengths s.count j x (columns 0) (omega arith)))
        (rw (get_or-set_same s.lengths s.count x (columns 0) (omega arith)))

    channels_longer : tabulate s.count 0 (λ i. channel (channel_of (get_or cs i no_terminals)) 0) ≡ tabulate (s.count - 1) 0 (λ i. channel_at s i) ++ (channel (channel_of t) 0 ∷ [])
    unfolding cs
    channels_longer =
        let one : s.count ≡ suc (s.count - 1) = omega arith in
        let more = longer (s.count - 1) (λ i. channel_at s i) (λ i. channel (channel_of (get_or cs i no_terminals)) 0) (channel (channel_of t) 0)
        (λ j h. rw (get_or-set_other s.channels (s.count - 1) j t no_terminals (omega arith)))
        (rw (get_or-set_same s.channels (s.count - 1) t no_terminals (omega arith))) in
        ap (λ (n : ℕ). tabulate n 0 (λ i. channel (channel_of (get_or cs i no_terminals)) 0)) one ∙ more

    pub one_more : held_of (record { count = s.count + 1; lengths = set s.lengths s.count x; channels = set s.channels (s.count - 1) t }) ≡ topped (held_of s) (strip x.0 free) (channel_of t)
    unfolding held_of stack ls cs
    one_more =
        let n : s.count + 1 ≡ suc s.count = omega arith in
        let m : suc s.count - 1 ≡ s.count = omega arith in
        rw (n, m) (ap₂ stack strips_longer channels_longer)

  -- ONE STRIP LESS
  pub none_spare : s.count ≤ 1 → refusal 13 0 0 ≡ step_refusal (held_of s) off
  unfolding step_refusal
  none_spare h = rw (strips_long, le-leb s.count 1 h)

  pub some_spare : 1 < s.count → fine ≡ step_refusal (held_of s) off
  unfolding step_refusal
  some_spare h = rw (strips_long, lt-leb s.count 1 h)

  pub one_less : held_of (record { count = s.count - 1; lengths = s.lengths; channels = s.channels }) ≡ taken (held_of s) off
  unfolding taken held_of stack
  one_less = rw (strips_long, channels_long) lists
    where
      lists : held_of (record { count = s.count - 1; lengths = s.lengths; channels = s.channels }) ≡ stack (take (s.count - 1) (held_of s).strips) (take (s.count - 1 - 1) (held_of s).channels)
      lists = ap₂ stack (sym (shorter s.count (λ i. strip_at s i))) (sym (shorter (s.count - 1) (λ i. channel_at s i)))

-- FREE STRIPS
free_at : (ls : List Columns) (i : ℕ) → get_or (free_strips ls) i (free_strip 0) ≡ free_strip (get_or ls i (columns 0)).0
free_at ls i = get_or-map (λ (l : Columns). free_strip l.0) ls i (columns 0)

pub all_free : (ls : List Columns) (ss : List StripStruct) → length ls ≡ 9 → length ss ≡ 9 → ((i : ℕ) → i < 9 → get_or ss i (free_strip 0) ≡ free_strip (get_or ls i (columns 0)).0) →
    ss ≡ free_strips ls
all_free ls ss h k e =
    let at : ℕ → StripStruct = λ i. free_strip (get_or ls i (columns 0)).0 in
    let long : length (free_strips ls) ≡ length ss = length-map ls _ ∙ (h ∙ sym k) in
    sym (tabulate_back (free_strip 0) at ss 0 (λ i b. rw zero-add (sym (e i (omega arith)))))
    ∙ (ap (λ n. tabulate n 0 at) (sym long) ∙ tabulate_back (free_strip 0) at (free_strips ls) 0 (λ i b. rw zero-add (sym (free_at ls i))))

-- THE SAME STACK: its strips are free, and its floors are 0
no_floor : (n i : ℕ) → get_or (replicate n (tracks 0)) i (tracks 0) ≡ tracks 0
no_floor zero i = refl
no_floor (suc n) zero = refl
no_floor (suc n) (suc i) = no_floor n i

pub same_stack : (s : Session) (k : StackStruct) → 1 ≤ s.count → k.count ≡ s.count - 1 → k.strips ≡ free_strips s.lengths → k.channels ≡ s.channels →
    k.floors ≡ replicate 8 (tracks 0) → stack_of k ≡ held_of s
unfolding stack_of held_of stack window_of
same_stack s k h n ss cs fs =
    let one : suc (s.count - 1) ≡ s.count = omega arith in
    rw (n, one, ss, cs, fs) (ap₂ stack
    (tabulate_same s.count 0 _ (λ i. strip_at s i) (λ i a b. ap strip_of (free_at s.lengths i)))
    (tabulate_same (s.count - 1) 0 _ (λ i. channel_at s i) (λ i a b. ap (λ t. channel (channel_of (get_or s.channels i no_terminals)) t.0) (no_floor 8 i))))
