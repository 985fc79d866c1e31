-- What steps have made is empty, a single strip, or a stack within the limits: each refusal is a limit. By induction on the steps. Assumes nothing.
use mathlib.Core.Path.{◌≡◌, refl, ap}
use mathlib.Core.Bool.{Bool, true, false, ◌&&◌, cond}
use mathlib.Core.List.{List, [], ◌∷◌, ◌++◌}
use Prim.Native.Nat.{ℕ, zero, suc, ◌+◌, ◌-◌, ◌≤◌, ◌<◌}
use native.Mathlib.Omega.{arith}
use lib.Dec.{leb, eqb}
use lib.ListN.{length, get_or, take, length-append}
use lib.Seq.{length-take-le}
use borrow.Author.Tests.{leb-true, leb-false, eqb-true, eqb-false, le-leb}
use Rattle.numbers.proofs.Bools.{ands, impossible}
use Rattle.stack.specs.Stack.{Stack, stack, Channel, channel, Window, free, held, Strip, strip, no_strip}
use Rattle.stack.specs.Limits.{all_rising, channel_within, channels_within, strip_within, strips_within, within_limits}
use Rattle.stack.proofs.Within.{strips_length, channels_rising}
use Rattle.text.specs.Text.{fine, or_else, entry, in_pairs, misplaced, nets_content, pairs_of, window_in, strip_in}
use Rattle.text.proofs.Refusals.{or_else_fine, when_fine}
use Rattle.kinds.proofs.Contents.{strip_fine, pairs_fine}
use Rattle.session.specs.Session.{nothing, Step, begin, add, off, room_refusal, top_length, length_refusal, nets_refusal, step_refusal, taken, left, after, Made, made_empty, made_after}
use Rattle.session.specs.Promise.{Held, empty, single, stacked}

-- STRIPS that are free and within the limits
unfoldable pub is_free : Window → Bool
is_free free = true
is_free (held a e) = false

unfoldable pub free_within : List Strip → Bool
free_within [] = true
free_within (l ∷ ls) = (strip_within l && is_free l.window) && free_within ls

all_within : (ls : List Strip) → free_within ls ≡ true → strips_within ls ≡ true
unfolding free_within strips_within
all_within [] h = refl
all_within (l ∷ ls) h = let r = all_within ls (search ands) in search ands

-- nothing, or free strips and channels within the limits
pub data Built : Stack → Type 0 where
  none_built : Built nothing
  strips_built : (ls : List Strip) (cs : List Channel) → free_within ls ≡ true → channels_within ls cs ≡ true → length cs ≤ 8 → Built (stack ls cs)

-- BEGIN
length_good : (l : ℕ) → (length_refusal l).number ≡ 0 → strip_within (strip l free) ≡ true
unfolding length_refusal entry strip_in window_in
length_good l h = strip_fine (entry 0 0 (l ∷ [])) h (omega arith)

single_built : (l : ℕ) → (length_refusal l).number ≡ 0 → Built (stack (strip l free ∷ []) [])
unfolding free_within is_free channels_within
single_built l h = strips_built (strip l free ∷ []) [] (rw (length_good l h)) refl (omega arith)

-- ADD
strips_more : (ls : List Strip) (l : ℕ) → free_within ls ≡ true → strip_within (strip l free) ≡ true → free_within (ls ++ (strip l free ∷ [])) ≡ true
unfolding free_within is_free
strips_more [] l h k = rw k
strips_more (x ∷ ls) l h k = let r = strips_more ls l (search ands) k in search ands

channels_more : (ls : List Strip) (cs : List Channel) (l : Strip) (c : Channel) → channels_within ls cs ≡ true → channel_within (get_or ls (length ls - 1) no_strip).length l.length c ≡ true →
    channels_within (ls ++ (l ∷ [])) (cs ++ (c ∷ [])) ≡ true
unfolding channels_within
channels_more [] cs l c h k = impossible h
channels_more (a ∷ []) [] l c h k = rw k
channels_more (a ∷ []) (d ∷ cs) l c h k = impossible h
channels_more (a ∷ b ∷ ls) [] l c h k = impossible h
channels_more (a ∷ b ∷ ls) (d ∷ cs) l c h k =
    let e : suc (suc (length ls)) - 1 ≡ suc (suc (length ls) - 1) = omega arith in
    let k' : channel_within (get_or (b ∷ ls) (suc (length ls) - 1) no_strip).length l.length c ≡ true = rw e at k in
    let r = channels_more (b ∷ ls) cs l c (search ands) k' in search ands

-- what an ADD that is not refused adds
record Adding (k : Stack) (l : ℕ) (ns : List ℕ) : Type 0 where
  pub some : eqb (length k.strips) 0 ≡ false
  pub few : length k.strips < 9
  pub strip_good : strip_within (strip l free) ≡ true
  pub channel_good : channel_within (top_length k) l (channel (pairs_of ns) 0) ≡ true

adding : (k : Stack) (l : ℕ) (ns : List ℕ) → (step_refusal k (add l ns)).number ≡ 0 → Adding k l ns
unfolding step_refusal room_refusal nets_refusal channel_within entry
adding k l ns e =
    let a = or_else_fine (or_else (room_refusal k) (length_refusal l)) (nets_refusal (top_length k) l ns) e in
    let b = or_else_fine (room_refusal k) (length_refusal l) a.0 in
    let c = when_fine (eqb (length k.strips) 0) 12 0 0 _ b.0 in
    let d = when_fine (leb 9 (length k.strips)) 2 0 0 fine c.1 in
    let f = or_else_fine (misplaced 11 0 0 (in_pairs (length ns))) (nets_content (top_length k) l (entry 0 0 ns)) a.1 in
    record {
      some = c.0;
      few = leb-false 9 (length k.strips) d.0;
      strip_good = length_good l b.1;
      channel_good = rw (le-leb 0 64 (omega arith)) (pairs_fine (top_length k) l (entry 0 0 ns) f.1);
    }

add_built : (k : Stack) (l : ℕ) (ns : List ℕ) → Built k → Adding k l ns → Built (taken k (add l ns))
unfolding taken stack nothing top_length
add_built k l ns none_built a = absurd (eqb-false 0 0 a.some refl)
add_built k l ns (strips_built ls cs h g m) a =
    let e = strips_length ls cs g in
    let f = length-append cs (channel (pairs_of ns) 0 ∷ []) in
    strips_built (ls ++ (strip l free ∷ [])) (cs ++ (channel (pairs_of ns) 0 ∷ [])) (strips_more ls l h a.strip_good) (channels_more ls cs (strip l free) (channel (pairs_of ns) 0) g a.channel_good) (few e f a.few)
  where
    few : length ls ≡ suc (length cs) → length (cs ++ (channel (pairs_of ns) 0 ∷ [])) ≡ length cs + 1 → length ls < 9 → length (cs ++ (channel (pairs_of ns) 0 ∷ [])) ≤ 8
    few e f g = omega arith

-- TAKE OFF
strips_less : (ls : List Strip) (n : ℕ) → free_within ls ≡ true → free_within (take n ls) ≡ true
unfolding free_within
strips_less ls zero h = refl
strips_less [] (suc n) h = refl
strips_less (l ∷ ls) (suc n) h = let r = strips_less ls n (search ands) in search ands

channels_less : (ls : List Strip) (cs : List Channel) (m : ℕ) → channels_within ls cs ≡ true → length cs ≡ suc m → channels_within (take (suc m) ls) (take m cs) ≡ true
unfolding channels_within
channels_less [] cs m h e = impossible h
channels_less (a ∷ []) [] m h e = absurd (omega arith)
channels_less (a ∷ []) (c ∷ cs) m h e = impossible h
channels_less (a ∷ b ∷ ls) [] m h e = absurd (omega arith)
channels_less (a ∷ b ∷ ls) (c ∷ cs) zero h e = refl
channels_less (a ∷ b ∷ ls) (c ∷ cs) (suc m) h e = let r = channels_less (b ∷ ls) cs m (search ands) (omega arith) in search ands

off_built : (k : Stack) → Built k → 1 < length k.strips → Built (taken k off)
unfolding taken stack nothing
off_built k none_built h = absurd (omega arith)
off_built k (strips_built ls cs a b c) h =
    let n = strips_length ls cs b in
    let p : length ls - 1 ≡ suc (length cs - 1) = omega arith in
    let q : length cs ≡ suc (length cs - 1) = omega arith in
    let t = length-take-le (length cs - 1) cs (omega arith) in
    rw p (strips_built (take (suc (length cs - 1)) ls) (take (length cs - 1) cs) (strips_less ls (suc (length cs - 1)) a) (channels_less ls cs (length cs - 1) b q) (omega arith))

-- EVERY STEP
taken_built : (k : Stack) (a : Step) → Built k → (step_refusal k a).number ≡ 0 → Built (taken k a)
unfolding step_refusal taken
taken_built k (begin l) b e = single_built l e
taken_built k (add l ns) b e = add_built k l ns b (adding k l ns e)
taken_built k off b e = off_built k b (leb-false (length k.strips) 1 (when_fine (leb (length k.strips) 1) 12 0 0 fine e).0)

left_built : (k : Stack) (a : Step) → Built k → Built (left k a)
unfolding left
left_built k (begin l) b = none_built
left_built k (add l ns) b = b
left_built k off b = b

after_built : (k : Stack) (a : Step) → Built k → Built (after k a)
unfolding after
after_built k a b = go (eqb (step_refusal k a).number 0) refl
  where
    go : (v : Bool) → eqb (step_refusal k a).number 0 ≡ v → Built (cond v (taken k a) (left k a))
    go true e = taken_built k a b (eqb-true (step_refusal k a).number 0 e)
    go false e = left_built k a b

pub made_built : (k : Stack) → Made k → Built k
made_built k made_empty = none_built
made_built k (made_after {k = j} m a) = after_built j a (made_built j m)

-- THE LIMITS
pub built_within : (k : Stack) → Built k → 2 ≤ length k.strips → within_limits k ≡ true
unfolding within_limits stack nothing
built_within k none_built h = absurd (omega arith)
built_within k (strips_built ls cs a b c) h =
    let n = strips_length ls cs b in
    rw (le-leb 1 (length cs) (omega arith), le-leb (length cs) 8 c, all_within ls a) b

free_window : (w : Window) → is_free w ≡ true → w ≡ free
unfolding is_free
free_window free h = refl
free_window (held a e) h = impossible h

single_held : (ls : List Strip) (cs : List Channel) → free_within ls ≡ true → channels_within ls cs ≡ true → length ls < 2 → Held (stack ls cs)
unfolding free_within strip_within channels_within
single_held [] cs a b h = impossible b
single_held (l ∷ []) [] a b h =
    single l.length (leb-true 1 l.length (search ands)) (leb-true l.length 1000 (search ands))
    (ap (λ w. stack (strip l.length w ∷ []) []) (free_window l.window (search ands)))
single_held (l ∷ []) (c ∷ cs) a b h = impossible b
single_held (l ∷ u ∷ ls) cs a b h = absurd (omega arith)

pub built_held : (k : Stack) → Built k → Held k
unfolding stack
built_held k none_built = empty refl
built_held k (strips_built ls cs a b c) = go (leb 2 (length ls)) refl
  where
    go : (v : Bool) → leb 2 (length ls) ≡ v → Held (stack ls cs)
    go true e = stacked (built_within (stack ls cs) (strips_built ls cs a b c) (leb-true 2 (length ls) e))
    go false e = single_held ls cs a b (leb-false 2 (length ls) e)

-- where there is a strip: every channel rises, and there is one strip more than channels
pub built_rising : (k : Stack) → Built k → all_rising k.channels ≡ true
unfolding nothing stack all_rising
built_rising k none_built = refl
built_rising k (strips_built ls cs a b c) = channels_rising ls cs b

pub built_count : (k : Stack) → Built k → (length k.strips ≡ 0 → ⊥) → length k.strips ≡ suc (length k.channels)
unfolding nothing stack
built_count k none_built h = absurd (h refl)
built_count k (strips_built ls cs a b c) h = strips_length ls cs b

pub built_few : (k : Stack) → Built k → length k.channels ≤ 8
unfolding nothing stack
built_few k none_built = omega arith
built_few k (strips_built ls cs a b c) = c
