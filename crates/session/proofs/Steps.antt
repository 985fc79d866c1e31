-- The laws of the steps: what each is refused for, and the session after it. Assumes nothing.
use mathlib.Core.Path.{◌≡◌, refl, ap, sym, ◌∙◌}
use mathlib.Core.Bool.{Bool, true, false, cond}
use mathlib.Core.List.{List, [], ◌∷◌}
use Prim.Native.Nat.{ℕ, ◌+◌}
use lib.Dec.{eqb}
use lib.ListN.{length}
use borrow.Author.Tests.{eqb-true, ne_eqb}
use Rattle.std.specs.Prelude.{Result, Ok, Err, ⊤, IsErr}
use Rattle.std.specs.Result.{result_and}
use Rattle.stack.specs.Stack.{free, Strip, strip, Stack}
use Rattle.stack.specs.Value.{channel_of}
use Rattle.stack.specs.declared.Strip.{Strip as StripStruct}
use Rattle.stack.specs.declared.Terminals.{Terminals}
use Rattle.text.specs.Text.{Refusal, refusal, fine, or_else, in_pairs, misplaced, window_in, strip_in}
use Rattle.text.specs.Outcome.{number_of, refusal_of}
use Rattle.text.specs.declared.Refused.{Refused}
use Rattle.text.proofs.Refusals.{not_fine, word_not_fine, fine_number, number_fine, or_else_fine, first_refused, or_else_then}
use Rattle.reply.proofs.Outcomes.{and_refused}
use Rattle.kinds.specs.Readers.{PartContent, NetsContent, NetsSupplied}
use Rattle.kinds.proofs.Nets.{pairs_even}
use Rattle.session.specs.Session.{nothing, Step, begin, add, room_refusal, top_length, length_refusal, nets_refusal, step_refusal, taken, left, after}
use Rattle.session.specs.Value.{held_of, Stepped, Given, Added}
use Rattle.session.specs.Parts.{session_step, LengthRead, PairsRead, TerminalsRead, topped}
use Rattle.session.specs.declared.Session.{Session}

-- A STEP that is refused leaves what it leaves; one that is not makes what is taken
pub step_refused : (k : Stack) (a : Step) (e : Refused) (s : Session) → refusal (number_of e.why) e.line e.field ≡ step_refusal k a → held_of s ≡ left k a → Stepped k a (session_step (Err e) s)
unfolding after
step_refused k a e s q g =
    record { outcome = q; session = rw (ne_eqb (step_refusal k a).number 0 (λ z. word_not_fine e (rw (← q) at z))) g }

pub step_made : (k : Stack) (a : Step) (s : Session) → fine ≡ step_refusal k a → held_of s ≡ taken k a → Stepped k a (session_step (Ok tt) s)
unfolding after
step_made k a s q m = let z : (step_refusal k a).number ≡ 0 = fine_number (step_refusal k a) q in record { outcome = q; session = rw z m }

-- A LENGTH
pub length_read : (l : ℕ) (r : Result StripStruct Refused) → PartContent 0 (l ∷ []) r → LengthRead l r
unfolding length_refusal strip_in window_in
length_read l (Ok x) c = record { refused = c.outcome; length = ap (λ (y : Strip). y.length) c.strip }
length_read l (Err e) c = record { refused = c.outcome; length = tt }

-- TERMINALS
even_there : (n : ℕ) → (misplaced 11 0 0 (in_pairs n)).number ≡ 0 → in_pairs n ≡ 0
unfolding misplaced fine refusal
even_there n h = go (eqb (in_pairs n) 0) refl h
  where
    go : (v : Bool) → eqb (in_pairs n) 0 ≡ v → (cond v fine (refusal 11 0 (0 + in_pairs n))).number ≡ 0 → in_pairs n ≡ 0
    go true e h = eqb-true (in_pairs n) 0 e
    go false e h = absurd (not_fine 10 0 (0 + in_pairs n) (refusal 11 0 (0 + in_pairs n)) refl h)

module _ (lo hi : ℕ) (vs : List ℕ) (c : ℕ) where
  of_list : (f : Refusal) (ns : List ℕ) → Given ns vs c → f ≡ misplaced 11 0 0 (in_pairs c) → f ≡ misplaced 11 0 0 (in_pairs (length ns))
  of_list f ns g e = e ∙ rw g.count_is

  pub odd_refused : (e : Refused) → refusal (number_of e.why) e.line e.field ≡ misplaced 11 0 0 (in_pairs c) → TerminalsRead lo hi vs c (Err e)
  unfolding nets_refusal
  odd_refused e q ns g = record { refused = first_refused e _ _ (of_list _ ns g q); pairs = tt }

  module _ (q : fine ≡ misplaced 11 0 0 (in_pairs c)) (n : Result Terminals Refused) (s : NetsSupplied lo hi 0 vs c n) where
    supplied : (ns : List ℕ) → Given ns vs c → NetsContent lo hi 0 ns n
    supplied ns g =
        s ns (record { in_place = g.in_place; count_is = g.count_is; even = pairs_even (length ns) (even_there (length ns) (fine_number _ (of_list fine ns g q))) })

    pub nets_read : TerminalsRead lo hi vs c n
    unfolding nets_refusal
    nets_read ns g = record { refused = or_else_then _ _ _ (of_list fine ns g q) (supplied ns g).outcome; pairs = (supplied ns g).pairs }

-- BEGIN
pub begin_refused : (k : Stack) (l : ℕ) (e : Refused) (s : Session) → PartContent 0 (l ∷ []) (Err e) → held_of s ≡ nothing → Stepped k (begin l) (session_step (Err e) s)
unfolding step_refusal left
begin_refused k l e s r h = step_refused k (begin l) e s (length_read l (Err e) r).refused h

pub begin_made : (k : Stack) (l : ℕ) (x : StripStruct) (s : Session) → PartContent 0 (l ∷ []) (Ok x) → held_of s ≡ taken nothing (begin x.length.0) → Stepped k (begin l) (session_step (Ok tt) s)
unfolding step_refusal taken
begin_made k l x s r h = let read = length_read l (Ok x) r in step_made k (begin l) s read.refused (rw read.length at h)

-- ADD: the refusals in their order, where each is asked behind those before it
module _ (u : Session) (l : ℕ) (vs : List ℕ) (c : ℕ) where
  not_added : (ns : List ℕ) (e : Refused) → refusal (number_of e.why) e.line e.field ≡ step_refusal (held_of u) (add l ns) → Stepped (held_of u) (add l ns) (session_step (Err e) u)
  unfolding left
  not_added ns e q = step_refused (held_of u) (add l ns) e u q refl

  pub no_room : (e : Refused) → refusal (number_of e.why) e.line e.field ≡ room_refusal (held_of u) → Added (held_of u) l vs c (session_step (Err e) u)
  unfolding step_refusal
  no_room e q ns g = not_added ns e (first_refused e _ _ (first_refused e _ _ q))

  module _ (roomy : fine ≡ room_refusal (held_of u)) where
    pub no_length : (e : Refused) → LengthRead l (Err e) → Added (held_of u) l vs c (session_step (Err e) u)
    unfolding step_refusal
    no_length e r ns g = not_added ns e (first_refused e _ _ (or_else_then _ _ _ roomy r.refused))

    module _ (x : StripStruct) (r : LengthRead l (Ok x)) (top : ℕ) (t : top ≡ top_length (held_of u)) (q : Result Terminals Refused) (n : TerminalsRead top x.length.0 vs c q) where
      sized : fine ≡ or_else (room_refusal (held_of u)) (length_refusal l)
      sized = or_else_then _ _ _ roomy r.refused

      pairs_read : (ns : List ℕ) → Given ns vs c → PairsRead (top_length (held_of u)) l ns q
      pairs_read ns g = rw (t, r.length) at (n ns g)

      pub no_pairs : (e : Refused) → q ≡ Err e → Added (held_of u) l vs c (session_step (Err e) u)
      unfolding step_refusal
      no_pairs e h ns g =
          let m : PairsRead (top_length (held_of u)) l ns (Err e) = rw h at (pairs_read ns g) in
          not_added ns e (or_else_then _ _ _ sized m.refused)

      pub strip_added : (ts : Terminals) (s : Session) → q ≡ Ok ts → held_of s ≡ topped (held_of u) (strip x.length.0 free) (channel_of ts) → Added (held_of u) l vs c (session_step (Ok tt) s)
      unfolding step_refusal taken
      strip_added ts s h e ns g =
          let m : PairsRead (top_length (held_of u)) l ns (Ok ts) = rw h at (pairs_read ns g) in
          step_made (held_of u) (add l ns) s (or_else_then _ _ _ sized m.refused) (e ∙ rw (r.length, m.pairs))

-- all asked before one is told, as `try_add` asks them: the first that applies
pub outcome_is : {A : Type 0} (a : Result A Refused) (r : Result ⊤ Refused) → r ≡ result_and a (Ok tt) → refusal_of r ≡ refusal_of a
outcome_is (Ok x) r e = rw e
outcome_is (Err x) r e = rw e

module _ (u : Session) (l : ℕ) (vs : List ℕ) (c : ℕ) (room sized wired : Result ⊤ Refused) (top : ℕ) (q : Result Terminals Refused)
    (n : refusal_of room ≡ room_refusal (held_of u)) (z : refusal_of sized ≡ length_refusal l) (t : fine ≡ room_refusal (held_of u) → top ≡ top_length (held_of u))
    (m : TerminalsRead top l vs c q) (w : wired ≡ result_and q (Ok tt)) where
  joined_pairs : fine ≡ room_refusal (held_of u) → (ns : List ℕ) → Given ns vs c → PairsRead (top_length (held_of u)) l ns q
  joined_pairs r ns g = rw (t r) at (m ns g)

  roomy : fine ≡ or_else (room_refusal (held_of u)) (length_refusal l) → fine ≡ room_refusal (held_of u)
  roomy r = sym (number_fine room (ap (λ (x : Refusal). x.number) n ∙ (or_else_fine _ _ (fine_number _ r)).0)) ∙ n

  refused : (ns : List ℕ) → Given ns vs c → refusal_of (result_and (result_and room sized) wired) ≡ step_refusal (held_of u) (add l ns)
  unfolding step_refusal
  refused ns g =
      and_refused (result_and room sized) wired _ _ (and_refused room sized _ _ n (λ _. z)) (λ r. outcome_is q wired w ∙ (joined_pairs (roomy r) ns g).refused)

  pub joined_refused : (o : Result ⊤ Refused) → IsErr o → o ≡ result_and (result_and room sized) wired → (v : Session) → held_of v ≡ held_of u → Added (held_of u) l vs c (session_step o v)
  unfolding left
  joined_refused (Ok x) h e v k ns g = absurd (cc)
  joined_refused (Err x) h e v k ns g = step_refused (held_of u) (add l ns) x v (ap refusal_of e ∙ refused ns g) k

  pub joined_added : Ok tt ≡ result_and (result_and room sized) wired → (ts : Terminals) (s : Session) → q ≡ Ok ts → held_of s ≡ topped (held_of u) (strip l free) (channel_of ts) → Added (held_of u) l vs c (session_step (Ok tt) s)
  unfolding taken
  joined_added e ts s h k ns g =
      let p : PairsRead top l ns (Ok ts) = rw h at (m ns g) in
      step_made (held_of u) (add l ns) s (ap refusal_of e ∙ refused ns g) (k ∙ rw p.pairs)
