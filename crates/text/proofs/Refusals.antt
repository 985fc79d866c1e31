-- Laws of refusals, the first that applies: when it is none, when it is the first of two, and one by one through lines. Then the refusal of a result.
-- Assumes nothing.
use mathlib.Core.Path.{◌≡◌, refl, ap, sym, ◌∙◌}
use mathlib.Core.Bool.{Bool, true, false, cond}
use mathlib.Core.List.{List, [], ◌∷◌, ◌++◌}
use Prim.Native.Nat.{ℕ, suc}
use native.Mathlib.Omega.{arith}
use lib.Dec.{eqb}
use borrow.Author.Tests.{eqb-true, eqb-false, ne_eqb}
use Rattle.text.specs.Text.{Refusal, refusal, fine, or_else, Check, in_turn}
use Rattle.std.specs.Prelude.{Result, Ok, Err, IsErrAnd}
use Rattle.std.proofs.lemmas.Result.{err_from_is_err_and}
use Rattle.text.specs.Outcome.{number_of, refusal_of}
use Rattle.text.specs.Kinds.{line_refusal}
use Rattle.text.specs.declared.Refusal.{Refusal as Why}
use Rattle.text.specs.declared.Refusal.TheVariants.{Overlong, Layout, Crowd, Length, Overhang, Crossing, Narrow, ShortSpace, Broad, Unmet, Count, IllFormed, Empty, Inverted}
use Rattle.text.specs.declared.Refused.{Refused as RefusedStruct}

-- NOTHING IS REFUSED if no test refuses
pub or_else_fine : (a b : Refusal) → (or_else a b).number ≡ 0 → (a.number ≡ 0) × (b.number ≡ 0)
unfolding or_else
or_else_fine a b h = go (eqb a.number 0) refl h
  where
    go : (v : Bool) → eqb a.number 0 ≡ v → (cond v b a).number ≡ 0 → (a.number ≡ 0) × (b.number ≡ 0)
    go true e h = (eqb-true a.number 0 e, h)
    go false e h = absurd (eqb-false a.number 0 e h)

pub when_fine : (v : Bool) (n l f : ℕ) (r : Refusal) → (cond v (refusal (suc n) l f) r).number ≡ 0 → (v ≡ false) × (r.number ≡ 0)
unfolding refusal
when_fine true n l f r h = absurd (omega arith)
when_fine false n l f r h = (refl, h)

pub unless_fine : (v : Bool) (n l f : ℕ) (r : Refusal) → (cond v r (refusal (suc n) l f)).number ≡ 0 → (v ≡ true) × (r.number ≡ 0)
unfolding refusal
unless_fine true n l f r h = (refl, h)
unless_fine false n l f r h = absurd (omega arith)

pub only_fine : (v : Bool) (n l f : ℕ) → (cond v fine (refusal (suc n) l f)).number ≡ 0 → v ≡ true
only_fine v n l f h = (unless_fine v n l f fine h).0

-- a refusal is not nothing
pub not_fine : (n l f : ℕ) (r : Refusal) → r ≡ refusal (suc n) l f → r.number ≡ 0 → ⊥
unfolding refusal
not_fine n l f r e z =
    let s : r.number ≡ suc n = ap (λ (x : Refusal). x.number) e in
    omega arith

-- THE FIRST that applies
pub or_else_refused : (a b : Refusal) → (a.number ≡ 0 → ⊥) → or_else a b ≡ a
unfolding or_else
or_else_refused a b h = rw (ne_eqb a.number 0 h)

pub or_else_next : (a b : Refusal) → a ≡ fine → or_else a b ≡ b
unfolding or_else fine refusal
or_else_next a b h = rw h

pub or_else_assoc : (a b c : Refusal) → or_else a (or_else b c) ≡ or_else (or_else a b) c
unfolding or_else
or_else_assoc a b c = go (eqb a.number 0) refl
  where
    go : (v : Bool) → eqb a.number 0 ≡ v →
        cond v (cond (eqb b.number 0) c b) a ≡ cond (eqb (cond v b a).number 0) c (cond v b a)
    go true e = refl
    go false e = rw e

pub in_turn_append : (xs ys : List Check) → in_turn (xs ++ ys) ≡ or_else (in_turn xs) (in_turn ys)
unfolding in_turn or_else fine refusal
in_turn_append [] ys = refl
in_turn_append (x ∷ xs) ys =
    ap (λ r. or_else (line_refusal x) r) (in_turn_append xs ys) ∙ or_else_assoc (line_refusal x) (in_turn xs) (in_turn ys)

-- THE REFUSAL OF A RESULT: no word has number 0
word_number : (w : Why) → number_of w ≡ 0 → ⊥
word_number Overlong h = omega arith
word_number Layout h = omega arith
word_number Crowd h = omega arith
word_number Length h = omega arith
word_number Overhang h = omega arith
word_number Crossing h = omega arith
word_number Narrow h = omega arith
word_number ShortSpace h = omega arith
word_number Broad h = omega arith
word_number Unmet h = omega arith
word_number Count h = omega arith
word_number IllFormed h = omega arith
word_number Empty h = omega arith
word_number Inverted h = omega arith

pub number_fine : {A : Type 0} (o : Result A RefusedStruct) → (refusal_of o).number ≡ 0 → refusal_of o ≡ fine
unfolding refusal fine
number_fine (Ok a) z = refl
number_fine (Err r) z = absurd (word_number r.why z)

pub or_else_none : {A : Type 0} (o : Result A RefusedStruct) (f : Refusal) → refusal_of o ≡ f → f ≡ or_else f fine
unfolding or_else
or_else_none o f e = go (eqb f.number 0) refl
  where
    go : (v : Bool) → eqb f.number 0 ≡ v → f ≡ cond v fine f
    go true q = sym e ∙ number_fine o (rw e (eqb-true f.number 0 q))
    go false q = refl

-- no refusal of a line, a field and a word has number 0
pub word_not_fine : (r : RefusedStruct) → (refusal (number_of r.why) r.line r.field).number ≡ 0 → ⊥
unfolding refusal
word_not_fine r z = word_number r.why z

pub fine_number : (f : Refusal) → fine ≡ f → f.number ≡ 0
unfolding fine refusal
fine_number f e = ap (λ (x : Refusal). x.number) (sym e)

-- what leaves by `?` is what was refused
pub exit_is : {A : Type 0} (r : Result A RefusedStruct) (e : RefusedStruct) → IsErrAnd r (λ d. d ≡ e) → r ≡ Err e
exit_is r e x = let p = err_from_is_err_and r x in rw (p.1, p.2)

pub first_refused : (e : RefusedStruct) (f g : Refusal) → refusal (number_of e.why) e.line e.field ≡ f → refusal (number_of e.why) e.line e.field ≡ or_else f g
first_refused e f g q = q ∙ sym (or_else_refused f g (λ z. word_not_fine e (rw (← q) at z)))

-- a test that is not the first counts where the first refuses nothing
pub or_else_then : (a b c : Refusal) → fine ≡ a → c ≡ b → c ≡ or_else a b
or_else_then a b c h e = e ∙ sym (or_else_next a b (sym h))
