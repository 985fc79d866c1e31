-- The lines of a text replayed: a line of a step is ended, so that the next begins behind its end. Then the laws of the loop: start, step, a line of no step and end.
-- Assumes nothing.
use mathlib.Core.Path.{◌≡◌, refl, ap, sym, ◌∙◌}
use mathlib.Core.Bool.{Bool, true, false, cond}
use mathlib.Core.List.{List, [], ◌∷◌}
use Prim.Native.Nat.{ℕ, suc, ◌+◌, ◌≤◌, ◌<◌}
use native.Mathlib.Numerals.{add-one}
use native.Mathlib.Nat.{add_assoc}
use native.Mathlib.Omega.{arith}
use lib.ListN.{length, drop, length-drop, drop_of_length-le}
use borrow.Author.Tests.{eqb-true, lt-ltb, le-ltb}
use Rattle.lines.specs.Lines.{Line, lines, line_at, numbers_of}
use Rattle.lines.specs.Cut.{line_from}
use Rattle.lines.proofs.Cutting.{lines_some}
use Rattle.lines.proofs.Places.{line_within, next_there}
use Rattle.stack.specs.Stack.{Stack}
use Rattle.text.specs.Text.{Kind, layout}
use Rattle.std.specs.Prelude.{Err, Option, None, Some, is_some}
use Rattle.text.specs.Outcome.{refused}
use Rattle.text.specs.declared.Refusal.TheVariants.{Overlong}
use Rattle.text.specs.declared.Refused.{Refused}
use Rattle.text.proofs.Layouts.{layout_ended}
use Rattle.steps.specs.Steps.{length_kind, list_kind, is_line, word_line, length_in, step_line}
use Rattle.steps.specs.declared.StepLine.{StepLine}
use Rattle.steps.specs.declared.StepLine.TheVariants.{BeginPart, AddPart, AddNets, Begin, Add, Off}
use Rattle.session.specs.Session.{nothing, Made}
use Rattle.session.specs.Value.{held_of}
use Rattle.session.specs.declared.Session.{Session}
use Rattle.replay.specs.Replay.{State, state, stepped, told, line_taken, replay, replayed, ReplayedMade}
use Rattle.replay.specs.Value.{state_of}
use Rattle.replay.specs.Parts.{Replaying}
use Rattle.replay.specs.declared.Replay.{Replay}
use Rattle.replay.proofs.Made.{replayed_made}

-- A LINE OF A STEP IS ENDED
good_step : (v : Bool) (x : StepLine) → is_some (cond v (Some x) None) ≡ true → v ≡ true
good_step true x h = refl
good_step false x h = cc

when_ended : (v : Bool) (x : Option StepLine) → is_some (cond v x None) ≡ true → v ≡ true
when_ended true x h = refl
when_ended false x h = cc

word_ended : (l : Line) → is_some (word_line l) ≡ true → l.ended ≡ true
unfolding word_line
word_ended l h = when_ended l.ended _ h

kind_ended : (K : Kind) (l : Line) (x : StepLine) → is_some (cond (is_line K l) (Some x) None) ≡ true → l.ended ≡ true
unfolding is_line
kind_ended K l x h = layout_ended K 0 l (eqb-true (layout K 0 l).number 0 (good_step (is_line K l) x h))

step_ended : (before : Option StepLine) (l : Line) → is_some (step_line before l) ≡ true → l.ended ≡ true
unfolding step_line
step_ended None l h = word_ended l h
step_ended (Some BeginPart) l h = kind_ended length_kind l (Begin (length_in l)) h
step_ended (Some AddPart) l h = kind_ended length_kind l (AddNets (length_in l)) h
step_ended (Some (AddNets n)) l h = kind_ended list_kind l (Add n (length (numbers_of l))) h
step_ended (Some (Begin n)) l h = word_ended l h
step_ended (Some (Add n c)) l h = word_ended l h
step_ended (Some Off) l h = word_ended l h

told_line : (n : ℕ) (k : Stack) (x : Option StepLine) (ns : List ℕ) → (told n k x ns).line ≡ x
unfolding told stepped state
told_line n k None ns = refl
told_line n k (Some BeginPart) ns = refl
told_line n k (Some AddPart) ns = refl
told_line n k (Some (AddNets l)) ns = refl
told_line n k (Some (Begin l)) ns = refl
told_line n k (Some (Add l c)) ns = refl
told_line n k (Some Off) ns = refl

taken_ended : (n : ℕ) (r : State) (l : Line) → is_some (line_taken n r l).line ≡ true → l.ended ≡ true
unfolding line_taken
taken_ended n r l h = step_ended r.line l (rw (told_line n r.held (step_line r.line l) (numbers_of l)) at h)

-- THE REPLAY of lines that are some goes by the first of them
first_replayed : (n : ℕ) (r : State) (ls : List Line) → 0 < length ls →
    replay n r ls
    ≡ cond (is_some (line_taken n r (line_at ls 0)).line) (replay (suc n) (line_taken n r (line_at ls 0)) (drop 1 ls)) (line_taken n r (line_at ls 0))
unfolding replay line_at
first_replayed n r [] h = absurd (omega arith)
first_replayed n r (l ∷ ls) h = refl

-- THE ANSWER: the text replayed, and steps have made what is held then
answered : (bs : List ℕ) (r : Replay) → state_of r ≡ replayed bs → (state_of r ≡ replayed bs) × Made (held_of r.session)
unfolding state_of state ReplayedMade
answered bs r e = (e, rw (ap (λ (x : State). x.held) e) (replayed_made bs))

-- too long a text
pub overlong_answered : (bs : List ℕ) (s : Session) (e : Refused) → 8192 < length bs → held_of s ≡ nothing → e ≡ refused Overlong 0 0 →
    (state_of (record { session = s; outcome = Err e; line = None }) ≡ replayed bs) × Made (held_of s)
unfolding replayed state_of
overlong_answered bs s e h q g = answered bs (record { session = s; outcome = Err e; line = None }) (rw (lt-ltb 8192 (length bs) h, q, g))

-- THE LOOP
module _ (bs : List ℕ) (at n : ℕ) (r : Replay) (m : Replaying bs at n r) where
  replaying_answered : (a : Replay) → state_of a ≡ replay n (state_of r) (lines (drop at bs)) → (state_of a ≡ replayed bs) × Made (held_of a.session)
  unfolding replayed
  replaying_answered a e = answered bs a (e ∙ sym m.rest ∙ rw (le-ltb 8192 (length bs) m.short))

  pub replaying_ends : (a : Replay) → length bs ≤ at → state_of a ≡ replay n (state_of r) [] → (state_of a ≡ replayed bs) × Made (held_of a.session)
  unfolding lines
  replaying_ends a h e = replaying_answered a (e ∙ rw (drop_of_length-le bs {i = at} h))

  pub line_short : at < length bs → (b : List ℕ) → length b ≡ length (line_from bs at).bytes → length b ≤ 8192
  line_short h b e = omega (arith, m.short, line_within bs at (omega arith))

  module _ (a : Replay) (h : at < length bs) (s : state_of a ≡ line_taken n (state_of r) (line_from bs at)) where
    here : at ≤ length bs
    here = omega arith

    replayed_there : replay n (state_of r) (lines (drop at bs)) ≡ cond (is_some a.line) (replay (suc n) (state_of a) (drop 1 (lines (drop at bs)))) (state_of a)
    unfolding state_of state line_from
    replayed_there =
        first_replayed n (state_of r) (lines (drop at bs)) (lines_some (drop at bs) (omega (arith, length-drop at bs))) ∙ rw (← s)

    pub replaying_stops : is_some a.line ≡ false → (state_of a ≡ replayed bs) × Made (held_of a.session)
    replaying_stops z = replaying_answered a (sym (replayed_there ∙ rw z))

    pub replaying_steps : is_some a.line ≡ true → (b : List ℕ) → length b ≡ length (line_from bs at).bytes → Replaying bs (at + (length b + 1)) (n + 1) a
    unfolding state_of state
    replaying_steps z b e =
        let same : a.line ≡ (line_taken n (state_of r) (line_from bs at)).line = ap (λ (x : State). x.line) s in
        let next = next_there bs at here (taken_ended n (state_of r) (line_from bs at) (rw same at z)) in
        record {
          short = m.short;
          few = omega (arith, m.few);
          rest = rw (e, ← add_assoc at (length (line_from bs at).bytes) 1) (m.rest ∙ replayed_there ∙ rw (z, next.rest, add-one n));
        }
