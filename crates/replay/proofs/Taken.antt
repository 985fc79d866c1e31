-- A line taken: the struct that each kind of line makes stands for the state that the line tells. Assumes nothing.
use mathlib.Core.Path.{◌≡◌, ap, sym, ◌∙◌}
use mathlib.Core.Logic.{◌⊎◌, inl, inr}
use mathlib.Core.Bool.{Bool, true, false, cond}
use mathlib.Core.List.{List}
use Prim.Native.Nat.{ℕ}
use lib.ListN.{length}
use Rattle.std.specs.Prelude.{Ok, Err, Option, None, Some}
use Rattle.lines.specs.Lines.{Line, numbers_of}
use Rattle.lines.proofs.Fields.{getD_in_places}
use Rattle.text.specs.Outcome.{refusal_of, refused}
use Rattle.text.specs.declared.Refusal.TheVariants.{Layout}
use Rattle.text.specs.declared.Refused.{Refused}
use Rattle.steps.specs.Steps.{step_line}
use Rattle.steps.specs.Parts.{IsStepLineRead}
use Rattle.steps.proofs.Answers.{word_kept}
use Rattle.steps.specs.declared.StepLine.{StepLine}
use Rattle.steps.specs.declared.StepLine.TheVariants.{BeginPart, AddPart, AddNets, Begin, Add, Off}
use Rattle.session.specs.Session.{Step}
use Rattle.session.specs.Value.{held_of, Stepped, Given}
use Rattle.session.specs.declared.SessionStep.{SessionStep}
use Rattle.replay.specs.Replay.{state, stepped, told, line_taken}
use Rattle.replay.specs.Value.{state_of}
use Rattle.replay.specs.declared.Replay.{Replay}

module _ (n : ℕ) (r : Replay) (l : Line) (read : Option StepLine) (vs : List ℕ) (m : IsStepLineRead r.line l read vs) where
  -- a line of any kind
  as_told : (x : Option StepLine) → read ≡ x → (a : Replay) → state_of a ≡ told n (held_of r.session) x (numbers_of l) → state_of a ≡ line_taken n (state_of r) l
  unfolding line_taken state_of state
  as_told x e a s = s ∙ rw (← m.line_is, e)

  -- a line of no step
  pub none_told : read ≡ None → (f : Refused) → f ≡ refused Layout n 0 → state_of (record { session = r.session; outcome = Err f; line = read }) ≡ line_taken n (state_of r) l
  unfolding told state_of
  none_told e f h = as_told None e (record { session = r.session; outcome = Err f; line = read }) (rw (e, h))

  -- a line behind which another is awaited
  abbrev left_as_it_was : Replay
  left_as_it_was = record { session = r.session; outcome = Ok tt; line = read }

  pub awaiting_told : (y : StepLine) → read ≡ Some y → (y ≡ BeginPart) ⊎ ((y ≡ AddPart) ⊎ ((x : ℕ) × (y ≡ AddNets x))) → state_of left_as_it_was ≡ line_taken n (state_of r) l
  unfolding told state_of
  awaiting_told y e (inl h) = as_told (Some BeginPart) (e ∙ ap Some h) left_as_it_was (rw (e, h))
  awaiting_told y e (inr (inl h)) = as_told (Some AddPart) (e ∙ ap Some h) left_as_it_was (rw (e, h))
  awaiting_told y e (inr (inr (x, h))) = as_told (Some (AddNets x)) (e ∙ ap Some h) left_as_it_was (rw (e, h))

  -- a line that makes a step whole
  pub step_told : (y : StepLine) → read ≡ Some y → (b : Step) (p : SessionStep) (a : Replay) → told n (held_of r.session) (Some y) (numbers_of l) ≡ stepped (held_of r.session) b y →
      Stepped (held_of r.session) b p → state_of a ≡ state (held_of p.session) (refusal_of p.outcome) read → state_of a ≡ line_taken n (state_of r) l
  unfolding stepped
  step_told y e b p a t g s = as_told (Some y) e a (s ∙ rw (t, g.session, g.outcome, e))

-- the terminals of ADD, as they stand in places
word_or : (v : Bool) (x : StepLine) (n c : ℕ) (m : ℕ) → cond v (Some x) None ≡ Some (Add n c) → (x ≡ Add n c → c ≡ m) → c ≡ m
word_or true x n c m e f = f cc
word_or false x n c m e f = cc

add_counted : (before : Option StepLine) (l : Line) (n c : ℕ) → step_line before l ≡ Some (Add n c) → c ≡ length (numbers_of l)
unfolding step_line
add_counted None l n c e = absurd (word_kept l n c e)
add_counted (Some BeginPart) l n c e = word_or _ _ n c _ e (λ h. cc)
add_counted (Some AddPart) l n c e = word_or _ _ n c _ e (λ h. cc)
add_counted (Some (AddNets k)) l n c e = word_or _ _ n c _ e (λ h. cc)
add_counted (Some (Begin k)) l n c e = absurd (word_kept l n c e)
add_counted (Some (Add k d)) l n c e = absurd (word_kept l n c e)
add_counted (Some Off) l n c e = absurd (word_kept l n c e)

pub terminals_given : (before : Option StepLine) (l : Line) (read : Option StepLine) (vs : List ℕ) (n c : ℕ) → IsStepLineRead before l read vs →
    read ≡ Some (Add n c) → Given (numbers_of l) vs c
terminals_given before l read vs n c m e =
    record { count_is = add_counted before l n c (sym m.line_is ∙ e); in_place = λ i h k. rw (m.kept n c e) (getD_in_places 64 i (numbers_of l) h) }
