-- What is printed of a session's step: its refusal, the spread's, or the row. Assumes nothing.
use mathlib.Core.Path.{◌≡◌, refl, sym}
use mathlib.Core.List.{List}
use Prim.Native.Nat.{ℕ, zero, suc, ◌-◌, ◌≤◌}
use native.Mathlib.Omega.{arith}
use lib.ListN.{length}
use Rattle.std.specs.Prelude.{Result, Ok, Err}
use Rattle.stack.specs.Stack.{Stack}
use Rattle.stack.specs.declared.Tracks.{Tracks}
use Rattle.text.specs.Text.{Refusal, refusal, fine, or_else}
use Rattle.text.specs.Outcome.{number_of, refusal_of}
use Rattle.text.specs.declared.Refused.{Refused}
use Rattle.text.proofs.Refusals.{first_refused, or_else_then, or_else_next}
use Rattle.writing.specs.TableText.{row_text}
use Rattle.writing.specs.Output.{line_bytes, LinePut, row_of, RowAsks}
use Rattle.stack.specs.declared.Placement.{Placement}
use Rattle.spread.specs.Answers.{PlacementResult, total_told, Totalled}
use Rattle.spread.specs.Best.{AnsweredOr}
use Rattle.spread.proofs.Both.{both_of}
use Rattle.session.specs.Session.{Made, session_refusal, SessionTotalSays, SessionPlacementSays}
use Rattle.session.specs.Value.{held_of}
use Rattle.session.specs.declared.Session.{Session}
use Rattle.session.proofs.Values.{strips_long, channels_long}
use Rattle.session.proofs.Made.{made_built, built_few}
use Rattle.session.proofs.Spreads.{some_strip}
use Rattle.commands.specs.Output.{StepPrinted}
use Rattle.commands.specs.Parts.{Concluded, StepPut}
use Rattle.commands.specs.declared.Reply.{Reply}
use Rattle.commands.proofs.Printing.{line_replied, placed_row, answered_outcome, answered_refused}

-- WHAT IS REFUSED of the step or of the spread
unput : (f : Refusal) (k : Stack) (s : ℕ) (o x : List ℕ) (e : Refused) → refusal (number_of e.why) e.line e.field ≡ or_else f (session_refusal k s) → StepPut f k s o x (Err e)
unput f k s o x e q = record { answer = Err e; says = answered_refused (or_else f (session_refusal k s)) k s e q; line = record { refused = q; put = tt } }

pub step_refused : (f : Refusal) (k : Stack) (s : ℕ) (o x : List ℕ) (e : Refused) → refusal (number_of e.why) e.line e.field ≡ f → StepPut f k s o x (Err e)
step_refused f k s o x e q = unput f k s o x e (first_refused e f (session_refusal k s) q)

module _ (f : Refusal) (k : Stack) (s : ℕ) (good : fine ≡ f) where
  pub total_refused : (o x : List ℕ) (e : Refused) → SessionTotalSays k s (Err e) → StepPut f k s o x (Err e)
  unfolding SessionTotalSays Totalled total_told
  total_refused o x e says = unput f k s o x e (or_else_then f (session_refusal k s) _ good (from (session_refusal k s).number says))
    where
      from : (m : ℕ) → Totalled m (session_refusal k s) k s (Err e) → refusal (number_of e.why) e.line e.field ≡ session_refusal k s
      from zero t = t.2.0
      from (suc m) t = t.0

  -- THE SPREAD ANSWERED
  module _ (t : Tracks) (total : SessionTotalSays k s (Ok t)) where
    both : (p : PlacementResult) → SessionPlacementSays k s t.0 p → AnsweredOr (session_refusal k s) k s p
    unfolding SessionTotalSays SessionPlacementSays
    both p place = both_of (session_refusal k s).number (session_refusal k s) k s (Ok t) p refl total place

    pub outcome_is : (p : PlacementResult) → SessionPlacementSays k s t.0 p → refusal_of p ≡ session_refusal k s
    outcome_is p place = answered_outcome (session_refusal k s).number (session_refusal k s) k s p (both p place)

    pub place_refused : (o x : List ℕ) (e : Refused) → SessionPlacementSays k s t.0 (Err e) → StepPut f k s o x (Err e)
    place_refused o x e place = unput f k s o x e (or_else_then f (session_refusal k s) _ good (outcome_is (Err e) place))

    pub row_put : (p : Placement) → SessionPlacementSays k s t.0 (Ok p) → (o x : List ℕ) (n : ℕ) → LinePut (row_text (row_of (length k.channels) s p.separations p.positions)) o x n →
        StepPut f k s o x (Ok n)
    row_put p place o x n put =
        record {
          answer = Ok p;
          says = rw (or_else_next f (session_refusal k s) (sym good)) (both (Ok p) place);
          line = record { refused = or_else_then f (session_refusal k s) _ good (outcome_is (Ok p) place); put = put };
        }

pub step_printed : (f : Refusal) (k : Stack) (s : ℕ) (o x out : List ℕ) (a : Result ℕ Refused) (r : Reply) → line_bytes ≤ length o → StepPut f k s o x a → Concluded a x out r → StepPrinted f k s out r
step_printed f k s o x out a r h p c = record { answer = p.answer; says = p.says; printed = line_replied _ _ o x out a r h p.line c }

-- THE ROW of a session
pub step_put : (n : Session) (f : Refusal) (s : ℕ) (good : fine ≡ f) (t : Tracks) (total : SessionTotalSays (held_of n) s (Ok t)) (p : Placement) (place : SessionPlacementSays (held_of n) s t.0 (Ok p))
    (o x : List ℕ) (m : ℕ) → LinePut (row_text (row_of (n.count - 1) s p.separations p.positions)) o x m → StepPut f (held_of n) s o x (Ok m)
step_put n f s good t total p place o x m put = row_put f (held_of n) s good t total p place o x m (rw (← channels_long n) at put)

module _ (n : Session) (s v : ℕ) (p : Placement) (place : SessionPlacementSays (held_of n) s v (Ok p)) where
  pub strip_there : 1 ≤ n.count
  unfolding SessionPlacementSays
  strip_there =
      let none = (placed_row (session_refusal (held_of n) s) (held_of n) s v p place).none_refused in
      omega (arith, some_strip (held_of n) s none, strips_long n)

  pub step_asked : Made (held_of n) → RowAsks (n.count - 1) p.total.0 p.separations
  unfolding SessionPlacementSays
  step_asked m =
      let row = placed_row (session_refusal (held_of n) s) (held_of n) s v p place in
      record {
        channels = omega (arith, channels_long n, built_few (held_of n) (made_built (held_of n) m));
        added = rw (← channels_long n) row.added;
      }
