-- The laws of try_placement: a refused text, and the verdict. Assumes nothing.
use mathlib.Core.Path.{◌≡◌, ◌∙◌}
use mathlib.Core.Bool.{Bool}
use mathlib.Core.List.{List}
use Prim.Native.Nat.{ℕ}
use borrow.Author.Tests.{ne_eqb}
use Rattle.std.specs.Prelude.{Ok, Err}
use Rattle.stack.specs.Value.{stack_of}
use Rattle.stack.specs.declared.Stack.{Stack as StackStruct}
use Rattle.text.specs.Text.{refusal, text_refusal}
use Rattle.text.specs.Outcome.{number_of}
use Rattle.text.specs.declared.Refused.{Refused}
use Rattle.text.proofs.Refusals.{word_not_fine, fine_number}
use Rattle.trial.specs.Legal.{is_legal}
use Rattle.nabetsu.specs.Entry.{TrialSays}
use Rattle.reading.specs.Driver.{StackRead}

module _ (bs : List ℕ) (s : ℕ) (ts xs : List ℕ) where
  pub trial_refused : (e : Refused) → refusal (number_of e.why) e.line e.field ≡ text_refusal bs → TrialSays bs s ts xs (Err e)
  unfolding TrialSays
  trial_refused e q = (q, rw (ne_eqb (text_refusal bs).number 0 (λ z. word_not_fine e (rw (← q) at z))))

  pub trial_verdict : (k : StackStruct) (v : Bool) → StackRead bs (Ok k) → v ≡ is_legal (stack_of k) s ts xs → TrialSays bs s ts xs (Ok v)
  unfolding TrialSays
  trial_verdict k v t e = (t.outcome, e ∙ rw (t.stack, fine_number (text_refusal bs) t.outcome))
