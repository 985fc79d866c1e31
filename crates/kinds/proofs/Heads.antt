-- STACK: what the reader answers is what document 01 says of the line, case by case of the test that the code makes. Assumes nothing.
use mathlib.Core.Path.{◌≡◌, refl, sym, ◌∙◌}
use mathlib.Core.List.{List, [], ◌∷◌}
use Prim.Native.Nat.{ℕ}
use native.Mathlib.Omega.{arith}
use lib.ListN.{get_or}
use Rattle.std.specs.Prelude.{Option, ok_or, None, Some, Result, Ok, Err}
use Rattle.lines.specs.Lines.{Line, line_at, numbers_of}
use Rattle.stack.specs.Made.{IsStackMade}
use Rattle.stack.specs.declared.Stack.{Stack}
use Rattle.text.specs.Text.{stack_word, entry, first_of, fault_at, kind, exactly, stack_content, stack_kind, check, supplied, line_check, k_of, head_refusal}
use Rattle.text.specs.Outcome.{refused}
use Rattle.text.specs.Kinds.{IsKindRead, kind_refusal}
use Rattle.text.specs.declared.Refused.{Refused}
use Rattle.text.specs.declared.Refusal.TheVariants as why
use Rattle.kinds.specs.Readers.{HeadContent, HeadRead}
use Rattle.text.proofs.Layouts.{layout_refused, layout_then, number_kept}

-- STACK: its content, and then the line
head_content : (k : ℕ) (o : Option Stack) → IsStackMade k o → HeadContent k (ok_or o (refused why.Crowd 1 2))
unfolding stack_content first_of entry fault_at
head_content k None h = record { outcome = rw (← h.found); count = tt; bare = tt }
head_content k (Some s) h = record { outcome = rw (← h.found); count = h.count; bare = h.bare }

head_is : (l : Line) → head_refusal (l ∷ []) ≡ kind_refusal stack_kind 1 l
unfolding head_refusal kind_refusal line_check check supplied line_at
head_is l = refl

-- the content of a line's numbers is that of the first
head_by_first : (l : Line) → stack_content (entry 1 0 (k_of (l ∷ []) ∷ [])) ≡ stack_content (entry 1 0 (numbers_of l))
unfolding stack_content first_of entry fault_at k_of line_at
head_by_first l = refl

module _ (l : Line) (vs : List ℕ) where
  pub head_ill : (x : Refused) → IsKindRead stack_word (λ n. exactly 1 n) 1 l (Err x) vs → HeadRead l (Err x)
  unfolding stack_kind kind
  head_ill x m = record { outcome = layout_refused stack_kind 1 l vs x m ∙ sym (head_is l); count = tt; bare = tt }

  pub head_there : (n : ℕ) → IsKindRead stack_word (λ n. exactly 1 n) 1 l (Ok n) vs → (o : Option Stack) (q : Result Stack Refused) → IsStackMade (get_or vs 0 0) o → q ≡ ok_or o (refused why.Crowd 1 2) → HeadRead l q
  unfolding k_of line_at stack_kind kind
  head_there n m o q h e =
      let first : get_or vs 0 0 ≡ k_of (l ∷ []) = number_kept stack_kind 1 l vs n m 0 (omega arith) in
      let here : HeadContent (k_of (l ∷ [])) q = rw (← first, e) (head_content (get_or vs 0 0) o h) in
      record { outcome = here.outcome ∙ (head_by_first l ∙ sym (head_is l ∙ layout_then stack_kind 1 l vs n m)); count = here.count; bare = here.bare }
