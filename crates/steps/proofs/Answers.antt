-- What the readers of PART, of NETS and of a line behind another answer is what the lines of steps say, case by case of the line before. Assumes nothing.
use mathlib.Core.Path.{◌≡◌}
use mathlib.Core.Bool.{Bool, true, false, cond}
use mathlib.Core.List.{List}
use Prim.Native.Nat.{ℕ, ◌≤◌, ◌<◌}
use native.Mathlib.Omega.{arith}
use lib.ListN.{length, get_or}
use borrow.Author.Tests.{ne_eqb}
use Rattle.std.specs.Prelude.{None, Some, Result, Ok, Err}
use Rattle.std.specs.Result.{result_ok}
use Rattle.lines.specs.Lines.{Line, line, same_bytes, numbers_of}
use Rattle.lines.specs.Numbers.{in_places}
use Rattle.lines.proofs.Fields.{numbers_count, numbers_few}
use Rattle.text.specs.Text.{refusal, fine, nets_word, part_word, Kind, kind, layout, exactly}
use Rattle.text.specs.Outcome.{number_of}
use Rattle.text.specs.Kinds.{IsKindRead}
use Rattle.text.specs.declared.Refused.{Refused}
use Rattle.text.proofs.Refusals.{word_not_fine}
use Rattle.text.proofs.Layouts.{number_kept}
use Rattle.steps.specs.Steps.{begin_word, add_word, off_word, length_kind, list_kind, is_line, word_line, length_in}
use Rattle.steps.specs.declared.StepLine.TheVariants.{BeginPart, AddPart, Add, Off}

-- A LINE OF A KIND is one whose layout is good
good_line : (K : Kind) (l : Line) → fine ≡ layout K 0 l → is_line K l ≡ true
unfolding is_line fine refusal
good_line K l e = rw (← e)

no_line : (K : Kind) (l : Line) (x : Refused) → refusal (number_of x.why) x.line x.field ≡ layout K 0 l → is_line K l ≡ false
unfolding is_line
no_line K l x e = rw (← e, ne_eqb _ 0 (word_not_fine x))

module _ (l : Line) (vs : List ℕ) where
  pub part_ill : (r : Result ℕ Refused) → IsKindRead part_word (λ n. exactly 1 n) 0 l r vs → None ≡ result_ok r → None ≡ cond (is_line length_kind l) (Some (length_in l)) None
  unfolding length_kind kind
  part_ill (Ok n) m e = cc
  part_ill (Err x) m e = rw (no_line length_kind l x (m.layout length_kind.content))

  pub part_told : (r : Result ℕ Refused) (n : ℕ) → IsKindRead part_word (λ n. exactly 1 n) 0 l r vs → Some n ≡ result_ok r →
      Some (get_or vs 0 0) ≡ cond (is_line length_kind l) (Some (length_in l)) None
  unfolding length_kind kind length_in
  part_told (Ok k) n m e = rw (good_line length_kind l (m.layout length_kind.content), number_kept length_kind 0 l vs k m 0 (omega arith))
  part_told (Err x) n m e = cc

  pub list_ill : (r : Result ℕ Refused) → IsKindRead nets_word (λ n. 0) 0 l r vs → None ≡ result_ok r → None ≡ cond (is_line list_kind l) (Some (length (numbers_of l))) None
  unfolding list_kind kind
  list_ill (Ok n) m e = cc
  list_ill (Err x) m e = rw (no_line list_kind l x (m.layout list_kind.content))

  pub list_told : (r : Result ℕ Refused) (n : ℕ) → IsKindRead nets_word (λ n. 0) 0 l r vs → Some n ≡ result_ok r → Some n ≡ cond (is_line list_kind l) (Some (length (numbers_of l))) None
  unfolding list_kind kind
  list_told (Ok k) n m e = rw (good_line list_kind l (m.layout list_kind.content), ← m.count) e
  list_told (Err x) n m e = cc

  pub list_kept : (r : Result ℕ Refused) (n : ℕ) → IsKindRead nets_word (λ n. 0) 0 l r vs → Some n ≡ result_ok r → vs ≡ in_places 64 (numbers_of l)
  list_kept (Ok k) n m e = m.kept
  list_kept (Err x) n m e = cc

  list_length : (r : Result ℕ Refused) (n : ℕ) → IsKindRead nets_word (λ n. 0) 0 l r vs → Some n ≡ result_ok r → n ≡ length (numbers_of l)
  list_length (Ok k) n m e = let same : n ≡ k = cc in omega (arith, m.count)
  list_length (Err x) n m e = cc

-- a line is too short for a count that does not fit 16 bits
pub list_fits : (bs : List ℕ) (ended : Bool) (vs : List ℕ) (r : Result ℕ Refused) (n : ℕ) → length bs ≤ 8192 → IsKindRead nets_word (λ n. 0) 0 (line bs ended) r vs → Some n ≡ result_ok r → n < 65536
list_fits bs ended vs r n few m e = omega (arith, list_length (line bs ended) vs r n m e, numbers_count (line bs ended), numbers_few bs ended)

-- no word alone makes Add whole
pub word_kept : (l : Line) (n c : ℕ) → word_line l ≡ Some (Add n c) → ⊥
unfolding word_line
word_kept l n c = go l.ended (same_bytes l.bytes begin_word) (same_bytes l.bytes add_word) (same_bytes l.bytes off_word)
  where
    go : (e b a o : Bool) → cond e (cond b (Some BeginPart) (cond a (Some AddPart) (cond o (Some Off) None))) None ≡ Some (Add n c) → ⊥
    go true true a o h = cc
    go true false true o h = cc
    go true false false true h = cc
    go true false false false h = cc
    go false b a o h = cc
