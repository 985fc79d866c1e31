-- The answer for a spread, as the code gives it, is the row of that spread. Assumes nothing.
use mathlib.Core.Path.{◌≡◌, sym, ap, ap₂, ◌∙◌}
use mathlib.Core.Bool.{true}
use Prim.Native.Nat.{ℕ, suc, ◌≤◌}
use lib.ListN.{length, take}
use Rattle.numbers.proofs.Lists.{padded_take}
use Rattle.stack.specs.Stack.{row, sum, first_spread}
use Rattle.stack.specs.Limits.{within_limits}
use Rattle.stack.specs.Value.{stack_of, tracks_of}
use Rattle.stack.specs.declared.Stack.{Stack as StackStruct}
use Rattle.stack.proofs.Within.{stack_channels, strips_count, few_channels}
use Rattle.stack.specs.declared.Placement.{Placement}
use Rattle.answer.specs.Solve.{answer_separations, answer_positions}
use Rattle.answer.specs.Arrays.{AnswerIs}
use Rattle.answer.proofs.Alone.{legal_lengths}
use Rattle.answer.proofs.Answers.{answer_there, answer_sum}
use Rattle.rows.specs.Walk.{row_at}
use Rattle.writing.specs.Output.{row_of, RowAsks}

module _ (k : StackStruct) (s : ℕ) (p : Placement) (good : within_limits (stack_of k) ≡ true) (wide : first_spread (stack_of k).strips ≤ s) (a : AnswerIs (stack_of k) s p) where
  lengths : (length (answer_separations (stack_of k) s) ≡ k.count) × (length (answer_positions (stack_of k) s) ≡ suc k.count)
  lengths =
      let l = legal_lengths (stack_of k) s (answer_separations (stack_of k) s) (answer_positions (stack_of k) s) (answer_there (stack_of k) s good wide).is_legal in
      (l.0 ∙ stack_channels k, l.1 ∙ (strips_count (stack_of k) good ∙ ap suc (stack_channels k)))

  used : take k.count (tracks_of p.separations) ≡ answer_separations (stack_of k) s
  used = ap (take k.count) a.separations_are ∙ padded_take 8 k.count (answer_separations (stack_of k) s) lengths.0

  pub placed_row_asks : RowAsks k.count p.total.0 p.separations
  placed_row_asks = record { channels = few_channels k good; added = a.total_is ∙ (sym (answer_sum (stack_of k) s good wide) ∙ ap sum (sym used)) }

  pub placed_row : row_of k.count s p.separations p.positions ≡ row_at (stack_of k) s
  unfolding row_of row_at
  placed_row =
      ap₂ (row s) used (ap (take (suc k.count)) a.positions_are ∙ padded_take 9 (suc k.count) (answer_positions (stack_of k) s) lengths.1)
