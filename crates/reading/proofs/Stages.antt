-- The loops over the lines of a kind: start, step, refusal and end, whatever the kind. What is refused of all the lines is what is refused from the present line
-- on. Assumes nothing.
use mathlib.Core.Path.{◌≡◌, sym, ◌∙◌}
use mathlib.Core.List.{List}
use Prim.Native.Nat.{ℕ, suc, ◌+◌, ◌-◌, ◌≤◌, ◌<◌}
use native.Mathlib.Nat.{add-zero, sub-zero}
use native.Mathlib.Numerals.{add-one}
use native.Mathlib.Omega.{arith}
use Rattle.std.specs.Prelude.{Ok, Err, ⊤}
use Rattle.numbers.specs.Lists.{tabulate}
use Rattle.stack.specs.Stack.{Stack}
use Rattle.text.specs.Text.{or_else, Check, in_turn}
use Rattle.text.specs.Kinds.{line_refusal}
use Rattle.text.specs.declared.Refused.{Refused}
use Rattle.reading.specs.Driver.{Going, ReadTo, ReadingLines}
use Rattle.reading.specs.declared.Progress.{Progress}
use Rattle.text.proofs.Refusals.{or_else_refused, or_else_next, word_not_fine}

-- THE LINES OF A KIND
module _ (bs : List ℕ) (kind : ℕ → Check) (i n : ℕ) where
  pub lines_start : (k : Stack) (p : Progress) → Going bs i k p → ReadingLines bs kind i n 0 k p
  lines_start k p g = record { below = omega arith; going = rw (add-zero i) g; rest = rw (sub-zero n) }

  module _ (j : ℕ) (k : Stack) (p : Progress) (m : ReadingLines bs kind i n j k p) where
    -- what is refused of all the lines is what is refused of this one, and else of the others
    from_line : j < n → in_turn (tabulate n 0 kind) ≡ or_else (line_refusal (kind j)) (in_turn (tabulate (n - (j + 1)) (j + 1) kind))
    unfolding in_turn tabulate
    from_line less =
        let e : n - j ≡ suc (n - (j + 1)) = omega arith in
        m.rest ∙ rw (e, add-one j)

    module _ {A : Type 0} (less : j < n) (l : Stack) (q : Progress) where
      pub lines_step : (x : A) → ReadTo bs (line_refusal (kind j)) (suc (i + j)) l (Ok x) q → ReadingLines bs kind i n (j + 1) l q
      lines_step x t =
          let next : i + (j + 1) ≡ suc (i + j) = omega arith in
          record {
            below = omega arith;
            going = rw next t.going;
            rest = from_line less ∙ or_else_next (line_refusal (kind j)) _ (sym t.outcome);
          }

      pub lines_refuse : (x : Refused) → ReadTo {A = A} bs (line_refusal (kind j)) (suc (i + j)) l (Err x) q → (h : ℕ) (s : Stack) → ReadTo {A = ⊤} bs (in_turn (tabulate n 0 kind)) h s (Err x) q
      lines_refuse x t h s =
          let none = or_else_refused (line_refusal (kind j)) (in_turn (tabulate (n - (j + 1)) (j + 1) kind)) (rw t.outcome at (word_not_fine x)) in
          record { outcome = t.outcome ∙ sym (from_line less ∙ none); going = tt }

    pub lines_end : n ≤ j → ReadTo bs (in_turn (tabulate n 0 kind)) (i + n) k (Ok (tt {0})) p
    unfolding in_turn tabulate
    lines_end past =
        let e : j ≡ n = omega (arith, m.below) in
        let none : n - n ≡ 0 = omega arith in
        record { outcome = sym (m.rest ∙ rw (e, none)); going = rw e at m.going }
