-- The line that begins at a place, and the place of the next: by the laws that the first line goes up to the first line feed and the other lines are those behind
-- it. Assumes nothing.
use mathlib.Core.Path.{◌≡◌, ap, sym, ◌∙◌}
use mathlib.Core.Bool.{true}
use mathlib.Core.List.{List}
use Prim.Native.Nat.{ℕ, suc, ◌+◌, ◌-◌, ◌≤◌}
use native.Mathlib.Omega.{arith}
use lib.Dec.{ltb}
use lib.ListN.{length, take, drop, length-drop}
use lib.Seq.{drop-drop, length-take-le}
use borrow.Author.Tests.{ltb-true}
use Rattle.lines.specs.Lines.{Line, line}
use Rattle.lines.specs.Cut.{run, line_from, Next}
use Rattle.lines.proofs.Cutting.{run_below, first_line, other_lines}
use Rattle.lines.proofs.Fields.{rest_of}

pub run_length : (b : ℕ) (xs : List ℕ) → length (take (run b xs) xs) ≡ run b xs
run_length b xs = length-take-le (run b xs) xs (run_below b xs)

-- the bytes behind a place up to their first line feed
pub line_cut : (bs : List ℕ) (at : ℕ) → let rest = take (length bs - at) (drop at bs) in
    line (take (run 10 rest) rest) (ltb (run 10 rest) (length rest)) ≡ line_from bs at
unfolding line_from
line_cut bs at = rw (rest_of bs at) (sym (first_line (drop at bs)))

module _ (bs : List ℕ) (at : ℕ) where
  line_length : length (line_from bs at).bytes ≡ run 10 (drop at bs)
  unfolding line_from line
  line_length = ap (λ (l : Line). length l.bytes) (first_line (drop at bs)) ∙ run_length 10 (drop at bs)

  pub line_within : at ≤ length bs → at + length (line_from bs at).bytes ≤ length bs
  line_within here = omega (arith, line_length, run_below 10 (drop at bs), length-drop at bs)

  pub next_there : at ≤ length bs → (line_from bs at).ended ≡ true → Next bs at (at + length (line_from bs at).bytes + 1)
  unfolding line_from line
  next_there here h =
      let ended : ltb (run 10 (drop at bs)) (length (drop at bs)) ≡ true = sym (ap (λ (l : Line). l.ended) (first_line (drop at bs))) ∙ h in
      let n : at + length (line_from bs at).bytes + 1 ≡ at + suc (run 10 (drop at bs)) = omega (arith, line_length) in
      record {
        within = omega (arith, line_length, length-drop at bs, ltb-true (run 10 (drop at bs)) (length (drop at bs)) ended);
        rest = rw (n, ← drop-drop (suc (run 10 (drop at bs))) at bs) (sym (other_lines (drop at bs)));
      }
