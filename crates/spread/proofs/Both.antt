-- The placement for the least total is the answer. Assumes nothing.
use mathlib.Core.Path.{◌≡◌, sym, ap, ◌∙◌}
use Prim.Native.Nat.{ℕ, zero, suc}
use Rattle.stack.specs.Stack.{Stack, LeastTotal}
use Rattle.text.specs.Text.{Refusal, fine}
use Rattle.text.proofs.Refusals.{number_fine}
use Rattle.answer.proofs.Alone as alone
use Rattle.spread.specs.Answers.{TotalResult, PlacementResult, total_in, total_told, Totalled, PlacedFor, placed, unmet, Placed}
use Rattle.spread.specs.Best.{Answered}

both_placed : (k : Stack) (s v : ℕ) (r : PlacementResult) → LeastTotal k s v → PlacedFor k s v r → Answered 0 fine k s r
unfolding Answered
both_placed k s v r l (placed ts xs a p) = (ts, xs, alone.both_answer k s v ts xs l a, rw a.exact p)
both_placed k s v r l (unmet n p) = absurd (n l.met)

pub both_of : (n : ℕ) (f : Refusal) (k : Stack) (s : ℕ) (t : TotalResult) (r : PlacementResult) → f.number ≡ n → Totalled n f k s t → Placed n f k s (total_in t) r → Answered n f k s r
unfolding Totalled total_told Placed Answered
both_of zero f k s t r e a b =
    let g : f ≡ fine = sym a.2.0 ∙ number_fine t (ap (λ (x : Refusal). x.number) a.2.0 ∙ e) in
    rw g (both_placed k s (total_in t) r (rw a.2.1 a.1) b)
both_of (suc n) f k s t r e a b = b
