-- A span shifted back by a limit is shifted on by what the limit's ends, exchanged, leave of twice the bias. Assumes nothing.
use Rattle.std.proofs.Common.{◌≡◌, ap, ap₂, ◌∙◌, ℕ, ◌+◌, ◌-◌, ◌*◌, ◌≤◌, arith}
use Rattle.spans.specs.Spans.{span, cut, shift_on, shift_back}
use Rattle.spans.specs.declared.Span.{Span}

start_left : (b high x : ℕ) → high ≤ 2 * b → x + (2 * b - high) - b ≡ x + b - high
start_left b high x h = omega arith

pub shift_left : (b low high : ℕ) (s : Span) → low ≤ 2 * b → high ≤ 2 * b → shift_on b (2 * b - high) (2 * b - low) s ≡ shift_back b low high s
shift_left b low high s l h = ap₂ span (start_left b high s.from h) (start_left b low s.upto l)

pub shifted_back : (b low high : ℕ) (s w t : Span) → low ≤ 2 * b → high ≤ 2 * b → t ≡ cut w (shift_on b (2 * b - high) (2 * b - low) s) →
    t ≡ cut w (shift_back b low high s)
shifted_back b low high s w t l h e = e ∙ ap (cut w) (shift_left b low high s l h)
