-- Where a line of the input is, and that what a session holds behind it steps have made. Assumes nothing.
use mathlib.Core.Path.{◌≡◌, refl, ap, sym, ◌∙◌}
use mathlib.Core.Bool.{true}
use mathlib.Core.List.{List}
use Prim.Native.Nat.{ℕ, ◌+◌, ◌≤◌, ◌<◌}
use native.Mathlib.Omega.{arith}
use lib.ListN.{length, take, length-take}
use lib.Seq.{length-take-le}
use Rattle.lines.specs.Lines.{Line, line, line_of}
use Rattle.lines.specs.Cut.{line_from}
use Rattle.lines.specs.declared.Line.{Line as LineStruct}
use Rattle.lines.proofs.Places.{line_within, next_there}
use Rattle.session.specs.Session.{Made, made_empty}
use Rattle.session.specs.Value.{held_of}
use Rattle.replay.specs.Replay.{State, state, start, line_taken}
use Rattle.replay.specs.Value.{state_of}
use Rattle.replay.specs.declared.Replay.{Replay}
use Rattle.replay.proofs.Made.{line_made}
use Rattle.program.specs.Input.{LineIn}

pub line_run_made : (n : ℕ) (p q : Replay) (l : Line) → Made (held_of p.session) → state_of q ≡ line_taken n (state_of p) l → Made (held_of q.session)
unfolding state_of state
line_run_made n p q l m e = rw (ap (λ (x : State). x.held) e) (line_made n (state_of p) l m)

pub start_made : (p : Replay) → state_of p ≡ start → Made (held_of p.session)
unfolding state_of state start
start_made p e = rw (ap (λ (x : State). x.held) e) made_empty

-- the line that begins at a place
module _ (bs : List ℕ) (at : ℕ) (here : at ≤ length bs) (l : LineStruct) (e : line_of l ≡ line_from bs at) where
  bytes_long : length l.bytes.now ≡ length (line_from bs at).bytes
  unfolding line
  bytes_long = ap (λ (x : Line). length x.bytes) e

  pub line_ends : at + length l.bytes.now ≤ length bs
  line_ends = omega (arith, bytes_long, line_within bs at here)

  pub line_fed : l.ended ≡ true → at + length l.bytes.now < length bs
  unfolding line
  line_fed h = omega (arith, bytes_long, (next_there bs at here (sym (ap (λ (x : Line). x.ended) e) ∙ h)).within)

-- a line among the first bytes of a space
pub line_in_part : (text : List ℕ) (from filled : ℕ) (l : LineStruct) → from ≤ filled → filled ≤ length text → line_of l ≡ line_from (take filled text) from →
    LineIn from filled (record { at = from; end = from + length l.bytes.now; ended = l.ended })
line_in_part text from filled l begins within e =
    let there = length-take-le filled text within in
    let here : from ≤ length (take filled text) = omega (arith, there, begins) in
    record {
      at_is = refl;
      next = record {
        begins = omega arith;
        within = omega (arith, there, line_ends (take filled text) from here l e);
        ended = λ h. omega (arith, there, line_fed (take filled text) from here l e h);
      };
    }

-- at most so many bytes are taken
pub few_taken : (n m : ℕ) (xs : List ℕ) → n ≤ m → length (take n xs) ≤ m
few_taken n m xs h = omega (arith, length-take n xs)
