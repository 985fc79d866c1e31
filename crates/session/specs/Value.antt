-- TRUSTED. Which stack a session's struct holds, and what a step's struct answers. Assumes nothing: these are definitions.
use Rattle.std.specs.Prelude.{◌≡◌, List, ℕ, ◌-◌, ◌<◌, length, get_or}
use Rattle.numbers.specs.Lists.{tabulate}
use Rattle.stack.specs.Stack.{free, Strip, strip, Stack, stack, Channel, channel}
use Rattle.stack.specs.Value.{columns, no_terminals, channel_of}
use Rattle.text.specs.Outcome.{refusal_of}
use Rattle.session.specs.Session.{Step, add, step_refusal, after}
use Rattle.session.specs.declared.Session.{Session}
use Rattle.session.specs.declared.SessionStep.{SessionStep}

abbrev pub strip_at : Session → (i : ℕ) → Strip
strip_at s i = strip (get_or s.lengths i (columns 0)).0 free

abbrev pub channel_at : Session → (i : ℕ) → Channel
channel_at s i = channel (channel_of (get_or s.channels i no_terminals)) 0

-- the first count strips, and one channel less
unfoldable pub held_of : Session → Stack
held_of s = stack (tabulate s.count 0 (λ i. strip_at s i)) (tabulate (s.count - 1) 0 (λ i. channel_at s i))

-- a step's refusal, and the session after it
pub record Stepped (k : Stack) (a : Step) (r : SessionStep) : Type 0 where
  pub outcome : refusal_of r.outcome ≡ step_refusal k a
  pub session : held_of r.session ≡ after k a

-- TERMINALS as they are handed over: so many, of which the first 64 stand in places; more are refused whatever they are
pub record Given (ns values : List ℕ) (count : ℕ) : Type 0 where
  pub count_is : count ≡ length ns
  pub in_place : (i : ℕ) → i < 64 → i < length ns → get_or values i 0 ≡ get_or ns i 0

abbrev pub Added : Stack → (length : ℕ) → (values : List ℕ) → (count : ℕ) → SessionStep → Type 0
Added k l vs c r = (ns : List ℕ) → Given ns vs c → Stepped k (add l ns) r
