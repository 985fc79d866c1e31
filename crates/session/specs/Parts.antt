-- What the parts of a step answer. Assumes nothing: these are definitions.
use Rattle.std.specs.Prelude.{◌≡◌, ⊤, List, [], ◌∷◌, ◌++◌, map, ℕ, Result, IfOk}
use Rattle.stack.specs.Stack.{Pair, channel, Strip, Stack, stack}
use Rattle.stack.specs.Value.{free_strip, channel_of}
use Rattle.stack.specs.declared.Columns.{Columns}
use Rattle.stack.specs.declared.Strip.{Strip as StripStruct}
use Rattle.stack.specs.declared.Terminals.{Terminals}
use Rattle.text.specs.Text.{pairs_of}
use Rattle.text.specs.Outcome.{refusal_of}
use Rattle.text.specs.declared.Refused.{Refused}
use Rattle.session.specs.Session.{length_refusal, nets_refusal}
use Rattle.session.specs.Value.{Given}
use Rattle.session.specs.declared.Session.{Session}
use Rattle.session.specs.declared.SessionStep.{SessionStep}

-- what a step is refused for, and the session after it
abbrev pub session_step : Result ⊤ Refused → Session → SessionStep
session_step r s = record { outcome = r; session = s }

-- a strip of the length that is given, or its refusal
pub record LengthRead (l : ℕ) (r : Result StripStruct Refused) : Type 0 where
  pub refused : refusal_of r ≡ length_refusal l
  pub length : IfOk r (λ s. s.length.0 ≡ l)

-- the pairs of the terminals that are given, or their refusal
pub record PairsRead (lower upper : ℕ) (ns : List ℕ) (r : Result Terminals Refused) : Type 0 where
  pub refused : refusal_of r ≡ nets_refusal lower upper ns
  pub pairs : IfOk r (λ t. channel_of t ≡ pairs_of ns)

abbrev pub TerminalsRead : (lower upper : ℕ) → (values : List ℕ) → (count : ℕ) → Result Terminals Refused → Type 0
TerminalsRead lo hi vs c r = (ns : List ℕ) → Given ns vs c → PairsRead lo hi ns r

-- the free strips of these lengths
abbrev pub free_strips : List Columns → List StripStruct
free_strips ls = map (λ (l : Columns). free_strip l.0) ls

-- one strip more, and the channel below it
abbrev pub topped : Stack → Strip → List Pair → Stack
topped k l ps = stack (k.strips ++ (l ∷ [])) (k.channels ++ (channel ps 0 ∷ []))
