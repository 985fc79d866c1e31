-- TRUSTED. Which state a struct stands for. Assumes nothing: these are definitions.
use Rattle.text.specs.Outcome.{refusal_of}
use Rattle.session.specs.Value.{held_of}
use Rattle.replay.specs.Replay.{State, state}
use Rattle.replay.specs.declared.Replay.{Replay}

unfoldable pub state_of : Replay → State
state_of r = state (held_of r.session) (refusal_of r.outcome) r.line
