-- Whatever is replayed, steps have made what is held: a line leaves it, or takes a step. By induction on the lines. Assumes nothing.
use mathlib.Core.Bool.{Bool, true, false, cond}
use mathlib.Core.List.{List, [], ◌∷◌}
use Prim.Native.Nat.{ℕ, suc}
use lib.Dec.{ltb}
use lib.ListN.{length}
use Rattle.std.specs.Prelude.{Option, None, Some, is_some}
use Rattle.lines.specs.Lines.{Line, lines, numbers_of}
use Rattle.stack.specs.Stack.{Stack}
use Rattle.text.specs.Text.{refusal}
use Rattle.steps.specs.Steps.{step_line}
use Rattle.steps.specs.declared.StepLine.{StepLine}
use Rattle.steps.specs.declared.StepLine.TheVariants.{BeginPart, AddPart, AddNets, Begin, Add, Off}
use Rattle.session.specs.Session.{nothing, begin, add, off, Made, made_empty, made_after}
use Rattle.replay.specs.Replay.{State, state, start, stepped, told, line_taken, awaits, replay, replayed, ReplayedMade}

told_made : (n : ℕ) (k : Stack) (x : Option StepLine) (ns : List ℕ) → Made k → Made (told n k x ns).held
unfolding told stepped state
told_made n k None ns m = m
told_made n k (Some BeginPart) ns m = m
told_made n k (Some AddPart) ns m = m
told_made n k (Some (AddNets l)) ns m = m
told_made n k (Some (Begin l)) ns m = made_after m (begin l)
told_made n k (Some (Add l c)) ns m = made_after m (add l ns)
told_made n k (Some Off) ns m = made_after m off

pub line_made : (n : ℕ) (r : State) (l : Line) → Made r.held → Made (line_taken n r l).held
unfolding line_taken
line_made n r l m = told_made n r.held (step_line r.line l) (numbers_of l) m

either_made : (v : Bool) (a b : State) → Made a.held → Made b.held → Made (cond v a b).held
either_made true a b m k = m
either_made false a b m k = k

replay_made : (n : ℕ) (r : State) (ls : List Line) → Made r.held → Made (replay n r ls).held
unfolding replay state
replay_made n r [] m = either_made (awaits r.line) (state r.held (refusal 2 n 0) None) r m m
replay_made n r (l ∷ ls) m =
    let k = line_made n r l m in
    either_made (is_some (line_taken n r l).line) (replay (suc n) (line_taken n r l) ls) (line_taken n r l) (replay_made (suc n) (line_taken n r l) ls k) k

pub replayed_made : ReplayedMade
unfolding ReplayedMade replayed start state
replayed_made bs = either_made (ltb 8192 (length bs)) (state nothing (refusal 1 0 0) None) (replay 1 start (lines bs)) made_empty (replay_made 1 start (lines bs) made_empty)
