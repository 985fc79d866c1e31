-- take_line meets its contract, arm by arm. Assumes nothing.
use mathlib.Core.Path.{refl, ap, ◌∙◌}
use Rattle.std.specs.Prelude.{Some}
use Rattle.lines.specs.Lines.{line_of, numbers_of}
use Rattle.steps.specs.declared.StepLine.TheVariants.{Begin, Add, Off}
use Rattle.session.specs.Session.{begin, add, off}
use Rattle.replay.specs.Replay.{told}
use Rattle.replay.proofs.Taken.{none_told, awaiting_told, step_told, terminals_given}
use Rattle.replay.proofs.Replay.take_line.Goals as goal

pub returns-in_default : goal.returns-in_default
returns-in_default c = none_told _ _ _ _ _ c.read_step_line-self.ensures c.in_default.is _ c.new.ensures

pub returns-in-BeginPart : goal.returns-in-BeginPart
returns-in-BeginPart c = awaiting_told _ _ _ _ _ c.read_step_line-self.ensures c.in-Some.read c.in-Some.is c.in-BeginPart.is

pub returns-in-Begin : goal.returns-in-Begin
unfolding told
returns-in-Begin c =
    step_told _ _ _ _ _ c.read_step_line-self.ensures (Begin _) (c.in-Some.is ∙ ap Some c.in-Begin.is) (begin _) c.begin.result c.take_step.new.self refl c.begin.ensures c.take_step.ensures

pub returns-in-Add : goal.returns-in-Add
unfolding told
returns-in-Add c = let l = line_of c.args.line in
    let known = c.in-Some.is ∙ ap Some c.in-Add.is in
    let given = terminals_given c.args.self.now.line l _ _ _ _ c.read_step_line-self.ensures known in
    step_told _ _ _ _ _ c.read_step_line-self.ensures (Add _ _) known (add _ (numbers_of l)) c.add.result c.take_step-in-Add.new.self refl (c.add.ensures (numbers_of l) given) c.take_step-in-Add.ensures

pub returns-in-Off : goal.returns-in-Off
unfolding told
returns-in-Off c = step_told _ _ _ _ _ c.read_step_line-self.ensures Off (c.in-Some.is ∙ ap Some c.in-Off.is) off c.take_off.result c.take_step-in-Off.new.self refl c.take_off.ensures c.take_step-in-Off.ensures
