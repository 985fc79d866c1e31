use Rattle.plot.proofs.Ends.{levels_start}
use Rattle.plot.proofs.Levels.new.Goals as goal

pub loop-j-init : goal.loop-j-init
loop-j-init c = levels_start c.args.terminals.now _ _
