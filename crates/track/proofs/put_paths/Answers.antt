use lib.ListN.{length, get_or, length-append}
use borrow.Author.Rules.{rules}
use Rattle.std.proofs.lemmas.Slice.Zip.{zip_turn}
use Rattle.track.proofs.Rows.{runs_start, runs_step}
use Rattle.track.proofs.put_paths.Goals as goal

pub loop-start-init : goal.loop-start-init
loop-start-init c = runs_start _ _ _ _ c.args.row.now c.requires.columns

pub loop-start-preserved : goal.loop-start-preserved
loop-start-preserved c =
    let turn = zip_turn c.args.starts.now c.args.ends.now c.loop-start.yielded c.into_iter-start-iterator.result c.loop-start.start-iterator c.next.new.self c.next.result (search rules) (search rules) c.loop-start.yielded_by (c.in-Some.start, c.in-Some.end) c.in-Some.is c.next.ensures.steps in
    rw length-append (runs_step (λ i. get_or c.args.starts.now i 0) (λ i. get_or c.args.ends.now i 0) c.args.arms.up c.args.arms.down (length c.loop-start.yielded) c.args.row.now c.loop-start.row _ c.loop-start.invariant (rw (turn.2 0, turn.3 0) at c.put_path.ensures))
