-- Eight paths that are at the same columns where they come and where they leave only pass upward (`none_run`). Assumes nothing.
use mathlib.Core.Path.{◌≡◌}
use lib.ListN.{get_or}
use borrow.Author.Rules.{rules}
use Rattle.track.proofs.Marks.{none_runs}
use Rattle.track.proofs.Rows.{eight_marked}
use Rattle.track.proofs.put_eight.Goals as goal

pub returns-then-eq : goal.returns-then-eq
returns-then-eq c = let same : c.args.starts.now ≡ c.args.ends.now = search rules in
    eight_marked (λ i. get_or c.args.starts.now i 0) (λ i. get_or c.args.ends.now i 0) c.args.arms.up c.args.arms.down _ c.args.row.now _ c.character.ensures (none_runs _ _ same) c.put_uprights.ensures
