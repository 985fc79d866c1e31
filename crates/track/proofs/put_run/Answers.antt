-- The dashes between two ends. Assumes nothing.
use mathlib.Core.Path.{refl}
use borrow.Author.Rules.{rules}
use Rattle.track.proofs.Rows.{dashes_filled, run_drawn, other_way}
use Rattle.track.proofs.put_run.Goals as goal

pub returns : goal.returns
returns c = let asks = c.requires in
    let dashes = dashes_filled _ _ _ _ c.character.result c.args.row.now c.fill.new.self c.min.ensures c.max.ensures asks.runs asks.from asks.upto asks.columns (search rules) in
    let left = other_way c.args.s c.args.e _ refl asks.runs in
    run_drawn _ _ c.args.arms.up c.args.arms.down c.args.row.now _ _ _ _ asks.runs c.character.ensures (rw left at c.character-2.ensures) (rw left at c.character-3.ensures) dashes
