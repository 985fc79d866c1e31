use Rattle.std.proofs.Common.{◌∙◌, sym, refl}
use Rattle.growth.proofs.Cells.{grow_window, grow_reach}
use Rattle.growth.proofs.StripGiven.cell_grow.Goals as goal

pub returns-then-from-cell : goal.returns-then-from-cell
returns-then-from-cell c =
    grow_window c.args.self.now.limits.now c.args.cell c.args.self.now.table.now c.args.grows.now c.args.self.now.own _ _ c.requires.cell refl refl c.requires.full (sym c.from.ensures ∙ c.if-from-cell.true)

pub returns : goal.returns
returns c = let first = c.start_above-first in
    let end = c.stop_above-end in
    grow_reach c.args.self.now.limits.now c.args.cell c.args.self.now.table.now c.args.grows.now c.args.self.now.own first.result end.result c.requires.cell first.ensures end.ensures c.requires.full (λ e. c.if-from-cell.false (c.from.ensures ∙ e)) c.grow_back.result c.grow_back.ensures
