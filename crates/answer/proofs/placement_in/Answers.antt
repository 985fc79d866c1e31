-- placement_in meets its contract: the table is filled in the bands of the stated total, that is met exactly if the bottom strip has a position, and then what the
-- solver places in the table is the placement. Assumes nothing.
use borrow.Author.Rules.{rules}
use mathlib.Core.Path.{sym, ◌∙◌}
use borrow.Author.Tests.{leb-true, ltb-true, ltb-false}
use Rattle.answer.proofs.Standing.{cap_small, held_band_asks, band_unmet, band_reached, band_place_asks, band_placed}
use Rattle.answer.proofs.placement_in.Goals as goal

pub fill_band-requires : goal.fill_band-requires
fill_band-requires c = held_band_asks _ _ _ c.fill_given.ensures c.args.total.0 (search rules)

pub at-requires : goal.at-requires
at-requires c = cap_small _ _ _ c.fill_given.ensures c.min-used.result (search rules)

pub returns-then-not-has_position : goal.returns-then-not-has_position
returns-then-not-has_position c =
    band_unmet _ _ _ c.fill_given.ensures c.args.total.0 c.min-used.result _ c.fill_band.ensures (search rules)
    (rw c.at.ensures at (ltb-false _ _ (sym c.has_position.ensures ∙ search rules)))

pub place_in-requires : goal.place_in-requires
place_in-requires c =
    let reached = band_reached _ _ _ c.fill_given.ensures c.args.total.0 c.min-used.result _ c.fill_band.ensures (search rules) (rw c.at.ensures at (ltb-true _ _ (sym c.has_position.ensures ∙ search rules))) in
    band_place_asks _ _ _ c.fill_given.ensures c.args.total.0 c.min-used.result _ c.fill_band.ensures (search rules) reached (search rules)

pub returns : goal.returns
returns c =
    let reached = band_reached _ _ _ c.fill_given.ensures c.args.total.0 c.min-used.result _ c.fill_band.ensures (search rules) (rw c.at.ensures at (ltb-true _ _ (sym c.has_position.ensures ∙ search rules))) in (
      leb-true _ _ reached,
      band_placed _ _ _ c.fill_given.ensures c.args.total.0 c.min-used.result _ c.fill_band.ensures (search rules) reached c.place_in.result c.place_in.ensures,
    )
