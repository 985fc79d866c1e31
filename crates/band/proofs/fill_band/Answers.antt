use Rattle.std.proofs.Common.{◌-◌, arith}
use Rattle.band.proofs.Bands.{banding_start, band_strip_asked, banding_step}
use Rattle.band.proofs.fill_band.Goals as goal

pub loop-i-init : goal.loop-i-init
loop-i-init c = rw c.put_window.ensures (banding_start _ _ _ c.requires)

pub fill_strip-empty-requires : goal.fill_strip-empty-requires
fill_strip-empty-requires c = let b = c.loop-i in
    rw c.of-first.ensures (band_strip_asked _ _ b.i (b.i - 1) _ _ c.requires.stack c.requires.fits b.invariant (omega arith) c.first_in_band.result c.min.result c.first_in_band.ensures c.min.ensures)

pub loop-i-preserved : goal.loop-i-preserved
loop-i-preserved c = let b = c.loop-i in
    banding_step _ _ b.i (b.i - 1) _ _ c.requires.stack c.requires.fits b.invariant (omega arith) c.first_in_band.result c.min.result c.first_in_band.ensures c.min.ensures _ _ (rw c.of-first.ensures at c.fill_strip-empty.ensures)
