use mathlib.Core.Path.{◌≡◌, sym, ◌∙◌}
use Prim.Native.Nat.{◌+◌, ◌-◌}
use native.Mathlib.Omega.{arith}
use lib.ListN.{length-take, length-drop}
use Rattle.plot.proofs.Lines.{lines_end, track_step, rule_shown, taken_long}
use Rattle.plot.proofs.put_tracks.Goals as goal

pub put_track-requires : goal.put_track-requires
put_track-requires c = let inv = c.loop-y.invariant in
    let few = c.requires.2 in
    let above = taken_long _ _ c.args.levels.now.count inv.above few in
    let here = taken_long _ _ c.args.levels.now.count c.arrivals-starts.ensures few in (
      rule_shown c.args.levels.now _ _ c.requires.1 few (omega (arith, inv.lines.place, c.requires.4)) c.arrivals-starts.ensures,
      rule_shown c.args.levels.now _ _ c.requires.1 few (omega (arith, inv.lines.place, c.requires.4)) inv.above,
      above ∙ sym here,
      simp (length-take, length-drop) (omega (arith, inv.lines.place, inv.lines.same_length, c.requires.3)),
      omega (arith, inv.lines.place, c.requires.4),
    )

pub loop-y-preserved : goal.loop-y-preserved
loop-y-preserved c = let inv = c.loop-y.invariant in
    let step = track_step c.args.levels.now _ _ c.args.t c.loop-y.at c.loop-y.y c.args.out.now c.loop-y.out _ c.requires.2 c.requires.4 c.requires.3 inv.lines c.arrivals-starts.ensures inv.above c.put_track.ensures in
    let back : c.loop-y.y - 1 + 1 ≡ c.loop-y.y = omega arith in
    record { lines = rw back step; above = rw back c.arrivals-starts.ensures }

pub returns-2 : goal.returns-2
returns-2 c = let inv = c.loop-y.invariant in
    let step = track_step c.args.levels.now _ _ c.args.t c.loop-y.at c.loop-y.y c.args.out.now c.loop-y.out _ c.requires.2 c.requires.4 c.requires.3 inv.lines c.arrivals-starts.ensures inv.above c.put_track.ensures in
    lines_end _ _ _ _ _ _ (omega arith) step
