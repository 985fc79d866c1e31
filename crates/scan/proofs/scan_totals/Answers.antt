use Rattle.std.proofs.Common.{◌≡◌, ◌+◌, refl, arith}
use Rattle.arrays.proofs.Searches.{totalling_start}
use Rattle.scan.proofs.Scans.{none_yet, scanning_start, empties_start, cleared_start, scan_found, scanning_next, empties_next, cleared_next, totals_miss, scan_none}
use Rattle.scan.proofs.scan_totals.Goals as goal

pub loop-v-init : goal.loop-v-init
loop-v-init c = let none = none_yet _ _ _ _ c.requires c.clear.ensures in
    rw c.put_window.ensures
    (scanning_start _ _ none, totalling_start _ c.args.cap, empties_start _ _ none, cleared_start _ _ none c.args.cap c.clear.ensures)

pub returns-then-table-v : goal.returns-then-table-v
returns-then-table-v c = let b = c.loop-v in
    let next = c.scan_total-next in
    scan_found _ c.args.cap b.v next.result _ next.ensures.scanned c.requires.of_use (omega arith) _ b.invariant.1 b.jump _ b.invariant.0 refl c.if-table-v.true

pub loop-v-preserved : goal.loop-v-preserved
loop-v-preserved c = let b = c.loop-v in
    let next = c.scan_total-next in (
      scanning_next _ c.args.cap b.v next.result _ next.ensures.scanned,
      totals_miss _ c.args.cap b.v next.result _ next.ensures.scanned c.requires.of_use (omega arith) _ b.invariant.1 c.if-table-v.false,
      empties_next _ _ _ _ next.ensures.empties,
      cleared_next _ _ _ c.args.cap _ _ next.ensures.scanned.sized next.ensures.others b.invariant.3,
    )

pub returns : goal.returns
returns c = let b = c.loop-v in
    let e : c.args.cap + 1 ≡ b.v = omega arith in
    rw e (scan_none _ c.args.cap b.v b.jump _ (omega arith) (omega arith) b.invariant.0 b.invariant.1)
