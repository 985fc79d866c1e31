use Rattle.std.proofs.Common.{arith}
use Rattle.arrays.proofs.Options.{some_number, no_number}
use Rattle.scan.proofs.Scanning.{strip_none, strip_done}
use Rattle.scan.proofs.scan_strip.Goals as goal

pub returns-then-end-first : goal.returns-then-end-first
returns-then-end-first c =
    rw (c.put.ensures, c.none_in.ensures)
    (strip_none c.args.limits.now c.args.cell c.args.table.now _ _ c.requires c.start_above-first.ensures c.stop_above-end.ensures c.if-end-first.true)

pub returns-then-reached-needed : goal.returns-then-reached-needed
returns-then-reached-needed c =
    rw c.put-2.ensures
    (strip_done c.args.limits.now c.args.cell c.args.table.now _ _ c.requires c.start_above-first.ensures c.stop_above-end.ensures c.ends_in-e.result _ _ _ c.ends_in-e.ensures
    (omega arith) (omega arith) (some_number _ _ (omega arith) (omega arith)))

pub returns-else-reached-needed : goal.returns-else-reached-needed
returns-else-reached-needed c =
    rw c.put-2.ensures
    (strip_done c.args.limits.now c.args.cell c.args.table.now _ _ c.requires c.start_above-first.ensures c.stop_above-end.ensures c.ends_in-e.result _ _ _ c.ends_in-e.ensures
    (omega arith) (omega arith) (no_number _ (omega arith)))
