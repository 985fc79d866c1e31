use Rattle.std.proofs.Common.{ℕ, ◌+◌, arith}
use Rattle.arrays.specs.Arrays.{bias}
use Rattle.growth.proofs.Cells.{lack_window, lack_both}
use Rattle.growth.proofs.StripGiven.cell_lack.Goals as goal

pub returns-then-x-e : goal.returns-then-x-e
returns-then-x-e c = let first = c.start_above-first in
    let end = c.stop_above-end in
    let e = c.reach_back-e in
    let by = c.end_lack-by_window in
    let x : ℕ = c.max.result + 1 + bias in
    lack_window c.args.self.now.limits.now c.args.cell c.args.self.now.table.now c.args.grows.now c.args.self.now.own first.result end.result c.requires first.ensures end.ensures e.result e.ensures x by.result (omega arith) by.ensures c.if-x-e.true

pub returns : goal.returns
returns c = let first = c.start_above-first in
    let end = c.stop_above-end in
    let e = c.reach_back-e in
    let by = c.end_lack-by_window in
    let x : ℕ = c.max.result + 1 + bias in
    lack_both c.args.self.now.limits.now c.args.cell c.args.self.now.table.now c.args.grows.now c.args.self.now.own first.result end.result c.requires first.ensures end.ensures e.result e.ensures x by.result (omega arith) by.ensures c.grow_back-grow.result c.end_lack.result c.max-2.result c.grow_back-grow.ensures c.end_lack.ensures c.max-2.ensures
