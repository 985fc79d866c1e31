use Rattle.std.proofs.Common.{◌-◌, arith}
use Rattle.scan.proofs.Scanning.{ends_cover, ends_all}
use Rattle.scan.proofs.ends_in.Goals as goal

pub returns-then-upto-e : goal.returns-then-upto-e
returns-then-upto-e c =
    let a = c.args in
    let near = rw c.at.ensures at c.stretch-e.ensures.near in
    let reach = rw c.at.ensures at c.stretch-e.ensures.reach in
    ends_cover a.limits.now a.spans.now a.cell.v a.start a.stop (a.stop - 1) a.cell.window c.stretch-e.result (omega arith) (omega arith) near reach (omega arith) (omega arith)

pub returns : goal.returns
returns c =
    let a = c.args in
    let near = rw c.at.ensures at c.stretch-e.ensures.near in
    let reach = rw c.at.ensures at c.stretch-e.ensures.reach in
    ends_all a.limits.now a.spans.now a.cell.v a.start a.stop (a.stop - 1) a.cell.window c.stretch-e.result (omega arith) (omega arith) near reach c.reach_back.result c.reach_back.ensures
