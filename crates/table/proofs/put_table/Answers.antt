use mathlib.Core.Path.{sym}
use Rattle.table.proofs.Events.{spread_fits, sum_widest}
use Rattle.scan.proofs.Tables.{sized_zeros}
use native.Mathlib.Omega.{arith}
use Rattle.stack.specs.Value.{stack_of}
use Rattle.stack.proofs.Within.{stack_channels}
use Rattle.rows.proofs.Settled.{widest_small}
use Rattle.answer.proofs.Standing.{total_capped}
use Rattle.table.proofs.Walks.{begun, ended_past, ended_zero}
use Rattle.table.proofs.put_table.Goals as goal

pub overflow_add-widest : goal.overflow_add-widest
overflow_add-widest c = omega (arith, sum_widest c.args.stack.now c.last_position.result c.lengths_sum.result c.last_position.ensures.is c.lengths_sum.ensures, widest_small (stack_of c.args.stack.now) c.requires)

pub loop-w-init : goal.loop-w-init
loop-w-init c = let held = c.fill_held.ensures.held in
    let fits = spread_fits (stack_of c.args.stack.now) c.first_spread-first.result c.requires c.first_spread-first.ensures.is in
    let most = total_capped c.args.stack.now c.first_spread-first.result _ fits (omega (arith, c.first_spread-first.ensures.is)) held in
    record {
      holding = record { held = held; sized = sized_zeros };
      walking = begun (stack_of c.args.stack.now) c.requires c.args.stack.now.count c.first_spread-first.result _ c.put_head-at.result _ _ (sym (stack_channels c.args.stack.now)) c.first_spread-first.ensures.is most c.put_head-at.ensures;
      capped = omega arith;
    }

pub returns-else-w-widest : goal.returns-else-w-widest
returns-else-w-widest c = ended_past (stack_of c.args.stack.now) c.requires _ _ c.loop-w.invariant.walking (omega (arith, c.loop-w.invariant.walking.upto, sum_widest c.args.stack.now c.last_position.result c.lengths_sum.result c.last_position.ensures.is c.lengths_sum.ensures, c.if-w-widest.false))

pub returns-after-loop-w : goal.returns-after-loop-w
returns-after-loop-w c = ended_zero (stack_of c.args.stack.now) c.requires _ _ c.loop-w.invariant.walking (omega (arith, c.loop-w-test.false))
