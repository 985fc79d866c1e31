use Prim.Native.Nat.{◌/◌}
use lib.ListN.{length, length-append}
use borrow.Author.Rules.{rules}
use Rattle.std.proofs.lemmas.Slice.Zip.{zip_turn, zip_end}
use Rattle.std.specs.Simd.{first_chunks}
use Rattle.track.proofs.Rows.{rule_long, row_starts, eight_asks, eight_joins, rest_joins}
use Rattle.track.proofs.put_row.Goals as goal

pub loop-start-init : goal.loop-start-init
loop-start-init c = row_starts _ _ _ _ _ (search rules)

pub put_eight-requires : goal.put_eight-requires
put_eight-requires c =
    let turn = zip_turn (first_chunks 8 (length c.args.starts.now / 8) c.args.starts.now) (first_chunks 8 (length c.args.ends.now / 8) c.args.ends.now) c.loop-start.yielded c.into_iter-start-iterator.result c.loop-start.start-iterator c.next.new.self c.next.result (search rules) (search rules) c.loop-start.yielded_by (c.in-Some.start, c.in-Some.end) c.in-Some.is c.next.ensures.steps in
    eight_asks c.args.starts.now c.args.ends.now c.args.row.now _ _ _ (length c.loop-start.yielded) c.requires (rule_long _ c.loop-start.invariant) (search rules) turn.2 turn.3

pub loop-start-preserved : goal.loop-start-preserved
loop-start-preserved c =
    let turn = zip_turn (first_chunks 8 (length c.args.starts.now / 8) c.args.starts.now) (first_chunks 8 (length c.args.ends.now / 8) c.args.ends.now) c.loop-start.yielded c.into_iter-start-iterator.result c.loop-start.start-iterator c.next.new.self c.next.result (search rules) (search rules) c.loop-start.yielded_by (c.in-Some.start, c.in-Some.end) c.in-Some.is c.next.ensures.steps in
    rw length-append (eight_joins c.args.starts.now c.args.ends.now _ _ _ _ (length c.loop-start.yielded) c.loop-start.row _ c.requires.same_count (search rules) turn.2 turn.3 c.loop-start.invariant c.put_eight.ensures)

pub returns : goal.returns
returns c =
    let end = zip_end (first_chunks 8 (length c.args.starts.now / 8) c.args.starts.now) (first_chunks 8 (length c.args.ends.now / 8) c.args.ends.now) c.loop-start.yielded c.into_iter-start-iterator.result c.loop-start.start-iterator c.next.new.self c.next.result (search rules) (search rules) c.loop-start.yielded_by c.in-None.is c.next.ensures.steps in
    rest_joins c.args.starts.now c.args.ends.now _ _ _ _ (length c.loop-start.yielded) c.loop-start.row _ c.requires.same_count (search rules) c.as_chunks.ensures.back c.as_chunks-2.ensures.back c.loop-start.invariant c.put_paths.ensures
