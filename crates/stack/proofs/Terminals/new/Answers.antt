use borrow.Author.Rules.{rules}
use lib.ListN.{length, length-take}
use mathlib.Core.Path.{◌≡◌, sym, ◌∙◌}
use native.Mathlib.Omega.{arith}
use Rattle.std.proofs.lemmas.Result.{err_from_is_err_and}
use Rattle.stack.proofs.Found.{making_starts, making_steps, making_refuses, making_ends, chunk_less, chunk_p, chunk_q}
use Rattle.stack.proofs.Terminals.new.Goals as goal

pub loop-p-init : goal.loop-p-init
loop-p-init c = making_starts _ _ _ _ _ c.none-terminals.ensures

pub loop-p-preserved : goal.loop-p-preserved
loop-p-preserved c =
    let long : length c.args.values.now ≡ 64 = search rules in
    let few = c.if-pairs-gt-MAX_PAIRS.false in
    let front = c.as_chunks.ensures.front in
    let more = c.loop-p-test.true in
    let p = chunk_p c.args.values.now c.args.pairs c.loop-p.p-index _ long front few more in
    let q = chunk_q c.args.values.now c.args.pairs c.loop-p.p-index _ long front few more in
    making_steps _ _ _ _ _ _ (chunk_less _ _ _ _ long front few more) c.loop-p.invariant _ (rw (p, q) at (sym c.in_ok-push.ensures.fault)) (rw (p, q) at c.in_ok-push.ensures.pairs)

pub returns-in_err-push : goal.returns-in_err-push
returns-in_err-push c =
    let long : length c.args.values.now ≡ 64 = search rules in
    let few = c.if-pairs-gt-MAX_PAIRS.false in
    let front = c.as_chunks.ensures.front in
    let more = c.loop-p-test.true in
    let p = chunk_p c.args.values.now c.args.pairs c.loop-p.p-index _ long front few more in
    let q = chunk_q c.args.values.now c.args.pairs c.loop-p.p-index _ long front few more in
    let e = err_from_is_err_and c.from_residual.result c.from_residual.ensures.1 in
    rw (e.1, e.2) (making_refuses _ _ _ _ _ _ (chunk_less _ _ _ _ long front few more) c.loop-p.invariant _ few (rw (p, q) at (sym c.in_err-push.ensures.fault)))

pub returns : goal.returns
returns c =
    let long : length c.args.values.now ≡ 64 = search rules in
    let all : length c.as_chunks.result.0.now ≡ 32 = c.as_chunks.ensures.front_len ∙ rw long in
    making_ends _ _ _ _ _ _ c.if-pairs-gt-MAX_PAIRS.false (omega (arith, c.loop-p-test.false, c.if-pairs-gt-MAX_PAIRS.false, all, length-take c.args.pairs c.as_chunks.result.0.now)) c.loop-p.invariant
