use Rattle.std.proofs.Common.{rules, tests, eqb}
use Rattle.std.proofs.lemmas.List.{map-append}
use Rattle.std.proofs.lemmas.Iterator.Adapters.{YieldsList-from_skip}
use Rattle.std.proofs.lemmas.Iterator.Consumers.{YieldsList-at, YieldsList-end}
use Rattle.std.proofs.lemmas.Iterator.Splits.{YieldsList-from_slice_split}
use Rattle.lines.proofs.Cutting.{split_fields}
use Rattle.lines.proofs.Fields.{none_read, read_long, number_more, ill_formed_more}
use Rattle.lines.proofs.read_numbers.Goals as goal
use Rattle.lines.proofs.read_numbers.Goals.{in-Some-read_field, in-None-read_field}

pub loop-field-init : goal.loop-field-init
loop-field-init c = none_read c.args.values.now c.requires

pub put_number-requires : goal.put_number-requires
put_number-requires c = read_long _ _ _ c.loop-field.invariant

pub loop-field-preserved : goal.loop-field-preserved
loop-field-preserved c =
    elim c.match-read_field.branch [
      | in-Some-read_field w ↦ rw (w.ill-is, w.values-is, map-append) (number_more c.in-Some.field.now _ _ _ c.loop-field.invariant w.in-Some-read_field.number _ w.in-Some-read_field.ensures w.put_number.ensures)
      | in-None-read_field w ↦ rw (w.ill-is, w.values-is, w.or-ill.ensures, map-append) (ill_formed_more c.in-Some.field.now _ _ _ c.loop-field.invariant w.in-None-read_field.ensures)
    ]

pub returns : goal.returns
returns c =
    let all = YieldsList-end
    (YieldsList-from_skip 1 (YieldsList-at (cc) (YieldsList-from_slice_split {s = c.split.result} _ (λ x. eqb x 9) c.args.bytes.now c.split.ensures.rest c.split.ensures.done c.split.ensures.closure (λ x b q k. search (rules, tests)))) (cc))
    c.loop-field.yielded _ c.loop-field.yielded_by _ _ c.in-None.is c.next.ensures.steps in
    rw (← split_fields c.args.bytes.now, ← all.0) c.loop-field.invariant
