-- read_kind meets its contract. Assumes nothing.
use mathlib.Core.Path.{◌∙◌}
use native.Mathlib.Omega.{arith}
use Rattle.lines.specs.Lines.{line_of, number_fields}
use Rattle.lines.proofs.Fields.{numbers_few, ill_few}
use Rattle.text.proofs.Layouts.{fault_few, field_small, kind_found, kind_counted}
use Rattle.text.proofs.read_kind.Goals as goal

pub fault-fault-requires : goal.fault-fault-requires
fault-fault-requires c = omega (arith, c.read_line-read.ensures.count, numbers_few c.args.line.bytes.now c.args.line.ended, c.requires.0)

pub test_layout-requires-clause-fault_small : goal.test_layout-requires-clause-fault_small
test_layout-requires-clause-fault_small c =
    rw (c.fault-fault.ensures) (field_small _ _ (omega (arith, fault_few c.args.counts c.read_line-read.result.count, c.read_line-read.ensures.count, numbers_few c.args.line.bytes.now c.args.line.ended, c.requires.0)))

pub test_layout-requires-clause-ill_small : goal.test_layout-requires-clause-ill_small
test_layout-requires-clause-ill_small c =
    rw (c.read_line-read.ensures.ill) (field_small _ _ (omega (arith, ill_few 2 (number_fields (line_of c.args.line)), numbers_few c.args.line.bytes.now c.args.line.ended, c.requires.0)))

pub returns-clause-read : goal.returns-clause-read
returns-clause-read c =
    kind_found c.args.word.now c.args.counts c.args.n (line_of c.args.line) c.read_line-read.result _ c.read_line-read.ensures c.test_layout.result (c.test_layout.ensures ∙ rw (c.fault-fault.ensures))

pub returns-clause-count : goal.returns-clause-count
returns-clause-count c = kind_counted c.args.word.now c.args.counts c.args.n (line_of c.args.line) c.read_line-read.result _ c.read_line-read.ensures
