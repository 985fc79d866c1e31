-- test_count meets its contract. Assumes nothing.
use mathlib.Core.Path.{◌∙◌}
use Prim.Native.Nat.{◌<◌}
use native.Mathlib.Omega.{arith}
use Rattle.text.specs.Kinds.{fault_of}
use Rattle.text.proofs.Layouts.{fault_few, field_small, count_alone, at_field}
use borrow.Author.Rules.{rules}
use Rattle.text.proofs.test_count.Goals as goal

pub test_layout-requires-clause-fault_small : goal.test_layout-requires-clause-fault_small
test_layout-requires-clause-fault_small c =
    let small : c.args.count < 65536 = search rules in
    rw (c.fault.ensures, c.from.ensures) (field_small _ _ (omega (arith, fault_few c.args.counts c.args.count)))

pub returns : goal.returns
returns c =
    c.test_layout.ensures ∙ count_alone c.fault.result c.args.n
    ∙ rw (c.fault.ensures, c.from.ensures) (at_field 11 c.args.n (fault_of c.args.counts c.args.count))
