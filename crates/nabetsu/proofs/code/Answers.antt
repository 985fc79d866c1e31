-- code meets its contract. Assumes nothing.
use Rattle.nabetsu.proofs.Codes.{code_refused}
use Rattle.nabetsu.proofs.code.Goals as goal

pub returns : goal.returns
returns c = λ v. rw c.number.ensures (code_refused c.args.why.why c.args.why.line c.args.why.field v)
