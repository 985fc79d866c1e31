-- What is put fits the output, and its status is passed on. Assumes nothing.
use Rattle.std.proofs.Common.{rules}
use Rattle.program.proofs.print_put.Goals as goal

pub print_reply-requires : goal.print_reply-requires
print_reply-requires g c = c.requires.within c.put-reply.result c.put-reply.new.arg2 (search rules)

pub returns : goal.returns
returns g c = (c.put-reply.result, c.put-reply.new.arg2, search rules, c.print_reply.ensures)
