-- nabetsu_write_table meets its contract. Assumes nothing.
use Rattle.reply.specs.Told.{written_in}
use Rattle.std.proofs.Common.{rules}
use Rattle.nabetsu.proofs.Codes.{answer_coded}
use Rattle.nabetsu.proofs.nabetsu_write_table.Goals as goal

pub returns : goal.returns
returns c = record { answer = c.write_table.result; says = c.write_table.ensures.table_says; coded = answer_coded written_in c.write_table.result _ _ _ c.map_or_else.ensures (λ x p. search rules) (λ e q v. search rules) }
