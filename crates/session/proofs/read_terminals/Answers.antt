-- read_terminals meets its contract. Assumes nothing.
use Rattle.text.proofs.Refusals.{exit_is}
use Rattle.session.proofs.Steps.{odd_refused, nets_read}
use Rattle.session.proofs.read_terminals.Goals as goal

pub returns-in_err-test_count : goal.returns-in_err-test_count
returns-in_err-test_count c = rw (exit_is c.from_residual.result _ c.from_residual.ensures.1) (odd_refused _ _ _ _ _ c.in_err-test_count.ensures)

pub returns : goal.returns
returns c = nets_read _ _ _ _ c.in_ok-test_count.ensures c.nets_content.result c.nets_content.ensures
