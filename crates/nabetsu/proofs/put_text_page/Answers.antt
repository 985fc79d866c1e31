-- put_text_page meets its contract. Assumes nothing.
use Rattle.text.proofs.Refusals.{exit_is, fine_number}
use Rattle.nabetsu.proofs.Pages.{page_text_refused, page_not_asked, page_put}
use Rattle.nabetsu.proofs.put_text_page.Goals as goal

pub returns-in_err-stack : goal.returns-in_err-stack
returns-in_err-stack c = rw (exit_is c.from_residual.result _ c.from_residual.ensures.1) (page_text_refused _ _ _ _ _ _ c.in_err-stack.ensures.outcome)

pub returns-in_err-page_outcome : goal.returns-in_err-page_outcome
returns-in_err-page_outcome c = rw (exit_is c.from_residual-in_err-page_outcome.result _ c.from_residual-in_err-page_outcome.ensures.1)
    (page_not_asked _ _ _ _ _ c.in_ok-stack.stack c.in_ok-stack.ensures _ c.in_err-page_outcome.ensures)

pub put_channel-requires : goal.put_channel-requires
put_channel-requires c = (c.in_ok-stack.ensures.within, fine_number _ c.in_ok-page_outcome.ensures)

pub returns : goal.returns
returns c = page_put _ _ _ _ _ c.in_ok-stack.stack c.in_ok-stack.ensures _ c.in_ok-page_outcome.ensures c.put_channel.ensures
