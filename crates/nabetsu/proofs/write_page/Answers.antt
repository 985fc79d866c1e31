-- write_page meets its contract, and PAGE_BYTES are never too little. Assumes nothing.
use borrow.Author.Rules.{rules}
use Rattle.nabetsu.proofs.Tables.{settled}
use Rattle.nabetsu.proofs.Pages.{page_said, page_enough, page_shows}
use Rattle.nabetsu.proofs.write_page.Goals as goal

pub returns : goal.returns
returns c = let says = page_said _ _ _ _ _ _ (settled _ _ _ _ _ _ c.put_text_page-put.result _ c.put_text_page-put.ensures (search rules) c.finish.ensures) in
    record { page_says = says; page_shows = page_shows _ _ _ _ _ _ says; page_enough = page_enough _ _ _ _ _ _ says }
