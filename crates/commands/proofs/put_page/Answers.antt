-- put_page meets its contract: the page written, or the refusal's line over it. Assumes nothing.
use Prim.Native.Nat.{◌≤◌}
use lib.ListN.{length}
use borrow.Author.Rules.{rules}
use Rattle.nabetsu.specs.Pages.{PageEnough}
use Rattle.commands.proofs.Printing.{concluded_written, page_within, page_printed}
use Rattle.commands.proofs.put_page.Goals as goal

pub returns : goal.returns
unfolding PageEnough
returns c = let put = c.write_page-put in
    let space : 4485 ≤ length c.args.output.now = search rules in
    page_printed c.args.text.now c.args.spread c.args.channel put.result _ _ (λ z. put.ensures.page_enough z space) _ _ put.ensures.page_says
    (concluded_written put.result _ _ _ (page_within c.args.text.now c.args.spread c.args.channel put.result _ _ put.ensures.page_says) c.of.ensures)
