-- Nothing where there is no space, or the lines of all tracks. Assumes nothing.
use native.Mathlib.Omega.{arith}
use Rattle.plot.proofs.Ends.{ends_asked, arrivals_shown, drawn_right}
use Rattle.plot.proofs.Lines.{page_left_out, page_whole}
use borrow.Author.Rules.{rules}
use Rattle.plot.proofs.put_page.Goals as goal

pub returns-then-out-bytes : goal.returns-then-out-bytes
returns-then-out-bytes c = page_left_out _ _ _ _ (omega (arith, c.requires.1)) _ (search rules)

pub new-levels-requires : goal.new-levels-requires
new-levels-requires c = ends_asked c.args.terminals.now _ _ _ c.requires.0

pub put_tracks-requires : goal.put_tracks-requires
put_tracks-requires c = let filled = c.new-levels.ensures in (
  filled.low,
  arrivals_shown c.args.terminals.now _ _ _ c.requires.0 _ filled,
  omega (arith, filled.counted, (ends_asked c.args.terminals.now _ _ _ c.requires.0).few),
  omega (arith, c.if-out-bytes.false),
  c.requires.1,
)

pub returns : goal.returns
returns c = let filled = c.new-levels.ensures in
    page_whole _ _ _ _ (omega (arith, c.requires.1)) _ _ _ (drawn_right c.args.terminals.now _ _ _ c.requires.0 _ filled c.requires.1) (search rules) c.put_tracks.ensures
