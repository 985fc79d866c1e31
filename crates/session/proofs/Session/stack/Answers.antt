-- stack meets its contract. Assumes nothing.
use mathlib.Core.Path.{refl}
use borrow.Author.Rules.{rules}
use Rattle.stack.specs.Value.{free_strip, columns}
use Rattle.session.proofs.Values.{same_stack, all_free}
use Rattle.session.proofs.Session.stack.Goals as goal

pub returns : goal.returns
returns c = let m = c.map.ensures.items in
    same_stack c.args.self.now _ c.requires refl (all_free c.args.self.now.lengths c.map.result (search rules) m.long (λ i h. let k = m.at i (columns 0) (free_strip 0) h in search rules)) refl refl
