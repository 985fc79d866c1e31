-- The closures take the numbers out of tracks and columns. Assumes nothing.
use Rattle.std.proofs.Common.{◌≡◌, rules}
use Rattle.stack.specs.Value.{tracks, columns, tracks_of, columns_of}
use Rattle.stack.specs.declared.Tracks.{Tracks}
use Rattle.stack.specs.declared.Columns.{Columns}
use Rattle.writing.proofs.Rows.{array_mapped, row_made}
use Rattle.writing.proofs.put_row.Goals as goal

pub returns : goal.returns
returns c =
    let separations : c.map.result ≡ tracks_of c.args.placement.separations = array_mapped _ (λ (t : Tracks). t.0) (tracks 0) (search rules) (λ p x r q m. search rules) c.map.ensures.items in
    let positions : c.map-2.result ≡ columns_of c.args.placement.positions = array_mapped _ (λ (x : Columns). x.0) (columns 0) (search rules) (λ p x r q m. search rules) c.map-2.ensures.items in
    let two = c.push_tabbed.ensures.added in
    let between = c.push_tabbed-2.ensures.added in
    let behind = c.push_tabbed-3.ensures.added in
    let row = row_made c.args.k c.args.spread c.args.placement.total.0 c.args.placement.separations c.args.placement.positions c.requires separations positions c.new-line.ensures c.push_word.ensures two between behind c.push.ensures in
    rw (c.as_slice.ensures, row) at c.put_line.ensures
