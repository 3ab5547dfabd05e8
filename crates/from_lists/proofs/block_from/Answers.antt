-- `from_lists::block_from` meets its contract: its numbers determine the block (`Back`). Assumes nothing.
use Rattle.std.proofs.lemmas.List.{length-map}
use Rattle.layout.specs.Layout.{block_in, block_numbers}
use Rattle.from_lists.specs.Lists.{block_from, number_in}
use Rattle.from_lists.proofs.Back.{view_back, block_back}
use Rattle.from_lists.proofs.block_from.Goals as goal

pub returns : goal.returns
unfolding block_from
returns g c =
    let real = g.met.T.Real in
    view_back _ block_numbers (λ l. block_in (number_in l) 0) block_back _ _ _ _
    (rw (real.floats_law, length-map)) c.from_list.ensures
