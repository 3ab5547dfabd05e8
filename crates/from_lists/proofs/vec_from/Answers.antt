-- `from_lists::vec_from` meets its contract: its numbers determine the vector (`Back`). Assumes nothing.
use Rattle.std.proofs.lemmas.List.{length-map}
use Rattle.linalg.specs.Vector.{vec_numbers}
use Rattle.layout.specs.Layout.{vec_in}
use Rattle.from_lists.specs.Lists.{vec_from, number_in}
use Rattle.from_lists.proofs.Back.{view_back, vec_back}
use Rattle.from_lists.proofs.vec_from.Goals as goal

pub returns : goal.returns
unfolding vec_from
returns g c =
    let real = g.met.T.Real in
    view_back _ vec_numbers (λ l. vec_in (number_in l) 0) vec_back _ _ _ _
    (rw (real.floats_law, length-map)) c.from_list.ensures
