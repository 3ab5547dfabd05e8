-- `from_lists::mat_from` meets its contract: its numbers determine the matrix (`Back`). Assumes nothing.
use Rattle.std.proofs.lemmas.List.{length-map}
use Rattle.layout.specs.Layout.{mat_in, mat_numbers}
use Rattle.from_lists.specs.Lists.{mat_from, number_in}
use Rattle.from_lists.proofs.Back.{view_back, mat_back}
use Rattle.from_lists.proofs.mat_from.Goals as goal

pub returns : goal.returns
unfolding mat_from
returns g c =
    let real = g.met.T.Real in
    view_back _ mat_numbers (λ l. mat_in (number_in l) 0) mat_back _ _ _ _
    (rw (real.floats_law, length-map)) c.from_list.ensures
