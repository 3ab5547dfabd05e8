-- `from_lists::tangent_from` meets its contract: its numbers determine the tangent (`Back`). Assumes nothing.
use Rattle.std.proofs.lemmas.List.{length-map}
use Rattle.from_lists.specs.Numbers.{tangent_numbers}
use Rattle.layout.specs.Layout.{tangent_in}
use Rattle.from_lists.specs.Lists.{tangent_from, number_in}
use Rattle.from_lists.proofs.Back.{view_back, tangent_back}
use Rattle.from_lists.proofs.tangent_from.Goals as goal

pub returns : goal.returns
unfolding tangent_from
returns g c =
    let real = g.met.T.Real in
    view_back _ tangent_numbers (λ l. tangent_in (number_in l) 0) tangent_back _ _ _ _
    (rw (real.floats_law, length-map)) c.from_list.ensures
