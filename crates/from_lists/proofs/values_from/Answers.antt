-- `from_lists::values_from` meets its contract: its numbers determine the values (`Back`). Assumes nothing.
use Rattle.std.proofs.lemmas.List.{length-map}
use Rattle.from_lists.specs.Numbers.{values_numbers}
use Rattle.layout.specs.Layout.{values_in}
use Rattle.from_lists.specs.Lists.{values_from, number_in}
use Rattle.from_lists.proofs.Back.{view_back, values_back}
use Rattle.from_lists.proofs.values_from.Goals as goal

pub returns : goal.returns
unfolding values_from
returns g c =
    let real = g.met.T.Real in
    view_back _ values_numbers (λ l. values_in (number_in l) 0) values_back _ _ _ _
    (rw (real.floats_law, length-map)) c.from_list.ensures
