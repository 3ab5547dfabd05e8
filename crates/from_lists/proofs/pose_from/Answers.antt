-- `from_lists::pose_from` meets its contract: its numbers determine the pose (`Back`). Assumes nothing.
use Rattle.std.proofs.lemmas.List.{length-map}
use Rattle.layout.specs.Layout.{pose_in, pose_numbers}
use Rattle.from_lists.specs.Lists.{pose_from, number_in}
use Rattle.from_lists.proofs.Back.{view_back, pose_back}
use Rattle.from_lists.proofs.pose_from.Goals as goal

pub returns : goal.returns
unfolding pose_from
returns g c =
    let real = g.met.T.Real in
    view_back _ pose_numbers (λ l. pose_in (number_in l) 0) pose_back _ _ _ _
    (rw (real.floats_law, length-map)) c.from_list.ensures
