-- `point_lists::put_point` meets its contract: three stores, one after another. Assumes nothing.
use Rattle.std.proofs.Common.{List, ap, sym, ◌∙◌}
use Rattle.std.specs.Prelude.{Float}
use Rattle.linalg.specs.Floats.{as_vec3}
use Rattle.point_lists.specs.Private.{put_point}
use Rattle.point_lists.proofs.Lists.{put_map}
use Rattle.point_lists.proofs.put_point.Goals as goal

pub returns : goal.returns
returns g c =
    let a = c.args in
    let law = g.met.T.Real.floats_law in
    let h = g.T.Real.float in
    law _ ∙ put_map h a.out.now a.at a.p.x a.p.y a.p.z ∙ ap (λ (l : List Float). put_point l a.at (as_vec3 h a.p))
    (sym (law a.out.now))
