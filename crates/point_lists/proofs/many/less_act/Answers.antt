-- `point_lists::many::less_act` meets its contract: subtracting each product is adding it with one factor negated.
-- Assumes nothing.
use Rattle.std.proofs.Common.{rules, ◌∙◌}
use Rattle.linalg.specs.Floats.{as_vec3, as_mat3}
use Rattle.point_lists.proofs.Fours.{less_is}
use Rattle.point_lists.proofs.many.less_act.Goals as goal

pub returns : goal.returns
returns g c =
    let a = c.args in
    let h = g.T.Real.float in
    let real = g.met.T.Real in
    search (rules, real.add_law, real.sub_law, real.mul_law)
    ∙ less_is g.T.Real.format (as_mat3 h a.m) (as_vec3 h a.t) (as_vec3 h a.p)
