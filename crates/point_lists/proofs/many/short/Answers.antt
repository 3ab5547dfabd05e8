-- `point_lists::many::short` meets its contract: the last triple of an odd count is in its place before the others are
-- moved. Assumes nothing.
use Rattle.std.proofs.Common.{rules, ◌≡◌, ◌-◌, ◌*◌, ◌/◌, ◌%◌, length, take, arith, ap, ◌∙◌}
use Rattle.std.specs.Prelude.{Float, List}
use lib.Seq.{length-take-le}
use Rattle.linalg.specs.Floats.{as_vec3, as_mat3}
use Rattle.point_lists.specs.Points.{points_moved, mat_act}
use Rattle.point_lists.proofs.Lists.{moved_part, floats_take}
use Rattle.point_lists.proofs.many.short.Goals as goal

pub returns : goal.returns
returns g c =
    let a = c.args in
    let h = g.T.Real.float in
    let fl = g.T.Real.floats in
    let law = g.met.T.Real.floats_law in
    let m = mat_act g.T.Real.format (as_mat3 h a.m) (as_vec3 h a.t) in
    let n = length a.pts.now / 3 in
    let e = n - n % 2 in
    let k : length (take (e * 3) a.pts.now) ≡ e * 3 = length-take-le (e * 3) a.pts.now (omega arith) in
    let k3 : length (take (e * 3) a.pts.now) / 3 ≡ e = omega (arith, k) in
    let p : points_moved m (fl (take (e * 3) a.pts.now)) e ≡ points_moved m (fl a.pts.now) e =
    ap (λ (l : List Float). points_moved m l e) (floats_take h fl law (e * 3) a.pts.now)
    ∙ moved_part m (fl a.pts.now) (e * 3) e (omega arith) in
    let moved = rw (k3, p) at (c.each.ensures.moved m (λ p q post. search rules)) in
    moved ∙ c.last.ensures
