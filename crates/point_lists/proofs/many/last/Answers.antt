-- `point_lists::many::last` meets its contract: if e is the count, nothing is left, and else the one triple left goes
-- to its place. Assumes nothing.
use Rattle.std.proofs.Common.{◌≡◌, ◌+◌, ◌/◌, length, arith, ap, ◌∙◌}
use Rattle.linalg.specs.Floats.{as_vec3, as_mat3}
use Rattle.point_lists.specs.Points.{points_moved, mat_act}
use Rattle.point_lists.proofs.Lists.{moved_last, moved_all, floats_length}
use Rattle.point_lists.proofs.many.last.Goals as goal

pub returns-then-e-n : goal.returns-then-e-n
returns-then-e-n g c =
    let a = c.args in
    let h = g.T.Real.float in
    let fl = g.T.Real.floats in
    let m = mat_act g.T.Real.format (as_mat3 h a.m) (as_vec3 h a.t) in
    let k = floats_length h fl g.met.T.Real.floats_law a.out.now in
    moved_all m (fl a.pts.now) (fl a.out.now) a.e (omega (arith, k, c.requires.lengths, c.if-e-n.true))
    ∙ ap (points_moved m (fl a.pts.now)) c.if-e-n.true

pub returns : goal.returns
returns g c =
    let a = c.args in
    let h = g.T.Real.float in
    let fl = g.T.Real.floats in
    let m = mat_act g.T.Real.format (as_mat3 h a.m) (as_vec3 h a.t) in
    let k = floats_length h fl g.met.T.Real.floats_law a.out.now in
    let q : a.e + 1 ≡ length a.pts.now / 3 = omega (arith, c.requires.count, c.if-e-n.false) in
    let moved = moved_last m (fl a.pts.now) (fl a.out.now) a.e (omega (arith, k, c.requires.lengths, q))
    ∙ ap (points_moved m (fl a.pts.now)) q in
    simp (c.put_point.ensures, c.mat_act.ensures, c.point_at.ensures) moved
