-- `point_lists::many::fours` meets its contract: after i chunks 4 i triples are moved and the rest is as before.
-- Assumes nothing.
use Rattle.std.proofs.Common.{◌≡◌, ◌*◌, ◌++◌, length, drop}
use Rattle.linalg.specs.Floats.{as_vec3, as_mat3}
use Rattle.point_lists.specs.Points.{points_moved, mat_act}
use Rattle.point_lists.specs.Private.{mat_columns_negated}
use Rattle.point_lists.proofs.many.fours.Given as goal

abbrev pub invariant-loop-i : goal.invariant-loop-i
invariant-loop-i g l =
    (g.T.Real.floats l.out
    ≡ points_moved (mat_act g.T.Real.format (mat_columns_negated (as_mat3 g.T.Real.float l.m))
    (as_vec3 g.T.Real.float l.t)) (g.T.Real.floats l.pts) (l.i * 4)
    ++ drop (l.i * 12) (g.T.Real.floats l.initial.out))
    × (length l.out ≡ length l.initial.out)
