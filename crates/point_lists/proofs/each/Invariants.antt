-- `point_lists::each` meets its contract: after i turns the first i triples are moved and the rest is as before.
-- Assumes nothing.
use Rattle.std.proofs.Common.{◌≡◌, ◌*◌, ◌++◌, length, drop}
use Rattle.linalg.specs.Floats.{Vec3}
use Rattle.point_lists.specs.Points.{points_moved}
use Rattle.point_lists.specs.Private.{Moves}
use Rattle.point_lists.proofs.each.Given as goal

abbrev pub invariant-loop-i : goal.invariant-loop-i
invariant-loop-i g l =
    ((m : Vec3 → Vec3) → Moves g.T.Real.float (goal.F-post g l.f) m →
    g.T.Real.floats l.out ≡ points_moved m (g.T.Real.floats l.pts) l.i
    ++ drop (l.i * 3) (g.T.Real.floats l.initial.out))
    × (length l.out ≡ length l.initial.out)
