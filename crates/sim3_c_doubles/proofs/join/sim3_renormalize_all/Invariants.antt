-- `sim3_c_doubles::join::sim3_renormalize_all` meets its contract: after i turns the first i poses are renormalised and
-- the rest is as before. Assumes nothing.
use Prim.Native.Nat.{◌*◌}
use mathlib.Core.Path.{◌≡◌}
use mathlib.Core.List.{◌++◌}
use lib.ListN.{length, drop}
use lib.Ieee.{binary64}
use Rattle.sim3_c_doubles.specs.Join.{poses_renormalized}
use Rattle.sim3_c_doubles.proofs.join.sim3_renormalize_all.Given as goal

abbrev pub invariant-loop-i : goal.invariant-loop-i
invariant-loop-i l =
    (l.poses ≡ poses_renormalized binary64 l.initial.poses l.i ++ drop (l.i * 8) l.initial.poses)
    × (length l.poses ≡ length l.initial.poses)
