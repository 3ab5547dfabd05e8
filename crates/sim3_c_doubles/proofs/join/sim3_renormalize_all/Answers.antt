-- `sim3_c_doubles::join::sim3_renormalize_all` meets its contract: it renormalises a list of whole poses, and leaves
-- any other as it was. Assumes nothing.
use Prim.Native.Nat.{◌+◌, ◌*◌, ◌-◌}
use mathlib.Core.Path.{◌≡◌, ◌∙◌}
use native.Mathlib.Omega.{arith}
use borrow.Rule.Slice.PartMut.{same_len_mid}
use lib.Ieee.{binary64}
use Rattle.sim3_c_doubles.proofs.PoseRuns.{part_more}
use Rattle.sim3_c_doubles.proofs.join.sim3_renormalize_all.Goals as goal

pub loop-i-preserved : goal.loop-i-preserved
loop-i-preserved c =
    let a = c.args in
    let L = c.loop-i in
    let k : L.i * 8 + 8 - L.i * 8 ≡ 8 = omega arith in (
      rw k (part_more binary64 a.poses.now L.poses _ L.i (omega arith) L.invariant.1 L.invariant.0
          (rw k at c.sim3_renormalize.ensures.x_after)),
      same_len_mid (L.i * 8) (L.i * 8 + 8 - L.i * 8) L.poses c.sim3_renormalize.new.x c.sim3_renormalize.auto.x
          ∙ L.invariant.1,
    )
