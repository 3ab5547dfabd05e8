-- `dense_jacobian::put_column` meets its contract: the borrowed part is the run of the column. Assumes nothing.
use native.Mathlib.Omega.{arith}
use Prim.Native.Nat.{◌+◌, ◌-◌}
use mathlib.Core.Path.{◌≡◌, refl, ap, ◌∙◌}
use mathlib.Core.List.{map}
use Rattle.sim3.specs.Tangent.{tangent_to_dense}
use Rattle.dense_jacobian.proofs.Parts.{stored}
use Rattle.dense_jacobian.proofs.put_column.Goals as goal

pub returns : goal.returns
unfolding tangent_to_dense
returns g c =
    let h = g.T.Real.float in
    let k : c.args.at + 7 - c.args.at ≡ 7 = omega arith in
    rw k (stored h c.args.out.now _ _ c.args.at (ap (map h) c.copy_from_slice.ensures.after
    ∙ c.to_dense.ensures) refl c.requires)
